-- An order that goes from row to row: rows 1 to n. Its members are walked alone, the lowest first.
use mathlib.Core.Path.{◌≡◌, refl, sym, ◌∙◌, ap, ap₂, subst, fun_ext}
use mathlib.Core.Bool.{Bool, true, false, not, cond, ◌&&◌, and-true, and-false}
use mathlib.Core.Logic.{◌⊎◌, inl, inr}
use mathlib.Core.List.{List, [], ◌∷◌, ◌++◌}
use Prim.Native.Nat.{ℕ, zero, suc, ◌+◌, ◌-◌, ◌^◌, ◌≤◌, ◌<◌, min}
use native.Mathlib.Nat.{add-suc, add-zero, pos_of_ne-zero}
use native.Mathlib.Decide.{dec_le}
use native.Mathlib.Omega.{arith}
use lib.Bits.{bit_xor, xor_add_and, and_le_l, and_le_r}
use lib.Dec.{eqb, leb, ltb}
use lib.ListN.{length, get_or, take}
use lib.Seq.{take-suc}
use borrow.Author.Tests.{le-leb, lt-leb, lt-ltb, ltb-true, eqb-true, eqb-false, ne_eqb, not-true}
use Rattle.sets.specs.Upto.{Within, some, lowest, upward, keep}
use Rattle.sets.specs.Sets.{has, is_row, losing, cut_to, first_rows}
use Rattle.bools.proofs.BoolLaws.{and_l, and_r, and_i, same_test, clash}
use Rattle.sets.proofs.UptoLaws.{last, some_of, lowest-at}
use Rattle.sets.proofs.TestLaws.{none-at}
use Rattle.sets.proofs.RisingLaws.{upward-length, upward-more}
use Rattle.sets.proofs.KeepLaws.{keep-more, keep-length}
use Rattle.sets.proofs.SetLaws.{first-in, first_out, has_within, not-empty}
use Rattle.table.specs.Asked.{Listed}
use Rattle.counties.specs.Levels.{seats, at_seat}
use Rattle.lists.proofs.SeatLaws.{all-seated}

upward-at : (n a k : ℕ) → k < n → get_or (upward n a) k 0 ≡ a + k
unfolding upward
upward-at zero a k h = absurd (omega arith)
upward-at (suc n) a zero h = sym (add-zero a)
upward-at (suc n) a (suc k) h = upward-at n (suc a) k (omega arith) ∙ omega arith

-- ---- the test of the order
-- a row whose bits do not differ from those of another is that one
same_row : (a b : ℕ) → eqb (min a (bit_xor a b)) 0 ≡ true → 1 ≤ a → a ≡ b
same_row a b e h =
    let z : min a (bit_xor a b) ≡ 0 = eqb-true _ _ e in
    omega (arith, xor_add_and a b, and_le_l a b, and_le_r a b)

-- the places before k are right, if the bits so far are 0
abbrev pub Right : List ℕ → ℕ → ℕ → Type 0
Right order bits k = eqb bits 0 ≡ true → (j : ℕ) → j < k → 1 ≤ get_or order j 0 → get_or order j 0 ≡ j + 1

pub none_right : (order : List ℕ) → Right order 0 0
none_right order e j h = absurd (omega arith)

pub one_right : (order rows : List ℕ) (bits k low m : ℕ) → k < 64 → rows ≡ upward 64 1 → Right order bits k → low ≡ min (get_or order k 0) (bit_xor (get_or order k 0) (get_or rows k 0)) → eqb m 0 ≡ (eqb bits 0 && eqb low 0) → Right order m (k + 1)
one_right order rows bits k low m inside er r el em e j h some = go (dec_le k j)
  where
    both : (eqb bits 0 && eqb low 0) ≡ true
    both = sym em ∙ e

    own : get_or rows k 0 ≡ 1 + k
    own = ap (λ (xs : List ℕ). get_or xs k 0) er ∙ upward-at 64 1 k inside

    go : Dec (k ≤ j) → get_or order j 0 ≡ j + 1
    go (yes l) =
        let q : k ≡ j = omega arith in
        ap (λ (i : ℕ). get_or order i 0) (sym q) ∙ same_row (get_or order k 0) (get_or rows k 0) (ap (λ (x : ℕ). eqb x 0) (sym el) ∙ and_r (eqb bits 0) _ both) (rw (← q) at some) ∙ own ∙ omega arith
    go (no l) = r (and_l _ _ both) j (omega arith) some

straight-is : (order : List ℕ) (n : ℕ) → n ≤ length order → ((k : ℕ) → k < n → get_or order k 0 ≡ k + 1) → take n order ≡ upward n 1
unfolding upward
straight-is order zero few each = refl
straight-is order (suc n) few each =
    take-suc order n 0 (omega arith) ∙ ap₂ (λ (xs : List ℕ) (x : ℕ). xs ++ (x ∷ [])) (straight-is order n (omega arith) (λ k h. each k (omega arith))) (each n (omega arith) ∙ omega arith)
    ∙ sym (upward-more n 1)

pub straight_chain : {rows chain : List ℕ} → Listed (length chain) rows (length chain) × (take (length chain) rows ≡ chain) → ((k : ℕ) → k < 64 → 1 ≤ get_or rows k 0 → get_or rows k 0 ≡ k + 1) → chain ≡ upward (length chain) 1
straight_chain {rows = rows} {chain = chain} l each =
    sym l.1 ∙ straight-is rows (length chain) (omega (arith, l.0.places, l.0.few)) (λ k h. each k (omega (arith, l.0.few)) (l.0.each k h).0)

-- ---- those of rows 1 to m that pass
-- one row more
seats-more : (m : ℕ) (p : ℕ → Bool) → seats (upward (suc m) 1) p ≡ cond (p (suc m)) (seats (upward m 1) p ++ (suc m ∷ [])) (seats (upward m 1) p)
unfolding seats
seats-more m p =
    let q : 1 + m ≡ suc m = omega arith in
    ap (keep p) (upward-more m 1 ∙ ap (λ (x : ℕ). upward m 1 ++ (x ∷ [])) q) ∙ keep-more p (upward m 1) (suc m)

-- rows that do not pass
seats-skip : (p : ℕ → Bool) (m d : ℕ) → ((i : ℕ) → m < i → i ≤ m + d → p i ≡ false) → seats (upward (m + d) 1) p ≡ seats (upward m 1) p
seats-skip p m zero none = ap (λ (n : ℕ). seats (upward n 1) p) (add-zero m)
seats-skip p m (suc d) none =
    ap (λ (n : ℕ). seats (upward n 1) p) (add-suc m d) ∙ seats-more (m + d) p
    ∙ ap (λ (b : Bool). cond b (seats (upward (m + d) 1) p ++ (suc (m + d) ∷ [])) (seats (upward (m + d) 1) p)) (none (suc (m + d)) (omega arith) (omega arith))
    ∙ seats-skip p m d (λ i h l. none i h (omega arith))

seats-up : (p : ℕ → Bool) (m n : ℕ) → m ≤ n → ((i : ℕ) → m < i → i ≤ n → p i ≡ false) → seats (upward n 1) p ≡ seats (upward m 1) p
seats-up p m n h none =
    let q : n ≡ m + (n - m) = omega arith in
    ap (λ (x : ℕ). seats (upward x 1) p) q ∙ seats-skip p m (n - m) (λ i l u. none i l (omega arith))

seats-ext : (p q : ℕ → Bool) (n : ℕ) → ((i : ℕ) → Within n i → p i ≡ q i) → seats (upward n 1) p ≡ seats (upward n 1) q
unfolding seats keep upward
seats-ext p q zero same = refl
seats-ext p q (suc n) same =
    seats-more n p ∙ ap₂ (λ (b : Bool) (xs : List ℕ). cond b (xs ++ (suc n ∷ [])) xs) (same (suc n) (omega arith)) (seats-ext p q n (λ i w. same i (omega arith))) ∙ sym (seats-more n q)

pub seats-few : (m : ℕ) (p : ℕ → Bool) → length (seats (upward m 1) p) ≤ m
unfolding seats
seats-few m p = omega (arith, keep-length p (upward m 1), upward-length m 1)

-- those of the first n rows
pub seats-cut : (p : ℕ → Bool) (n : ℕ) → n ≤ 64 → seats (upward 64 1) (cut_to p (first_rows n)) ≡ seats (upward n 1) p
unfolding cut_to
seats-cut p n few =
    seats-up (cut_to p (first_rows n)) n 64 few (λ i h l. ap (λ (b : Bool). p i && b) (first_out n i h) ∙ and-false (p i))
    ∙ seats-ext (cut_to p (first_rows n)) p n (λ i w. ap (λ (b : Bool). p i && b) (first-in n i few w) ∙ and-true (p i))

-- ---- all of rows 1 to n
-- row k at position k
own : (n : ℕ) (s : ℕ → Bool) → n ≤ 64 → (k : ℕ) → Dec (1 ≤ k) → Dec (k ≤ n) → cut_to s (first_rows n) k ≡ at_seat (upward n 1) s k
unfolding cut_to at_seat first_rows is_row
own n s few k (yes l) (yes u) =
    let e : get_or (upward n 1) (k - 1) 0 ≡ k = upward-at n 1 (k - 1) (omega arith) ∙ omega arith in
    rw (first-in n k few (omega arith), and-true (s k), le-leb 1 k l, upward-length n 1, le-leb k n u, e)
own n s few k (yes l) (no u) = rw (first_out n k (omega arith), and-false (s k), upward-length n 1, lt-leb k n (omega arith), and-false (leb 1 k))
own n s few k (no l) u = let z : k ≡ 0 = omega arith in rw z (and-false (s 0))

-- each of them sits at its own position
pub all_held : (n : ℕ) (p s : ℕ → Bool) → n ≤ 64 → p ≡ first_rows n → cut_to s (first_rows n) ≡ at_seat (seats (upward n 1) p) s
all_held n p s few e = fun_ext (λ k. own n s few k (dec_le 1 k) (dec_le k n)) ∙ ap (λ (xs : List ℕ). at_seat xs s) (sym all)
  where
    all : seats (upward n 1) p ≡ upward n 1
    all = all-seated p (upward n 1) (λ k h.
        ap₂ (λ (f : ℕ → Bool) (x : ℕ). f x) e (upward-at n 1 k (omega (arith, upward-length n 1))) ∙ first-in n (1 + k) few (omega (arith, upward-length n 1)))

-- ---- a walk over the set s, the lowest member first: those up to m are passed, those of `left` are ahead
pub record Ahead (s left m : ℕ) : Type 0 where
  pub few : m ≤ 64
  pub ahead : (i : ℕ) → has left i ≡ (has s i && ltb m i)
  pub fewer : left ≤ s

pub all-ahead : (s : ℕ) → Ahead s s 0
unfolding has
all-ahead s = record { few = omega arith; ahead = go; fewer = omega arith }
  where
    go : (i : ℕ) → has s i ≡ (has s i && ltb 0 i)
    go zero = refl
    go (suc k) = sym (ap (λ (b : Bool). has s (suc k) && b) (lt-ltb 0 (suc k) (omega arith)) ∙ and-true (has s (suc k)))

-- the lowest is below all others
lowest-least : (n : ℕ) (p : ℕ → Bool) (i : ℕ) → Within n i → p i ≡ true → lowest n p ≤ i
unfolding lowest
lowest-least zero p i w e = absurd (omega arith)
lowest-least (suc n) p i w e = go (last n i w) (λ v. lowest-least n p i v e)
  where
    go : (i ≡ suc n) ⊎ Within n i → (Within n i → lowest n p ≤ i) → cond (some n p) (lowest n p) (cond (p (suc n)) (suc n) 0) ≤ i
    go (inl q) ih = bound (some n p) refl (p (suc n))
      where
        bound : (b : Bool) → some n p ≡ b → (d : Bool) → cond b (lowest n p) (cond d (suc n) 0) ≤ i
        bound true f d = omega (arith, q, (lowest-at n p f).0)
        bound false f true = omega arith
        bound false f false = omega arith
    go (inr v) ih = rw (some_of n p i v e) (ih v)

module _ {s left m : ℕ} (a : Ahead s left m) where
  -- none is ahead: the members are those passed
  pub all-passed : not (some 64 (has left)) ≡ true → seats (upward 64 1) (has s) ≡ seats (upward m 1) (has s)
  all-passed none = seats-up (has s) m 64 a.few (λ i h l. out i h (none-at 64 (has left) (not-true _ none) i (omega arith)) (has s i) refl)
    where
      out : (i : ℕ) → m < i → has left i ≡ false → (b : Bool) → has s i ≡ b → has s i ≡ false
      out i h e true q = absurd (clash (sym e ∙ a.ahead i ∙ and_i _ _ q (lt-ltb m i h)))
      out i h e false q = q

  -- some are ahead, and x is the lowest of them
  module _ (more : some 64 (has left) ≡ true) {x : ℕ} (low : x ≡ lowest 64 (has left)) where
    pub at-hand : Within 64 x × (has left x ≡ true)
    at-hand = subst (λ (y : ℕ). Within 64 y × (has left y ≡ true)) (sym low) (lowest-at 64 (has left) more)

    member : (has s x && ltb m x) ≡ true
    member = sym (a.ahead x) ∙ at-hand.1

    pub above : m < x
    above = ltb-true m x (and_r (has s x) _ member)

    -- who is ahead is not below it
    least : (i : ℕ) → Within 64 i → has left i ≡ true → x ≤ i
    least i w e = omega (arith, low, lowest-least 64 (has left) i w e)

    between : (i : ℕ) → m < i → i < x → has s i ≡ false
    between i h l = go (has s i) refl
      where
        go : (b : Bool) → has s i ≡ b → has s i ≡ false
        go true e = absurd (omega (arith, least i (omega (arith, at-hand.0)) (a.ahead i ∙ and_i _ _ e (lt-ltb m i h))))
        go false e = e

    -- x has the next seat
    pub seats-next : seats (upward x 1) (has s) ≡ seats (upward m 1) (has s) ++ (x ∷ [])
    seats-next = go x refl
      where
        go : (y : ℕ) → x ≡ y → seats (upward y 1) (has s) ≡ seats (upward m 1) (has s) ++ (y ∷ [])
        go zero e = absurd (omega (arith, above))
        go (suc y) e =
            seats-more y (has s) ∙ ap₂ (λ (b : Bool) (xs : List ℕ). cond b (xs ++ (suc y ∷ [])) xs) (ap (has s) (sym e) ∙ and_l _ _ member)
            (seats-up (has s) m y (omega (arith, above)) (λ i h l. between i h (omega arith)))

    module _ {rest : ℕ} (lost : (has rest ≡ losing (has left) (lowest 64 (has left))) × (rest ≤ left - 1)) where
      pub fewer-ahead : rest < left
      fewer-ahead = omega (arith, lost.1, pos_of_ne-zero (not-empty left more))

      pub one-passed : s < 2 ^ 64 → Ahead s rest x
      unfolding losing
      one-passed small = record { few = omega (arith, at-hand.0); ahead = λ i. ap (λ (f : ℕ → Bool). f i) lost.0 ∙ same_test _ _ (to i) (from i); fewer = omega (arith, lost.1, a.fewer) }
        where
          to : (i : ℕ) → (has left i && not (eqb i (lowest 64 (has left)))) ≡ true → (has s i && ltb x i) ≡ true
          to i e =
              let here : has left i ≡ true = and_l _ _ e in
              let l : x ≤ i = least i (has_within 64 left i (omega (arith, a.fewer)) here) here in
              let d : eqb i (lowest 64 (has left)) ≡ false = not-true _ (and_r (has left i) _ e) in
              and_i (has s i) _ (and_l _ _ (sym (a.ahead i) ∙ here)) (lt-ltb x i (omega (arith, low, eqb-false i (lowest 64 (has left)) d)))

          from : (i : ℕ) → (has s i && ltb x i) ≡ true → (has left i && not (eqb i (lowest 64 (has left)))) ≡ true
          from i e =
              let l : x < i = ltb-true x i (and_r (has s i) _ e) in
              and_i (has left i) _ (a.ahead i ∙ and_i (has s i) (ltb m i) (and_l (has s i) _ e) (lt-ltb m i (omega (arith, above))))
              (ap not (ne_eqb i (lowest 64 (has left)) (λ q. omega (arith, low))))
