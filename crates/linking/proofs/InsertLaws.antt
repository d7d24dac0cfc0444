-- What putting one in does to a list, and to a chain over any links.
use mathlib.Core.Path.{◌≡◌, refl, sym, ◌∙◌, ap, ap₂}
use mathlib.Core.Bool.{Bool, true, false, cond, ◌||◌, or_assoc, or_comm}
use mathlib.Core.Logic.{⊎_elim}
use mathlib.Core.List.{List, [], ◌∷◌}
use Prim.Native.Nat.{ℕ, zero, suc, ◌≤◌, ◌<◌}
use native.Mathlib.Omega.{arith}
use lib.Dec.{eqb, ltb}
use lib.ListN.{length}
use borrow.Author.Tests.{ltb-true, ltb-false, lt-ltb, le-ltb, ne_eqb}
use Rattle.bools.proofs.BoolLaws.{and_i}
use Rattle.sets.specs.Upto.{keep, among, rises_from}
use Rattle.sets.proofs.RisingLaws.{among-head, among-tail, among-e, rises-head, rises-tail, rises-above, rises-once}
use Rattle.linking.specs.Linking.{chain, last_of, behind, inserted}
use Rattle.linking.proofs.PathLaws.{Path, path-rows, path-same, behind-row, path-of, chain-of}

-- ---- the last that passes
pub last_none : (p : ℕ → Bool) (a : ℕ) (xs : List ℕ) → ((j : ℕ) → among xs j ≡ true → p j ≡ false) → last_of p a xs ≡ a
unfolding last_of
last_none p a [] none = refl
last_none p a (x ∷ xs) none = rw (none x (among-head x xs)) (last_none p a xs (λ j m. none j (among-tail x xs j m)))

pub last-among : (p : ℕ → Bool) (a : ℕ) (xs : List ℕ) → among (a ∷ xs) (last_of p a xs) ≡ true
unfolding last_of
last-among p a [] = among-head a []
last-among p a (x ∷ xs) = go (p x) (last-among p (cond (p x) x a) xs)
  where
    go : (b : Bool) → among (cond b x a ∷ xs) (last_of p (cond b x a) xs) ≡ true → among (a ∷ (x ∷ xs)) (last_of p (cond b x a) xs) ≡ true
    go true m = among-tail a (x ∷ xs) _ m
    go false m = ⊎_elim
        (λ n. among-tail a (x ∷ xs) _ (among-tail x xs _ n))
        (λ q. rw (← q) (among-head a (x ∷ xs)))
        (among-e a xs _ m)

-- it goes by the test of what is on the list alone
pub last-same : (p q : ℕ → Bool) (a : ℕ) (xs : List ℕ) → ((j : ℕ) → among xs j ≡ true → p j ≡ q j) → last_of p a xs ≡ last_of q a xs
unfolding last_of
last-same p q a [] e = refl
last-same p q a (x ∷ xs) e = ap (λ (b : Bool). last_of p (cond b x a) xs) (e x (among-head x xs)) ∙ last-same p q (cond (q x) x a) xs (λ j m. e j (among-tail x xs j m))

-- ---- the list with a row more
module _ (f : ℕ → ℕ) (x w : ℕ) where
  pub inserted-length : (xs : List ℕ) → length (inserted f x w xs) ≡ suc (length xs)
  unfolding inserted
  inserted-length [] = refl
  inserted-length (k ∷ xs) = go (ltb (f k) x) (inserted-length xs)
    where
      go : (b : Bool) → length (inserted f x w xs) ≡ suc (length xs) → length (cond b (k ∷ inserted f x w xs) (w ∷ k ∷ xs)) ≡ suc (suc (length xs))
      go true e = ap suc e
      go false e = refl

  pub inserted-among : (xs : List ℕ) (j : ℕ) → among (inserted f x w xs) j ≡ (among xs j || eqb w j)
  unfolding inserted among
  inserted-among [] j = refl
  inserted-among (k ∷ xs) j = go (ltb (f k) x) (inserted-among xs j)
    where
      go : (b : Bool) → among (inserted f x w xs) j ≡ (among xs j || eqb w j) → among (cond b (k ∷ inserted f x w xs) (w ∷ k ∷ xs)) j ≡ ((among xs j || eqb k j) || eqb w j)
      go true e = rw e (or_assoc (among xs j) (eqb w j) (eqb k j) ∙ ap (λ (b : Bool). among xs j || b) (or_comm (eqb w j) (eqb k j)) ∙ sym (or_assoc (among xs j) (eqb k j) (eqb w j)))
      go false e = refl

  -- whom nobody lists alters no list
  pub inserted-keep : (p : ℕ → Bool) → p w ≡ false → (xs : List ℕ) → keep p (inserted f x w xs) ≡ keep p xs
  unfolding inserted keep
  inserted-keep p off [] = rw off
  inserted-keep p off (k ∷ xs) = go (ltb (f k) x) (inserted-keep p off xs)
    where
      go : (b : Bool) → keep p (inserted f x w xs) ≡ keep p xs → keep p (cond b (k ∷ inserted f x w xs) (w ∷ k ∷ xs)) ≡ cond (p k) (k ∷ keep p xs) (keep p xs)
      go true e = rw e
      go false e = rw off

  -- where w has the name x and no other row has it, names rise along it
  pub inserted-rises : f w ≡ x → (a : ℕ) (xs : List ℕ) → a < x → ((j : ℕ) → among xs j ≡ true → f j ≡ x → ⊥) → rises_from a f xs ≡ true → rises_from a f (inserted f x w xs) ≡ true
  unfolding inserted rises_from
  inserted-rises new a [] l free h = rw (new, lt-ltb a x l)
  inserted-rises new a (k ∷ xs) l free h = go (ltb (f k) x) refl (λ s. inserted-rises new (f k) xs s (λ j m. free j (among-tail k xs j m)) (rises-tail f a k xs h))
    where
      go : (b : Bool) → ltb (f k) x ≡ b → (f k < x → rises_from (f k) f (inserted f x w xs) ≡ true) → rises_from a f (cond b (k ∷ inserted f x w xs) (w ∷ k ∷ xs)) ≡ true
      go true e ih = and_i (ltb a (f k)) _ (lt-ltb a (f k) (rises-head f a k xs h)) (ih (ltb-true _ _ e))
      go false e ih =
          let d : x < f k = omega (arith, ltb-false, free k (among-head k xs)) in
          rw (new, lt-ltb a x l, lt-ltb x (f k) d) (rises-tail f a k xs h)

-- it goes by the names of the rows on the list alone
pub inserted_same : (f g : ℕ → ℕ) (x w : ℕ) (xs : List ℕ) → ((j : ℕ) → among xs j ≡ true → g j ≡ f j) → inserted g x w xs ≡ inserted f x w xs
unfolding inserted
inserted_same f g x w [] e = refl
inserted_same f g x w (k ∷ xs) e =
    ap₂ (λ (y : ℕ) (l : List ℕ). cond (ltb y x) (k ∷ l) (w ∷ k ∷ xs)) (e k (among-head k xs)) (inserted_same f g x w xs (λ j m. e j (among-tail k xs j m)))

-- ---- the chain with a row more
-- w is put in behind row p; the other rows keep their steps
record PutIn (step step' : ℕ → ℕ) (w : ℕ) (rows : List ℕ) (p : ℕ) : Type 0 where
  into : step' p ≡ w
  onto : step' w ≡ step p
  same : (j : ℕ) → among rows j ≡ true → (j ≡ p → ⊥) → step' j ≡ step j

module _ (f : ℕ → ℕ) (x w : ℕ) (row : 1 ≤ w) (step step' : ℕ → ℕ) where
  -- what follows row a, the last row below x among it or a itself
  put_in : (a low : ℕ) (xs : List ℕ) → Path step a xs → rises_from low f xs ≡ true → ((j : ℕ) → among xs j ≡ true → j ≡ a → ⊥)
      → PutIn step step' w (a ∷ xs) (last_of (λ i. ltb (f i) x) a xs) → Path step' a (inserted f x w xs)
  unfolding Path last_of inserted
  put_in a low [] p h apart r = (r.into, row, r.onto ∙ p)
  put_in a low (k ∷ xs) p h apart r = go (ltb (f k) x) refl r (put_in k (f k) xs p.2 (rises-tail f low k xs h) (rises-once f k xs (rises-tail f low k xs h)))
    where
      last : ℕ → ℕ
      last c = last_of (λ i. ltb (f i) x) c xs

      go : (b : Bool) → ltb (f k) x ≡ b → PutIn step step' w (a ∷ k ∷ xs) (last (cond b k a))
          → (PutIn step step' w (k ∷ xs) (last k) → Path step' k (inserted f x w xs))
          → Path step' a (cond b (k ∷ inserted f x w xs) (w ∷ k ∷ xs))
      go true e r ih =
          let later : (j : ℕ) → among (k ∷ xs) j ≡ true → among (a ∷ k ∷ xs) j ≡ true = among-tail a (k ∷ xs) in
          let other : a ≡ last k → ⊥ = λ q. apart (last k) (last-among (λ i. ltb (f i) x) k xs) (sym q) in
          (r.same a (among-head a (k ∷ xs)) other ∙ p.0, p.1, ih (record { into = r.into; onto = r.onto; same = λ j m. r.same j (later j m) }))
      go false e r ih =
          let none : last a ≡ a = last_none (λ i. ltb (f i) x) a xs (λ j m. le-ltb (f j) x (omega (arith, ltb-false, rises-above f (f k) xs (rises-tail f low k xs h) j m))) in
          let rest : Path step' k xs = path-same step step' k xs (λ j m. r.same j (among-tail a (k ∷ xs) j m) (λ q. apart j m (q ∙ none))) p.2 in
          (ap step' (sym none) ∙ r.into, row, (r.onto ∙ ap step none ∙ p.0, p.1, rest))

-- ---- the whole chain
-- links with w put in behind row p, in front where p is 0: nothing is asked of rows that are not on the path
pub record Relinked (path : List ℕ) (p w first first' : ℕ) (next next' : ℕ → ℕ) : Type 0 where
  pub front : first' ≡ cond (eqb p 0) w first
  pub into : 1 ≤ p → next' p ≡ w
  pub onto : next' w ≡ behind first next p
  pub same : (j : ℕ) → among path j ≡ true → (j ≡ p → ⊥) → next' j ≡ next j

put_of : {xs : List ℕ} {p w first first' : ℕ} {next next' : ℕ → ℕ} → 1 ≤ w → ((j : ℕ) → among xs j ≡ true → 1 ≤ j) → Relinked xs p w first first' next next'
    → PutIn (behind first next) (behind first' next') w (0 ∷ xs) p
unfolding behind
put_of {xs} {p} {w} {first} {first'} {next} {next'} row rows r = record {
  into = into p r.front r.into;
  onto = behind-row first' next' w row ∙ r.onto;
  same = λ j m d. ⊎_elim
      (λ n. behind-row first' next' j (rows j n) ∙ r.same j n d ∙ sym (behind-row first next j (rows j n)))
      (λ q. rw (← q) (r.front ∙ rw (ne_eqb p 0 (λ z. d (sym q ∙ sym z)))))
      (among-e 0 xs j m);
}
  where
    into : (p : ℕ) → first' ≡ cond (eqb p 0) w first → (1 ≤ p → next' p ≡ w) → behind first' next' p ≡ w
    into zero e i = e
    into (suc k) e i = behind-row first' next' (suc k) (omega arith) ∙ i (omega arith)

-- a chain that has ended after at most n rows, and w put in: any number of steps above n goes along it
pub chain-inserted : (f next next' : ℕ → ℕ) (x w n first first' : ℕ) → 1 ≤ w → (path : List ℕ) → chain next (suc n) first ≡ path → length path ≤ n
    → rises_from 0 f path ≡ true → Relinked path (last_of (λ i. ltb (f i) x) 0 path) w first first' next next' → (m : ℕ) → n < m → chain next' m first' ≡ inserted f x w path
chain-inserted f next next' x w n first first' row path here few h r m l =
    let before : Path (behind first next) 0 path = rw (← here) (path-of first next n (rw here few)) in
    let rows = path-rows (behind first next) 0 path before in
    chain-of first' next' m (inserted f x w path)
    (put_in f x w row (behind first next) (behind first' next') 0 0 path before h (λ j a q. omega (arith, rows j a)) (put_of row rows r))
    (omega (arith, inserted-length f x w path))
