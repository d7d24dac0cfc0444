-- The columns of a set of positions: those it touches, those it has two members in, those it has whole. A smallest write quorum by them, and the first row of a grid.
use mathlib.Core.Path.{◌≡◌, refl, sym, ◌∙◌, ap, ap₂}
use mathlib.Core.Bool.{Bool, true, false, not, cond, ◌&&◌, ◌||◌, and-true, and-false, or-false, or-true}
use mathlib.Core.Logic.{⊎_elim}
use Prim.Native.Nat.{ℕ, zero, suc, ◌+◌, ◌-◌, ◌≤◌, ◌<◌}
use native.Mathlib.Nat.{zero-add, mod-lt, mod-eq_of_lt, add-mod_right}
use native.Mathlib.Decide.{dec_le, dec_lt, ℕ_discrete}
use native.Mathlib.Omega.{arith}
use lib.Dec.{eqb, leb, leb-suc-suc}
use borrow.Author.Tests.{not-true, le-leb, lt-leb, leb-true, eq-eqb, ne_eqb}
use Rattle.bools.proofs.BoolLaws.{and_l, and_r, and_i, or_l, or_r, or-e, clash, same_test, not-not}
use Rattle.sets.specs.Upto.{Within, every, some, count, lowest}
use Rattle.sets.specs.Sets.{has, losing, joining, cut_to, left_of, first_rows}
use Rattle.sets.proofs.UptoLaws.{every-at, every_of, every-ext, some_at, some_of, some-none, not-every, count-ext, lowest-at}
use Rattle.sets.proofs.TestLaws.{none-at}
use Rattle.sets.proofs.CountLaws.{count_less, some-count}
use Rattle.sets.proofs.SetLaws.{empty-at, first-in, first_out, first-within}
use Rattle.grid.specs.declared.Grid.{Grid}
use Rattle.grid.specs.Sizes.{column_of}
use Rattle.quorums.specs.declared.Kind.TheVariants.{Write}
use Rattle.quorums.specs.Quorums.{touches, covers, read_quorum, write_quorum, quorum}
use Rattle.quorums.proofs.QuorumLaws.{touched, touch, covered, cover}
use Rattle.charting.specs.Charts.{smallest}
use Rattle.columns.specs.Columns.{held_in, twice, ColumnsOf}
use Rattle.charting.proofs.SmallestLaws.{smallest-writes, stops, smallest-of, lost, lose-part}

touches-count : (n N : ℕ) (held : ℕ → Bool) (j : ℕ) → touches n N held j ≡ leb 1 (held_in n N held j)
unfolding touches held_in
touches-count n N held j = some-count N (λ k. held k && eqb j (column_of n k))

-- a column is whole where it has no gap
no_gap : (n N : ℕ) (held : ℕ → Bool) (j : ℕ) → covers n N held j ≡ not (touches n N (λ k. not (held k)) j)
unfolding touches covers
no_gap n N held j =
    every-ext N _ (λ k. not (not (held k) && eqb j (column_of n k))) (λ k w. one (held k) (eqb j (column_of n k)))
    ∙ sym (not-not (every N (λ k. not (not (held k) && eqb j (column_of n k)))))
    ∙ ap not (not-every N (λ k. not (held k) && eqb j (column_of n k)))
  where
    one : (a b : Bool) → (a || not b) ≡ not (not a && b)
    one true b = refl
    one false b = refl

column-in : (n k : ℕ) → 1 ≤ n → Within n (column_of n k)
unfolding column_of
column-in n k h = omega (arith, mod-lt (k - 1) h)

-- the positions of the first row, and those behind it
column-first : (n k : ℕ) → k < n → column_of n (suc k) ≡ suc k
unfolding column_of
column-first n k h = let z : suc k - 1 ≡ k = omega arith in rw (z, mod-eq_of_lt h) (omega arith)

column-next : (n k : ℕ) → column_of n (n + suc k) ≡ column_of n (suc k)
unfolding column_of
column-next n k = let z : n + suc k - 1 ≡ suc k - 1 + n = omega arith in rw (z, add-mod_right (suc k - 1) n)

-- ---- a smallest write quorum by its columns: it touches every one, has a whole one, and where a column has two members no other is whole
pub record Minimal (n N : ℕ) (held : ℕ → Bool) : Type 0 where
  pub all : every n (touches n N held) ≡ true
  pub one : some n (covers n N held) ≡ true
  pub few : (i j : ℕ) → Within n i → Within n j → covers n N held i ≡ true → twice n N held j ≡ true → i ≡ j

module _ (g : Grid) (N : ℕ) (held : ℕ → Bool) (some-column : 1 ≤ g.cols) where
  -- a column is touched without its member k where it has two
  loses : (k : ℕ) → Within N k → held k ≡ true → touches g.cols N (losing held k) (column_of g.cols k) ≡ twice g.cols N held (column_of g.cols k)
  unfolding twice held_in losing
  loses k w h =
      let j = column_of g.cols k in
      let less : held_in g.cols N held j ≡ suc (held_in g.cols N (losing held k) j) =
      count_less N (λ i. held i && eqb j (column_of g.cols i)) k w (rw (h, eq-eqb j j refl)) ∙ ap suc (count-ext N _ _ (λ i v. swap (held i) (eqb j (column_of g.cols i)) (not (eqb i k)))) in
      touches-count g.cols N (losing held k) j ∙ sym (ap (leb 2) less ∙ leb-suc-suc 1 (held_in g.cols N (losing held k) j))
    where
      swap : (a b c : Bool) → ((a && b) && c) ≡ ((a && c) && b)
      swap true b true = and-true b
      swap true b false = and-false b
      swap false b c = refl

  -- the other members stay
  stays : (k i : ℕ) → (column_of g.cols i ≡ column_of g.cols k → ⊥) → held i ≡ true → losing held k i ≡ true
  unfolding losing
  stays k i d h = rw (h, ne_eqb i k (λ e. d (ap (column_of g.cols) e)))

  pub minimal-smallest : Minimal g.cols N held → smallest g N held ≡ true
  unfolding quorum write_quorum read_quorum
  minimal-smallest s = smallest-of g N held (and_i _ _ (and_i _ _ (le-leb 1 g.cols some-column) s.all) s.one) (λ k w h. same_test _ false (λ q.
      let j = column_of g.cols k in
      let r = some_at g.cols _ (and_r (read_quorum g N (losing held k)) _ q) in
      let two : twice g.cols N held j ≡ true = sym (loses k w h) ∙ every-at g.cols _ (and_r (leb 1 g.cols) _ (and_l _ _ q)) j (column-in g.cols k some-column) in
      let whole : covers g.cols N held r.0 ≡ true = cover g N held r.0 (λ i v e. lose-part held k i (covered g N (losing held k) i v (rw e r.2))) in
      let e : r.0 ≡ j = s.few r.0 j r.1 (column-in g.cols k some-column) whole two in
      sym (lost held k) ∙ covered g N (losing held k) k w (rw e at r.2))
      (λ e. absurd (clash e)))

  pub smallest-minimal : smallest g N held ≡ true → Minimal g.cols N held
  unfolding quorum write_quorum read_quorum
  smallest-minimal e = record { all = all; one = and_r (read_quorum g N held) _ q; few = few }
    where
      q : quorum Write g N held ≡ true
      q = smallest-writes g N held e

      all : every g.cols (touches g.cols N held) ≡ true
      all = and_r (leb 1 g.cols) _ (and_l _ _ q)

      few : (i j : ℕ) → Within g.cols i → Within g.cols j → covers g.cols N held i ≡ true → twice g.cols N held j ≡ true → i ≡ j
      few i j v w c t = go (ℕ_discrete i j)
        where
          go : Dec (i ≡ j) → i ≡ j
          go (yes p) = p
          go (no d) = absurd (clash (sym (stops g N held e k r.1 r.3) ∙ left))
            where
              -- without its member k column j is still touched, and column i whole
              r : (k : ℕ) × Within N k × (column_of g.cols k ≡ j) × (held k ≡ true)
              r = touched g N held j (every-at g.cols _ all j w)

              k : ℕ
              k = r.0

              each : (x : ℕ) → Within g.cols x → Dec (x ≡ j) → touches g.cols N (losing held k) x ≡ true
              each x u (yes p) = rw p ((rw r.2 at (loses k r.1 r.3)) ∙ t)
              each x u (no n) =
                  let a = touched g N held x (every-at g.cols _ all x u) in
                  rw a.2 at (touch g N (losing held k) a.0 a.1 (stays k a.0 (λ y. n (sym a.2 ∙ y ∙ r.2)) a.3))

              left : quorum Write g N (losing held k) ≡ true
              left = and_i _ _ (and_i _ _ (le-leb 1 g.cols some-column) (every_of g.cols _ (λ x u. each x u (ℕ_discrete x j))))
                  (some_of g.cols _ i v (cover g N (losing held k) i (λ x u z. stays k x (λ y. d (sym z ∙ y ∙ r.2)) (covered g N held x u (rw z c)))))

-- ---- three sets of columns: what the code asks of them
-- the last member left is the lowest
alone : (p : ℕ → Bool) → some 64 (losing p (lowest 64 p)) ≡ false → (i : ℕ) → Within 64 i → p i ≡ true → i ≡ lowest 64 p
unfolding losing
alone p e i w h = go (ℕ_discrete i (lowest 64 p))
  where
    go : Dec (i ≡ lowest 64 p) → i ≡ lowest 64 p
    go (yes q) = q
    go (no d) = absurd (clash (sym (none-at 64 _ e i w) ∙ rw (h, ne_eqb i (lowest 64 p) d)))

-- the columns with two members and the whole ones are one column, if there is one with two
abbrev pub asked : ℕ → (ℕ → Bool) → (ℕ → Bool) → (ℕ → Bool) → Bool
asked n t w h = every n t && (some 64 h && (not (some 64 w) || not (some 64 (losing (joining w h) (lowest 64 (joining w h))))))

module _ (g : Grid) (N : ℕ) (held : ℕ → Bool) (some-column : 1 ≤ g.cols) (columns : g.cols ≤ 64) (t w h : ℕ → Bool) (c : ColumnsOf t w h g.cols N held) where
  pub by-columns : asked g.cols t w h ≡ smallest g N held
  unfolding joining
  by-columns = same_test _ _ (λ e. minimal-smallest g N held some-column (to e)) (λ e. from (smallest-minimal g N held some-column e))
    where
      both : ℕ → Bool
      both = joining w h

      to : asked g.cols t w h ≡ true → Minimal g.cols N held
      to e = record {
        all = sym (every-ext g.cols t _ c.touched) ∙ and_l _ _ e;
        one = let r = some_at 64 h (and_l _ _ e') in let v = c.inside r.0 (or_r (w r.0) _ r.2) in some_of g.cols _ r.0 v (sym (c.whole r.0 v) ∙ r.2);
        few = λ i j v u a b.
            let in-w : w j ≡ true = c.two j u ∙ b in
            let only : some 64 (losing both (lowest 64 both)) ≡ false = not-true _ (sym (rw (some_of 64 w j (omega arith) in-w)) ∙ and_r (some 64 h) _ e') in
            alone both only i (omega arith) (or_r (w i) _ (c.whole i v ∙ a)) ∙ sym (alone both only j (omega arith) (or_l (w j) _ in-w));
      }
        where
          e' : (some 64 h && (not (some 64 w) || not (some 64 (losing both (lowest 64 both))))) ≡ true
          e' = and_r (every g.cols t) _ e

      from : Minimal g.cols N held → asked g.cols t w h ≡ true
      from s = and_i _ _ (every-ext g.cols t _ c.touched ∙ s.all) (and_i _ _ (some_of 64 h i (omega (arith, r.1)) (c.whole i r.1 ∙ r.2)) (go (some 64 w) refl))
        where
          r : (i : ℕ) × Within g.cols i × (covers g.cols N held i ≡ true)
          r = some_at g.cols _ s.one

          i : ℕ
          i = r.0

          go : (b : Bool) → some 64 w ≡ b → (not b || not (some 64 (losing both (lowest 64 both)))) ≡ true
          go false e = refl
          go true e = ap not (some-none 64 (losing both (lowest 64 both)) (λ x v. same_test _ false (λ z.
              let same : x ≡ lowest 64 both = is-j x (lose-part both (lowest 64 both) x z) ∙ sym (is-j (lowest 64 both) (lowest-at 64 both (some_of 64 both j k.1 (or_l (w j) _ k.2))).1) in
              sym (lost both (lowest 64 both)) ∙ (rw same at z)) (λ z. absurd (clash z))))
            where
              k : (j : ℕ) × Within 64 j × (w j ≡ true)
              k = some_at 64 w e

              j : ℕ
              j = k.0

              -- a whole column is column i, and one with two members too
              is-two : (x : ℕ) → w x ≡ true → i ≡ x
              is-two x y = let v = c.inside x (or_l (w x) _ y) in s.few i x r.1 v r.2 (sym (c.two x v) ∙ y)

              is-j : (x : ℕ) → both x ≡ true → x ≡ j
              is-j x y = ⊎_elim (λ a. sym (is-two x a) ∙ is-two j k.2)
                  (λ a. let v = c.inside x y in s.few x j v (c.inside j (or_l (w j) _ k.2)) (sym (c.whole x v) ∙ a) (sym (c.two j (c.inside j (or_l (w j) _ k.2))) ∙ k.2))
                  (or-e (w x) (h x) y)

-- ---- the first row of a grid
module _ (n : ℕ) (held rest : ℕ → Bool) (shift : (k : ℕ) → 1 ≤ k → rest k ≡ held (n + k)) (j : ℕ) (w : Within n j) where
  first_count : (N : ℕ) → held_in n N held j ≡ cond (leb j N && held j) 1 0 + held_in n (N - n) rest j
  unfolding held_in count
  first_count zero = let z : 0 - n ≡ 0 = omega arith in rw (z, lt-leb j 0 (omega arith))
  first_count (suc N) = go (dec_lt N n) (first_count N)
    where
      go : Dec (N < n) → held_in n N held j ≡ cond (leb j N && held j) 1 0 + held_in n (N - n) rest j
          → held_in n N held j + cond (held (suc N) && eqb j (column_of n (suc N))) 1 0 ≡ cond (leb j (suc N) && held j) 1 0 + held_in n (suc N - n) rest j
      go (yes l) ih = at (ℕ_discrete j (suc N))
        where
          end : suc N - n ≡ N - n
          end = omega arith

          at : Dec (j ≡ suc N) → held_in n N held j + cond (held (suc N) && eqb j (column_of n (suc N))) 1 0 ≡ cond (leb j (suc N) && held j) 1 0 + held_in n (suc N - n) rest j
          at (yes q) =
              let here : (held (suc N) && eqb j (column_of n (suc N))) ≡ held j = rw (column-first n N l, eq-eqb j (suc N) q) (and-true (held (suc N)) ∙ ap held (sym q)) in
              rw (here, end, le-leb j (suc N) (omega arith)) (omega (arith, (rw (lt-leb j N (omega arith)) at ih)))
          at (no d) =
              let here : (held (suc N) && eqb j (column_of n (suc N))) ≡ false = rw (column-first n N l, ne_eqb j (suc N) d) (and-false (held (suc N))) in
              let same : leb j (suc N) ≡ leb j N = same_test _ _ (λ e. le-leb j N (omega (arith, leb-true j (suc N) e))) (λ e. le-leb j (suc N) (omega (arith, leb-true j N e))) in
              rw (here, end, same) (omega (arith, ih))
      go (no l) ih =
          let end : suc N - n ≡ suc (N - n) = omega arith in
          let last : n + suc (N - n) ≡ suc N = omega arith in
          let here : (rest (suc (N - n)) && eqb j (column_of n (suc (N - n)))) ≡ (held (suc N) && eqb j (column_of n (suc N))) =
          ap₂ (λ (a : Bool) (k : ℕ). a && eqb j k) (shift (suc (N - n)) (omega arith) ∙ ap held last) (sym (column-next n (N - n)) ∙ ap (column_of n) last) in
          rw (end, here, le-leb j (suc N) (omega arith)) (omega (arith, (rw (le-leb j N (omega arith)) at ih)))

  module _ (N : ℕ) (seat : Bool) (is : seat ≡ leb j N) where
    first-touches : (touches n (N - n) rest j || (seat && held j)) ≡ touches n N held j
    first-touches =
        rw (is, touches-count n (N - n) rest j, touches-count n N held j, first_count N) (go (leb j N && held j) (held_in n (N - n) rest j))
      where
        go : (b : Bool) (m : ℕ) → (leb 1 m || b) ≡ leb 1 (cond b 1 0 + m)
        go true m = rw (le-leb 1 (1 + m) (omega arith)) (or-true (leb 1 m))
        go false m = or-false (leb 1 m) ∙ ap (leb 1) (sym (zero-add m))

    first-twice : (twice n (N - n) rest j || (touches n (N - n) rest j && (seat && held j))) ≡ twice n N held j
    unfolding twice
    first-twice = rw (is, touches-count n (N - n) rest j, first_count N) (go (leb j N && held j) (held_in n (N - n) rest j))
      where
        go : (b : Bool) (m : ℕ) → (leb 2 m || (leb 1 m && b)) ≡ leb 2 (cond b 1 0 + m)
        go true zero = refl
        go true (suc m) = rw (le-leb 1 (suc m) (omega arith), le-leb 2 (1 + suc m) (omega arith)) (or-true (leb 2 (suc m)))
        go false zero = refl
        go false (suc m) = rw (and-false (leb 1 (suc m))) (or-false (leb 2 (suc m)) ∙ ap (leb 2) (sym (zero-add (suc m))))

module _ (n N : ℕ) (held rest : ℕ → Bool) (shift : (k : ℕ) → 1 ≤ k → rest k ≡ held (n + k)) (few : n ≤ 64) (short : N ≤ 64) where
  -- where the first row has a position
  abbrev seats : ℕ → Bool
  seats = cut_to (first_rows N) (first_rows n)

  seat-is : (j : ℕ) → Within n j → seats j ≡ leb j N
  unfolding cut_to
  seat-is j w = rw (first-in n j few w) (and-true (first_rows N j) ∙ go (dec_le j N))
    where
      go : Dec (j ≤ N) → first_rows N j ≡ leb j N
      go (yes l) = rw (le-leb j N l) (first-in N j short (omega arith))
      go (no l) = rw (lt-leb j N (omega arith)) (first_out N j (omega arith))

  -- the columns of the rows above, and the first row
  pub first-row : (t w h : ℕ → Bool) → ColumnsOf t w h n (N - n) rest → ColumnsOf (joining t (cut_to seats held)) (joining w (cut_to t (cut_to seats held))) (left_of h (left_of seats held)) n N held
  unfolding joining cut_to left_of
  first-row t w h c = record {
    touched = λ j u. rw (c.touched j u) (first-touches n held rest shift j u N (seats j) (seat-is j u));
    two = λ j u. rw (c.touched j u, c.two j u) (first-twice n held rest shift j u N (seats j) (seat-is j u));
    whole = λ j u. rw (c.whole j u, no_gap n (N - n) rest j, no_gap n N held j)
        (sym (not-or (touches n (N - n) (λ k. not (rest k)) j) _) ∙ ap not (first-touches n (λ k. not (held k)) (λ k. not (rest k)) (λ k p. ap not (shift k p)) j u N (seats j) (seat-is j u)));
    inside = λ j e. ⊎_elim
        (λ a. ⊎_elim (λ b. c.inside j (or_l (w j) _ b)) (λ b. first-within n j (and_r (first_rows N j) _ (and_l _ _ (and_r (t j) _ b)))) (or-e (w j) _ a))
        (λ a. c.inside j (or_r (w j) _ (and_l _ _ a)))
        (or-e (w j || (t j && (seats j && held j))) (h j && not (seats j && not (held j))) e);
    touched-inside = λ j e. ⊎_elim (c.touched-inside j) (λ b. first-within n j (and_r (first_rows N j) _ (and_l _ _ b))) (or-e (t j) _ e);
  }
    where
      not-or : (a b : Bool) → not (a || b) ≡ (not a && not b)
      not-or true b = refl
      not-or false b = refl

-- no row: nothing is touched, every column is whole
pub no-row : (n : ℕ) (held : ℕ → Bool) → n ≤ 64 → (N : ℕ) → N ≡ 0 → ColumnsOf (has 0) (has 0) (first_rows n) n N held
unfolding touches twice covers every some joining held_in count
no-row n held few N e = rw e (record {
  touched = λ j w. empty-at j;
  two = λ j w. empty-at j;
  whole = λ j w. first-in n j few w;
  inside = λ j q. first-within n j (sym (rw (empty-at j)) ∙ q);
  touched-inside = λ j q. absurd (clash (sym (empty-at j) ∙ q));
})
