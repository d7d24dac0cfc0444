-- What the code finds of one head, several bytes at a time.
use mathlib.Core.Path.{◌≡◌, refl, sym, ◌∙◌, ap₂}
use mathlib.Core.Bool.{Bool, true, false, not, cond, ◌&&◌, beq}
use mathlib.Core.List.{List}
use Prim.Native.Nat.{ℕ, zero, suc, ◌+◌, ◌-◌, ◌*◌, ◌%◌, ◌≤◌, ◌<◌}
use native.Mathlib.Nat.{mod-eq_of_lt}
use native.Mathlib.Numerals.{add-one}
use native.Mathlib.Omega.{arith}
use native.Mathlib.Decide.{dec_lt}
use lib.Dec.{eqb, leb, ltb}
use lib.ListN.{length, set, length-set}
use borrow.Author.Tests.{lt-ltb, le-ltb, eqb-true, eq-eqb, leb-true}
use Rattle.bools.proofs.BoolLaws.{and_l, and_r, and_i, clash}
use Rattle.sets.specs.Upto.{Within}
use Rattle.octets.specs.Bytes.{number, part, all_zero}
use Rattle.octets.proofs.CodeLaws.{number-first, zero_number, zero-numbers}
use Rattle.fields.specs.Layout.{get, county, grid_mark}
use Rattle.table.specs.WellFormed.{between, is_county}
use Rattle.straight.specs.Straight.{behind, numbered}

-- ---- the link
pub behind-next : (n i x : ℕ) → x ≡ i + 1 → i ≤ n → not (eqb i n) ≡ true → x ≡ behind n i
unfolding behind
behind-next n i x e h d =
    let differ : i ≡ n → ⊥ = λ q. clash (rw (eq-eqb i n q) at d) in
    e ∙ sym (rw (lt-ltb i n (omega (arith, differ))))

pub behind-last : (n i x : ℕ) → (eqb x 0 && eqb i n) ≡ true → x ≡ behind n i
unfolding behind
behind-last n i x e =
    let l : i ≡ n = eqb-true i n (and_r (eqb x 0) _ e) in
    eqb-true x 0 (and_l _ _ e) ∙ sym (rw (le-ltb i n (omega arith)))

pub behind-in : (n i : ℕ) → behind n i ≤ n
unfolding behind
behind-in n i = go (dec_lt i n)
  where
    go : Dec (i < n) → cond (ltb i n) (i + 1) 0 ≤ n
    go (yes h) = rw (lt-ltb i n h) (omega arith)
    go (no h) = rw (le-ltb i n (omega arith)) (omega arith)

-- ---- row i at its place
pub place : (i : ℕ) → Within 64 i → (i - 1) % 64 + 1 ≡ i
place i w = let e : (i - 1) % 64 ≡ i - 1 = mod-eq_of_lt (omega arith) in omega arith

-- ---- the county, with three bytes behind it and two more
module _ (row : List ℕ) (wide : ℕ) (long : 32 ≤ length row) (e : wide ≡ number (part 26 4 row)) (z : number (part 30 2 row) ≡ 0) (y : is_county wide ≡ true) where
  few : Within 8 wide
  unfolding is_county between
  few = (leb-true 1 wide (and_l _ _ y), leb-true wide 8 (and_r (leb 1 wide) _ y))

  split : wide ≡ number (part 26 1 row) + 256 * number (part 27 3 row)
  split = e ∙ number-first 26 3 row (omega arith)

  none : number (part 27 3 row) ≡ 0
  none = omega (arith, few, split)

  pub county-is : wide ≡ get county row
  unfolding get county
  county-is = omega (arith, split, none)

  pub county-few : Within 8 (get county row)
  county-few = rw (← county-is) few

  pub county-rest : all_zero (part 27 5 row) ≡ true
  county-rest = sym (zero-numbers 27 3 2 row) ∙ and_i _ _ (eq-eqb _ 0 none) (eq-eqb _ 0 z)

-- ---- the mark, with the byte behind it
module _ (row : List ℕ) (mark : ℕ) (long : 32 ≤ length row) (small : mark < 256) (e : number (part 24 2 row) ≡ mark) where
  halves : mark ≡ number (part 24 1 row) + 256 * number (part 25 1 row)
  halves = sym e ∙ number-first 24 1 row (omega arith)

  pub mark-is : get grid_mark row ≡ mark
  unfolding get grid_mark
  mark-is = omega (arith, halves)

  pub mark-rest : all_zero (part 25 1 row) ≡ true
  mark-rest = let z : number (part 25 1 row) ≡ 0 = omega (arith, halves) in sym (zero_number (part 25 1 row)) ∙ eq-eqb _ 0 z

-- ---- tests that are equal
pub beq_same : (a b : Bool) → beq a b ≡ true → a ≡ b
beq_same true true e = refl
beq_same true false e = absurd (clash e)
beq_same false true e = absurd (clash e)
beq_same false false e = refl

-- ---- places numbered one by one
pub numbered_more : (rows places : List ℕ) (k x : ℕ) → places ≡ numbered rows k → x ≡ k + 1 → set places k x ≡ numbered rows (k + 1)
unfolding numbered
numbered_more rows places k x e q = ap₂ (λ (xs : List ℕ) (y : ℕ). set xs k y) e (q ∙ add-one k) ∙ rw (add-one k)

pub numbered-long : (rows : List ℕ) (k : ℕ) → length (numbered rows k) ≡ length rows
unfolding numbered
numbered-long rows zero = refl
numbered-long rows (suc k) = length-set (numbered rows k) k (suc k) ∙ numbered-long rows k
