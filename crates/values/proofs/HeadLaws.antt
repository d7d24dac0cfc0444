-- What is asked of a head in the order in which the code asks it, several bytes at a time.
use mathlib.Core.Path.{◌≡◌, refl, sym, ◌∙◌, ap}
use mathlib.Core.Bool.{Bool, true, false, ◌&&◌, and-true, and-false}
use mathlib.Core.List.{List, ◌++◌}
use Prim.Native.Nat.{ℕ, zero, suc, ◌+◌, ◌*◌, ◌≤◌}
use native.Mathlib.Omega.{arith}
use lib.Dec.{eqb, leb}
use lib.ListN.{length}
use borrow.Author.Tests.{lt-leb, ne_eqb}
use Rattle.bools.proofs.BoolLaws.{and_assoc}
use Rattle.octets.specs.Bytes.{number, part, all_zero}
use Rattle.octets.proofs.CodeLaws.{number-first, first-within, zero_number, zero-numbers, zero-append}
use Rattle.fields.specs.Layout.{get, name, link, epoch, county, form_value, reserved_in, reserved}
use Rattle.table.specs.WellFormed.{between, limit, is_county, head_values, list_right, county_right, plain_right, head_right}

-- ---- the front
front-regrouped : (a b c d x y : Bool) → (x && y) ≡ (b && d) → (a && b && c && d) ≡ (a && (x && (y && c)))
front-regrouped false b c d x y e = refl
front-regrouped true b true d x y e = rw (and-true b, and-true y) (sym e)
front-regrouped true b false d x y e = rw (and-false b, and-false y, and-false x)

-- name; the link with seven bytes behind it; two bytes; the epoch number
pub front-asked : (n : ℕ) (row : List ℕ) → n ≤ 64 → 32 ≤ length row →
    (between 1 (get name row) 65_535 && leb (get link row) n && leb (get epoch row) limit && all_zero (part 3 9 row))
    ≡ (between 1 (get name row) 65_535 && (leb (number (part 2 8 row)) n && (eqb (number (part 10 2 row)) 0 && leb (get epoch row) limit)))
unfolding get link
front-asked n row few long =
    let a = leb (number (part 2 1 row)) n in
    let b = eqb (number (part 3 7 row)) 0 in
    let c = eqb (number (part 10 2 row)) 0 in
    let e : (leb (number (part 2 8 row)) n && c) ≡ (a && all_zero (part 3 9 row)) =
    rw (number-first 2 7 row (omega arith), first-within n (number (part 2 1 row)) (number (part 3 7 row)) (omega arith), and_assoc a b c, zero-numbers 3 7 2 row) in
    front-regrouped (between 1 (get name row) 65_535) a (leb (get epoch row) limit) (all_zero (part 3 9 row)) (leb (number (part 2 8 row)) n) c e

-- ---- the back
-- a county with three bytes behind it
county-wide : (x y : ℕ) → between 1 (x + 256 * y) 8 ≡ (eqb y 0 && between 1 x 8)
unfolding between
county-wide x zero = let e : x + 256 * 0 ≡ x = omega arith in rw e refl
county-wide x (suc y) = rw (lt-leb (x + 256 * suc y) 8 (omega arith), ne_eqb (suc y) 0 (λ q. omega arith)) (and-false (leb 1 (x + 256 * suc y)))

back-regrouped : (a b c k : Bool) → ((a && (b && c)) && k) ≡ (a && (c && (b && k)))
back-regrouped false b c k = refl
back-regrouped true true true k = refl
back-regrouped true true false k = refl
back-regrouped true false true k = refl
back-regrouped true false false k = refl

pub back-asked : (row : List ℕ) → 32 ≤ length row →
    (all_zero (part 25 1 row ++ part 27 5 row) && is_county (get county row)) ≡ (eqb (number (part 25 1 row)) 0 && (eqb (number (part 30 2 row)) 0 && is_county (number (part 26 4 row))))
unfolding get county is_county
back-asked row long =
    rw (zero-append (part 25 1 row) (part 27 5 row), ← zero_number (part 25 1 row), ← zero-numbers 27 3 2 row, number-first 26 3 row (omega arith), county-wide (number (part 26 1 row)) (number (part 27 3 row)))
    (back-regrouped (eqb (number (part 25 1 row)) 0) (eqb (number (part 27 3 row)) 0) (eqb (number (part 30 2 row)) 0) (between 1 (number (part 26 1 row)) 8))

-- ---- the whole: front, list, back
head-regrouped : (v y z l k : Bool) → ((v && (y && z)) && (l && (k && true))) ≡ ((v && y) && (l && (z && k)))
head-regrouped false y z l k = refl
head-regrouped true false z l k = refl
head-regrouped true true false false k = refl
head-regrouped true true false true k = refl
head-regrouped true true true l true = refl
head-regrouped true true true l false = refl

pub head-asked : (n i : ℕ) (row : List ℕ) → head_right form_value n i row
    ≡ ((between 1 (get name row) 65_535 && leb (get link row) n && leb (get epoch row) limit && all_zero (part 3 9 row))
    && (list_right n i row && (all_zero (part 25 1 row ++ part 27 5 row) && is_county (get county row))))
unfolding head_right head_values county_right plain_right reserved_in reserved form_value
head-asked n i row =
    ap (λ (b : Bool). ((between 1 (get name row) 65_535 && leb (get link row) n && leb (get epoch row) limit) && b) && (list_right n i row && (is_county (get county row) && true))) (zero-append (part 3 9 row) (part 25 1 row ++ part 27 5 row))
    ∙ head-regrouped (between 1 (get name row) 65_535 && leb (get link row) n && leb (get epoch row) limit) (all_zero (part 3 9 row)) (all_zero (part 25 1 row ++ part 27 5 row)) (list_right n i row) (is_county (get county row))
