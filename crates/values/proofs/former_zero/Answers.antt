use Rattle.fields.specs.Layout.{reserved_in}
use Rattle.octets.proofs.CodeLaws.{zero_number, zero-append, zero-numbers}
use Rattle.octets.specs.Bytes.{part, all_zero}
use lib.Dec.{eqb}
use native.Mathlib.Omega.{arith}
use Prim.Native.Nat.{ℕ}
use mathlib.Core.Path.{◌≡◌, sym, ◌∙◌, ap}
use mathlib.Core.List.{List, ◌++◌}
use Rattle.values.proofs.former_zero.Goals as goal

module _ (row : List ℕ) (f : ℕ) where
  in_one : f ≡ 1 → all_zero (part 24 8 row) ≡ all_zero (reserved_in f row)
  unfolding reserved_in
  in_one e = sym (ap (λ (g : ℕ). all_zero (reserved_in g row)) e)

  in_two : f ≡ 2 → all_zero (part 25 7 row) ≡ all_zero (reserved_in f row)
  unfolding reserved_in
  in_two e = sym (ap (λ (g : ℕ). all_zero (reserved_in g row)) e)

  in_four : f ≡ 4 → all_zero (part 3 9 row ++ part 25 7 row) ≡ all_zero (reserved_in f row)
  unfolding reserved_in
  in_four e = sym (ap (λ (g : ℕ). all_zero (reserved_in g row)) e)

  in_three : f ≡ 3 → all_zero (part 26 6 row) ≡ all_zero (reserved_in f row)
  unfolding reserved_in
  in_three e = sym (ap (λ (g : ℕ). all_zero (reserved_in g row)) e)

pub returns-in-1 : goal.returns-in-1
returns-in-1 c = ap (λ (n : ℕ). eqb n 0) c.u64_at.ensures ∙ zero_number _ ∙ in_one c.args.row.now c.args.form c.in-1.is

pub returns-in-2 : goal.returns-in-2
returns-in-2 c = c.rest_zero.ensures ∙ in_two c.args.row.now c.args.form c.in-2.is

pub returns-in-3 : goal.returns-in-3
returns-in-3 c = rw (c.both.ensures, c.u32_at.ensures, c.u16_at.ensures) (zero-numbers 26 2 4 c.args.row.now ∙ in_three c.args.row.now c.args.form c.in-3.is)

pub returns-in_default : goal.returns-in_default
returns-in_default c =
    let row = c.args.row.now in
    let four : c.args.form ≡ 4 = omega (arith, c.requires.0, c.in_default) in
    rw (c.both-in_default.ensures, c.rest_zero-in_default.ensures, c.front_zero.ensures) (sym (zero-append (part 3 9 row) (part 25 7 row)) ∙ in_four row c.args.form four)
