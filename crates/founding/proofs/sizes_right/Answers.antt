use mathlib.Core.Path.{◌≡◌, sym, ◌∙◌}
use mathlib.Core.Bool.{true}
use Prim.Native.Nat.{◌*◌, ◌≤◌}
use native.Mathlib.Omega.{arith}
use Rattle.bools.proofs.BoolLaws.{clash}
use Rattle.fields.specs.Layout.{form_value, body_length, stride_in, stride}
use Rattle.fields.proofs.FieldLaws.{widest, rows-small}
use Rattle.table.proofs.FormLaws.{between_is}
use Rattle.founding.proofs.sizes_right.Goals.{then-n-capacity, else-n-capacity, Joined-between-2, then-between-2, else-between-2, After-row_size}
use Rattle.founding.proofs.sizes_right.Goals as goal

-- the bounds that the tests keep
small : (c : Joined-between-2) → c.if-between-2.value ≡ true → let a = c.args in (a.capacity ≤ 64) × (a.files ≤ 8) × (a.file ≤ 4_096)
small c held =
    let a = c.args in
    elim c.if-between-2.branch [
      | then-between-2 w ↦
          elim c.if-n-capacity.branch [
            | then-n-capacity v ↦ (
              (between_is 1 a.capacity 64 (sym c.between.ensures ∙ v.if-n-capacity.true.0)).1,
              (between_is 1 a.files 8 (sym w.between-then-between-2.ensures ∙ sym w.value-is ∙ held)).1,
              (between_is 1 a.file 4_096 (sym v.between-then-n-capacity.ensures ∙ sym v.value-is ∙ w.if-between-2.true)).1,
            )
            | else-n-capacity v ↦ absurd (cc)
          ]
      | else-between-2 w ↦ absurd (clash (sym w.if-between-2.false ∙ sym w.value-is ∙ held))
    ]

product : (c : After-row_size) → let a = c.args in (a.capacity ≤ 64) × (a.files ≤ 8) × (a.file ≤ 4_096) → a.capacity * c.row_size.result ≤ 64 * widest
unfolding stride stride_in body_length
product c s = rw c.row_size.ensures (rows-small form_value s.0 s.1 s.2)

pub row_size-requires : goal.row_size-requires
row_size-requires c = let s = small (goal.at.row_size-requires c).Joined-between-2 c.if-between-3.true in (s.1, s.2)

pub overflow_mul-result : goal.overflow_mul-result
overflow_mul-result c = let at = goal.at.overflow_mul-result c in omega (arith, product at.After-row_size (small at.Joined-between-2 c.if-between-3.true))

pub overflow_add-result : goal.overflow_add-result
overflow_add-result c = let at = goal.at.overflow_add-result c in omega (arith, product at.After-row_size (small at.Joined-between-2 c.if-between-3.true))
