use mathlib.Core.Bool.{true, false}
use mathlib.Core.Path.{refl, sym, ◌∙◌}
use Prim.Native.Nat.{◌≤◌}
use native.Mathlib.Omega.{arith}
use Rattle.table.proofs.WellFormedLaws.{long}
use Rattle.fields.specs.Layout.{form_of}
use Rattle.wellformed.proofs.RowLaws.{head, copies, rows-by}
use Rattle.wellformed.proofs.rows_right.Goals.{Else-form-lt-WITH_FILES}
use Rattle.wellformed.proofs.rows_right.Goals as goal

-- files came
late : (c : Else-form-lt-WITH_FILES) → 4 ≤ form_of c.args.t.now
late c = omega (arith, c.form.ensures, c.if-form-lt-WITH_FILES.false)

pub form-requires : goal.form-requires
form-requires c = long c.requires

pub returns-then-every_head : goal.returns-then-every_head
unfolding head copies
returns-then-every_head c = sym (rows-by _ (late (goal.at.returns-then-every_head c).Else-form-lt-WITH_FILES) true _ (sym c.every_head.ensures ∙ c.if-every_head.true) (sym c.every_copy.ensures))

pub returns-else-every_head : goal.returns-else-every_head
unfolding head
returns-else-every_head c = c.if-every_head.false ∙ sym (rows-by _ (late (goal.at.returns-else-every_head c).Else-form-lt-WITH_FILES) false _ (sym c.every_head.ensures ∙ c.if-every_head.false) refl)
