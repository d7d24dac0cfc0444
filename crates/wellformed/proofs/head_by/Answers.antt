use native.Mathlib.Omega.{arith}
use Rattle.fields.specs.Layout.{form_value}
use Rattle.wellformed.proofs.head_by.Goals as goal

pub returns-then-form-eq-FORM : goal.returns-then-form-eq-FORM
unfolding form_value
returns-then-form-eq-FORM c = rw c.if-form-eq-FORM.true c.head_right.ensures

pub former_head_right-requires : goal.former_head_right-requires
unfolding form_value
former_head_right-requires c = (omega (arith, c.requires.0, c.if-form-eq-FORM.false), c.requires.1, c.requires.2, c.requires.3)
