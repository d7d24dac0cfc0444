use mathlib.Core.Path.{◌≡◌}
use mathlib.Core.Bool.{true}
use Rattle.sets.specs.Upto.{every}
use Rattle.fields.specs.Layout.{form_value, copy_in}
use Rattle.table.specs.WellFormed.{copy_right}
use Rattle.wellformed.proofs.copies_right.Given as goal

abbrev pub invariant-loop-q : goal.invariant-loop-q
invariant-loop-q l = every l.q (λ p. copy_right form_value l.file (copy_in l.file p l.row)) ≡ true
