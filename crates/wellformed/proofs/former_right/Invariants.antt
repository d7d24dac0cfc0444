use mathlib.Core.Path.{◌≡◌}
use mathlib.Core.Bool.{true}
use Rattle.sets.specs.Upto.{every}
use Rattle.table.specs.WellFormed.{row_right}
use Rattle.wellformed.proofs.former_right.Given as goal

abbrev pub invariant-loop-k : goal.invariant-loop-k
invariant-loop-k l = every l.k (row_right l.t) ≡ true
