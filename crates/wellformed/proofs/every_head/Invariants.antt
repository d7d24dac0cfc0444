use mathlib.Core.Path.{◌≡◌}
use mathlib.Core.Bool.{true}
use Rattle.sets.specs.Upto.{every}
use Rattle.wellformed.proofs.RowLaws.{head}
use Rattle.wellformed.proofs.every_head.Given as goal

abbrev pub invariant-loop-k : goal.invariant-loop-k
invariant-loop-k l = every l.k (head l.t) ≡ true
