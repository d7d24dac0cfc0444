use mathlib.Core.Bool.{true}
use mathlib.Core.Path.{◌≡◌}
use Rattle.sets.specs.Upto.{every}
use Rattle.fields.specs.Layout.{row_bytes}
use Rattle.table.specs.WellFormed.{plain}
use Rattle.moves.proofs.all_plain.Given as goal

abbrev pub invariant-loop-k : goal.invariant-loop-k
invariant-loop-k l = every l.k (λ i. plain (row_bytes l.t i)) ≡ true
