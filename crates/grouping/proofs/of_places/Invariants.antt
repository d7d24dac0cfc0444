use Prim.Native.Nat.{◌-◌}
use lib.ListN.{get_or}
use Rattle.grouping.specs.Grouped.{Filled}
use Rattle.grouping.proofs.of_places.Given as goal

-- the first k rows are in their sets
abbrev pub invariant-loop-k : goal.invariant-loop-k
invariant-loop-k l = Filled (λ i. get_or l.places (i - 1) 0) l.k l.sets
