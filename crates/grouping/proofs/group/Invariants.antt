use Rattle.fields.specs.Layout.{get, county, row_bytes}
use Rattle.grouping.specs.Grouped.{Filled}
use Rattle.grouping.proofs.group.Given as goal

-- the first k rows are in their sets
abbrev pub invariant-loop-k : goal.invariant-loop-k
invariant-loop-k l = Filled (λ i. get county (row_bytes l.t i)) l.k l.sets
