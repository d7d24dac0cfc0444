use mathlib.Core.Path.{◌≡◌}
use Rattle.sets.specs.Upto.{some}
use Rattle.sets.specs.Sets.{has}
use Rattle.sets.proofs.GatherLaws.{up_to}
use Rattle.counties.specs.Counties.{in_county}
use Rattle.grouping.specs.Grouped.{county_by}
use Rattle.grouping.proofs.Counties.having.Given as goal

-- the first k counties are looked at
abbrev pub invariant-loop-k : goal.invariant-loop-k
invariant-loop-k l = has l.out.bits ≡ up_to l.k (λ j. some 64 (in_county (county_by l.self) (has l.members.bits) j))
