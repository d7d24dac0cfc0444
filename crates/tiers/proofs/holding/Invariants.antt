use mathlib.Core.Path.{◌≡◌}
use Rattle.sets.specs.Sets.{has}
use Rattle.sets.proofs.GatherLaws.{up_to}
use Rattle.counties.specs.Levels.{level}
use Rattle.counties.specs.Counties.{in_county}
use Rattle.grouping.specs.Grouped.{county_by}
use Rattle.tiers.proofs.holding.Given as goal

-- the first k counties are looked at
abbrev pub invariant-loop-k : goal.invariant-loop-k
invariant-loop-k l =
    has l.out.bits ≡ up_to l.k (λ j. level l.kind l.list.mark l.frame.chain (in_county (county_by l.frame.counties) (has l.list.members) j) (has l.set.bits))
