use mathlib.Core.Path.{◌≡◌}
use mathlib.Core.Bool.{◌&&◌}
use Prim.Native.Nat.{ℕ}
use Rattle.sets.specs.Upto.{some}
use Rattle.sets.specs.Sets.{has}
use Rattle.counties.specs.Levels.{level_choice}
use Rattle.counties.specs.Counties.{in_county}
use Rattle.grouping.specs.Grouped.{county_by}
use Rattle.tiers.proofs.chosen_within.Given as goal

-- the first k counties are looked at
abbrev pub invariant-loop-k : goal.invariant-loop-k
invariant-loop-k l =
    has l.out.bits ≡ (λ (i : ℕ). some l.k (λ j. has l.up.bits j && level_choice l.kind l.list.mark l.frame.chain (in_county (county_by l.frame.counties) (has l.list.members) j) l.name i))
