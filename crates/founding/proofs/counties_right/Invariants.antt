use mathlib.Core.Path.{◌≡◌}
use Rattle.sets.specs.Upto.{every}
use Rattle.table.specs.WellFormed.{is_county}
use Rattle.counties.specs.Counties.{county_at}
use Rattle.founding.proofs.counties_right.Given as goal

abbrev pub invariant-loop-place : goal.invariant-loop-place
invariant-loop-place l = l.ok ≡ every l.place-index (λ j. is_county (county_at l.counties j))
