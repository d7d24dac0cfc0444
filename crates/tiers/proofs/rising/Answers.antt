use mathlib.Core.Path.{refl}
use Rattle.sets.specs.Upto.{upward}
use Rattle.counties.specs.Counties.{counties}
use Rattle.tiers.proofs.TierLaws.{rising-listed}
use Rattle.tiers.proofs.rising.Goals as goal

pub returns : goal.returns
unfolding counties upward
returns c = (rising-listed _ refl refl, refl)
