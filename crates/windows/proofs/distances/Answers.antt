use mathlib.Core.Path.{refl}
use Rattle.sets.specs.Upto.{every}
use Rattle.windows.proofs.ZeroLaws.{distances-are}
use Rattle.windows.proofs.distances.Goals as goal

pub returns : goal.returns
unfolding every
returns c = distances-are _ refl
