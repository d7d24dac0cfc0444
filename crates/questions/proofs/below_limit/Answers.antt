use mathlib.Core.Path.{refl}
use Rattle.table.specs.WellFormed.{limit}
use Rattle.questions.proofs.below_limit.Goals as goal

pub returns : goal.returns
unfolding limit
returns c = refl
