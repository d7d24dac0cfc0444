use mathlib.Core.Path.{refl}
use Rattle.sets.specs.Upto.{upward}
use Rattle.lists.proofs.rows_in_turn.Goals as goal

pub returns : goal.returns
unfolding upward
returns c = refl
