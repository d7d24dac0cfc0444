use mathlib.Core.Path.{◌∙◌, ap}
use Rattle.fields.specs.Layout.{store, former_oldest}
use Rattle.moves.proofs.carry_front.Goals as goal

pub returns : goal.returns
unfolding store former_oldest
returns c = c.store_at.ensures ∙ ap (store former_oldest 0) c.copy.ensures
