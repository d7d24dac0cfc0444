use Rattle.fields.specs.Layout.{store}
use Rattle.window.specs.Windows.{younger}
use Rattle.patches.proofs.relink.Goals as goal

pub returns : goal.returns
unfolding store younger
returns c = c.store_at.ensures
