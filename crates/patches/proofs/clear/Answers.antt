use mathlib.Core.Path.{refl}
use Rattle.patches.proofs.CopyLaws.{cleared}
use Rattle.patches.proofs.clear.Goals as goal

pub returns : goal.returns
returns c = cleared c.args.copy.now _ 0 c.requires c.set_oldest.ensures refl _ c.fill.ensures
