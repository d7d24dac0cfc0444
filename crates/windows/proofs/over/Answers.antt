use mathlib.Core.Path.{◌∙◌, ap}
use Prim.Native.Nat.{min}
use Rattle.windows.specs.Visits.{over}
use Rattle.windows.proofs.ZeroLaws.{far}
use Rattle.windows.proofs.over.Goals as goal

pub returns : goal.returns
unfolding over
returns c =
    c.min.ensures ∙ ap (min _) (far _ c.args.n _ c.requires.0 c.requires.3 c.requires.4)
