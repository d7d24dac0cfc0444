use mathlib.Core.Path.{◌∙◌, ap₂}
use mathlib.Core.Bool.{Bool, ◌&&◌}
use Rattle.blanks.specs.Blanks.{blank}
use Rattle.blanks.proofs.four.Goals as goal

pub returns : goal.returns
unfolding blank
returns c = c.joined.ensures ∙ ap₂ (λ (a b : Bool). a && b) c.two.ensures c.two-2.ensures
