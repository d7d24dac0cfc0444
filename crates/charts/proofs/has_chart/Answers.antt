use mathlib.Core.Path.{◌∙◌}
use native.Mathlib.Omega.{arith}
use Rattle.charts.proofs.TurnLaws.{no-members, too_many, no-mark, by-mark}
use Rattle.charts.proofs.has_chart.Goals as goal

pub returns-then-length-eq0 : goal.returns-then-length-eq0
returns-then-length-eq0 c = no-members _ _ (omega arith)

pub returns-then-length-gt9 : goal.returns-then-length-gt9
returns-then-length-gt9 c = too_many _ _ (omega arith)

pub returns-then-mark-gt255 : goal.returns-then-mark-gt255
returns-then-mark-gt255 c = no-mark _ _ (omega arith)

pub returns : goal.returns
returns c = c.mark_fits.ensures ∙ by-mark _ _ (omega arith) (omega arith)
