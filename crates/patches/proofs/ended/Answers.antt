use mathlib.Core.Path.{sym, ◌∙◌}
use native.Mathlib.Omega.{arith}
use Rattle.window.specs.Windows.{width, record_of, next}
use Rattle.windows.specs.Visits.{window}
use Rattle.patches.proofs.EndLaws.{oldest-in, ends-ring}
use Rattle.patches.proofs.ended.Goals as goal

pub overflow_add-before : goal.overflow_add-before
unfolding window
overflow_add-before c = omega (arith, oldest-in c.args.w.whole c.requires)

pub returns : goal.returns
unfolding window next record_of width
returns c =
    ends-ring c.args.w.whole c.requires _ (omega arith) (sym c.is_unused.ensures ∙ c.if-is_unused.false) (sym c.next_of.ensures ∙ omega (arith, c.if-next_of-ne0.false))
