use mathlib.Core.Path.{◌≡◌, refl, sym, ◌∙◌}
use native.Mathlib.Omega.{arith}
use Rattle.window.specs.Windows.{width, record_of, next}
use Rattle.windows.specs.Visits.{window}
use Rattle.patches.proofs.EndLaws.{ends-none, ends_more, ends_at, ends-full}
use borrow.Author.Tests.{eq-eqb, ne_eqb}
use Rattle.patches.proofs.scan.Goals.{then-next_of-eq0, else-next_of-eq0}
use Rattle.patches.proofs.scan.Goals as goal

pub loop-count-init : goal.loop-count-init
loop-count-init c = ends-none _

pub returns-then-is_unused : goal.returns-then-is_unused
unfolding window record_of width
returns-then-is_unused c =
    ends_at c.args.w.whole c.requires c.loop-count.invariant _ refl (omega (arith, c.loop-count-test.true)) (sym c.is_unused.ensures ∙ c.if-is_unused.true)

pub loop-count-preserved : goal.loop-count-preserved
unfolding window next record_of width
loop-count-preserved c =
    ends_more c.args.w.whole c.requires c.loop-count.invariant _ _ _ refl (omega (arith, c.loop-count-test.true)) (sym c.is_unused.ensures ∙ c.if-is_unused.false) c.next_of.ensures (elim c.if-next_of-eq0.branch [
      | then-next_of-eq0 w ↦ rw (eq-eqb _ _ w.if-next_of-eq0.true) w.last-is
      | else-next_of-eq0 w ↦ rw (ne_eqb _ _ w.if-next_of-eq0.false) w.last-is
    ])

pub returns : goal.returns
unfolding window
returns c =
    let e : c.loop-count.count ≡ 16 = omega arith in
    ends-full c.args.w.whole c.requires (rw e at c.loop-count.invariant) (omega arith)
