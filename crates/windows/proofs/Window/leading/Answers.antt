use mathlib.Core.Path.{◌≡◌, refl, sym, ◌∙◌}
use native.Mathlib.Omega.{arith}
use native.Mathlib.Numerals.{add-one}
use borrow.Author.Tests.{eq-eqb, ne_eqb}
use Rattle.sets.specs.Upto.{every, count}
use Rattle.sets.proofs.UptoLaws.{count-le}
use Rattle.sets.proofs.TestLaws.{every_more}
use Rattle.windows.specs.Visits.{broken}
use Rattle.windows.proofs.HeadLaws.{breaks-more}
use Rattle.windows.proofs.Window.leading.Goals.{then-next_of-x, else-next_of-x}
use Rattle.windows.proofs.Window.leading.Goals as goal

pub loop-k-init : goal.loop-k-init
unfolding every count
loop-k-init c = (refl, refl)

pub returns-then-not-head_right : goal.returns-then-not-head_right
returns-then-not-head_right c =
    let l = c.loop-k in (
      record {
        few = omega (arith, c.loop-k-test.true);
        each = l.invariant.0;
        ends = λ h. rw (← add-one l.k) (sym c.head_right.ensures ∙ c.if-not-head_right.true);
      },
      l.invariant.1,
    )

pub overflow_add-breaks : goal.overflow_add-breaks
overflow_add-breaks c =
    let l = c.loop-k in
    omega (arith, l.invariant.1, count-le l.k (broken c.args.self.records.now))

pub loop-k-preserved : goal.loop-k-preserved
loop-k-preserved c =
    let l = c.loop-k in (
      every_more _ l.k l.invariant.0 (sym c.head_right.ensures ∙ c.if-not-head_right.false),
      breaks-more _ l.k l.breaks _ _ l.invariant.1 c.next_of.ensures (elim c.if-next_of-x.branch [
        | then-next_of-x w ↦ rw (ne_eqb _ _ w.if-next_of-x.true) w.breaks-is
        | else-next_of-x w ↦ rw (eq-eqb _ _ w.if-next_of-x.false) (w.breaks-is ∙ omega arith)
      ]),
    )

pub returns : goal.returns
returns c =
    let l = c.loop-k in
    let e : l.k ≡ 16 = omega arith in
    let each = rw e at l.invariant.0 in
    let breaks = rw e at l.invariant.1 in
    (record { few = omega arith; each = each; ends = λ h. absurd (omega arith) }, breaks)
