use mathlib.Core.Path.{refl, sym, ◌∙◌}
use native.Mathlib.Omega.{arith}
use Rattle.window.specs.Windows.{width, record_of, next}
use Rattle.windows.specs.Visits.{window}
use Rattle.patches.proofs.EndLaws.{placed-free, placed-oldest, full-oldest}
use borrow.Author.Tests.{eq-eqb, ne_eqb}
use Rattle.patches.proofs.room_for.Goals as goal

pub returns-then-w-eq0 : goal.returns-then-w-eq0
unfolding window
returns-then-w-eq0 c =
    placed-free c.args.w.whole c.requires c.ended-end.result.count _ _ _ c.ended-end.ensures.0 (omega (arith, c.if-end-lt-PLACES.true)) refl c.ended-end.ensures.1 (rw (eq-eqb _ _ c.if-w-eq0.true) refl)

pub returns-else-w-eq0 : goal.returns-else-w-eq0
unfolding window
returns-else-w-eq0 c =
    placed-free c.args.w.whole c.requires c.ended-end.result.count _ _ _ c.ended-end.ensures.0 (omega (arith, c.if-end-lt-PLACES.true)) refl c.ended-end.ensures.1 (rw (ne_eqb _ _ c.if-w-eq0.false) refl)

pub next_of-second-requires : goal.next_of-second-requires
unfolding window
next_of-second-requires c =
    full-oldest c.args.w.whole c.requires (omega (arith, c.ended-end.ensures.0, c.if-end-lt-PLACES.false))

pub returns-then-second-eq0 : goal.returns-then-second-eq0
unfolding window next record_of width
returns-then-second-eq0 c =
    placed-oldest c.args.w.whole c.requires c.ended-end.result.count _ _ _ c.ended-end.ensures.0 (omega (arith, c.if-end-lt-PLACES.false)) refl c.ended-end.ensures.1
    (rw (eq-eqb _ _ (sym c.next_of-second.ensures ∙ c.if-second-eq0.true)) refl)

pub returns-else-second-eq0 : goal.returns-else-second-eq0
unfolding window next record_of width
returns-else-second-eq0 c =
    placed-oldest c.args.w.whole c.requires c.ended-end.result.count _ _ _ c.ended-end.ensures.0 (omega (arith, c.if-end-lt-PLACES.false)) refl c.ended-end.ensures.1
    (rw (ne_eqb _ _ (λ e. c.if-second-eq0.false (c.next_of-second.ensures ∙ e))) c.next_of-second.ensures)
