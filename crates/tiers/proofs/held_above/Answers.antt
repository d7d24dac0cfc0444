use mathlib.Core.Path.{sym, ◌∙◌}
use borrow.Author.Tests.{eqb-true}
use Rattle.counties.specs.Counties.{counties}
use Rattle.lists.proofs.SeatLaws.{level-law}
use Rattle.sets.specs.Sets.{has}
use Rattle.tiers.proofs.TierLaws.{are-first, own_held}
use Rattle.tiers.proofs.held_above.Goals as goal

pub returns-then-eq : goal.returns-then-eq
returns-then-eq c =
    let a = c.args in
    let first = are-first (eqb-true _ _ (sym c.eq.ensures ∙ c.if-eq.true)) c.first.ensures c.size-n.ensures c.requires in
    c.holds.ensures ∙ level-law a.kind a.mark counties (has a.up.bits) _ _ c.size-n.ensures c.of_mark.ensures (has a.held.bits) _
    (c.cut.ensures ∙ own_held (has a.up.bits) c.size-n.result first.0 first.1 (has a.held.bits))

pub returns : goal.returns
returns c = rw (← c.rising-order.ensures.1, ← c.new.ensures) c.quorum.ensures
