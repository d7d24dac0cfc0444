use mathlib.Core.Path.{sym, ◌∙◌}
use borrow.Author.Tests.{eqb-true}
use mathlib.Core.Bool.{◌&&◌}
use lib.Dec.{leb}
use Rattle.counties.specs.Counties.{counties}
use Rattle.grid.proofs.SizeLaws.{taken-fits}
use Rattle.lists.proofs.SeatLaws.{choice-law}
use Rattle.sets.specs.Sets.{has}
use Rattle.tiers.proofs.TierLaws.{are-first, chosen-inside, own-chosen}
use Rattle.tiers.proofs.chosen_above.Goals as goal

pub choose-requires : goal.choose-requires
choose-requires c = taken-fits c.args.mark _ _ c.of_mark.ensures

pub returns-then-eq : goal.returns-then-eq
returns-then-eq c =
    let a = c.args in
    let first = are-first (eqb-true _ _ (sym c.eq.ensures ∙ c.if-eq.true)) c.first.ensures c.size-n.ensures c.requires in
    choice-law a.kind a.mark counties (has a.up.bits) _ _ c.size-n.ensures c.of_mark.ensures a.name _ _ c.choose.ensures
    (own-chosen (has a.up.bits) c.size-n.result first.0 first.1 _ (chosen-inside a.kind c.of_mark.result _ a.name (leb 1 c.of_mark.result.cols && leb c.size-n.result 64) _ c.choose.ensures))

pub returns : goal.returns
returns c = rw (← c.rising-order.ensures.1, ← c.new.ensures) c.choice.ensures
