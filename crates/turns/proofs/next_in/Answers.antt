use mathlib.Core.Path.{◌∙◌, ap}
use Rattle.orders.specs.Turns.{stepped, turn}
use Rattle.turns.proofs.TurnLaws.{bytes-write}
use Rattle.orders.proofs.OrderLaws.{run}
use Rattle.turns.proofs.next_in.Goals as goal

pub returns-clause-made : goal.returns-clause-made
unfolding turn
returns-clause-made c =
    let a = c.args in
    c.step.ensures.made
    ∙ ap (stepped (run a.so_far.done a.t.now a.sheet.now))
    (bytes-write a.o.now _ _ _ _ _ _ c.u8_at-2.ensures c.u8_at.ensures c.u16_at.ensures c.u8_at-3.ensures c.u8_at-4.ensures c.bytes_in-n.ensures.0 c.bytes_in-n.ensures.1 a.r a.sheet.now)
