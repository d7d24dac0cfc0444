use Rattle.lists.proofs.StraightLaws.{none_right, one_right}
use Rattle.lists.proofs.straight.Goals as goal

pub loop-k-init : goal.loop-k-init
loop-k-init c = none_right c.args.order.now

pub loop-k-preserved : goal.loop-k-preserved
loop-k-preserved c =
    let l = c.loop-k in
    one_right c.args.order.now _ l.bits l.k c.min.result c.joined-bits.result c.loop-k-test.true c.rows_in_turn-rows.ensures l.invariant c.min.ensures c.joined-bits.ensures
