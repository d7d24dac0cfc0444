use native.Mathlib.Omega.{arith}
use Rattle.blanks.proofs.BlankLaws.{none_seen, one_seen, all_seen}
use Rattle.blanks.proofs.all_blank.Goals as goal

pub loop-k-init : goal.loop-k-init
loop-k-init c = (omega arith, omega arith, none_seen _ _)

pub loop-k-preserved : goal.loop-k-preserved
loop-k-preserved c =
    let l = c.loop-k in
    (l.invariant.0, l.invariant.1, one_seen _ _ l.bits l.k l.invariant.2 c.joined-bits.result c.four.result (omega (arith, l.invariant.1, c.loop-k-test.true)) c.joined-bits.ensures c.four.ensures)

pub returns : goal.returns
returns c =
    let l = c.loop-k in
    all_seen _ _ _ l.k l.invariant.2 (omega (arith, l.invariant.1, c.loop-k-test.false)) (omega (arith, l.invariant.0, c.loop-k-test.false))
