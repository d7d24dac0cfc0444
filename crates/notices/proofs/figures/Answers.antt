use mathlib.Core.Path.{◌≡◌}
use native.Mathlib.Omega.{arith}
use lib.ListN.{length-set}
use Rattle.telling.specs.Text.{decimal}
use Rattle.notices.proofs.TurnLaws.{figure-turn}
use Rattle.notices.proofs.figures.Goals as goal

pub loop-i-preserved : goal.loop-i-preserved
loop-i-preserved c =
    let l = c.loop-i in
    (simp length-set l.invariant.0, figure-turn l.s _ l.i l.left (omega arith) (omega arith) l.invariant.1)

pub returns : goal.returns
unfolding decimal
returns c =
    let l = c.loop-i in
    let none : l.i ≡ 0 = omega arith in rw none at l.invariant.1
