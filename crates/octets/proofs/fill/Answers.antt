use Rattle.octets.proofs.CodeLaws.{fill-turn, fill_end}
use Rattle.octets.proofs.fill.Goals as goal

pub loop-x-preserved : goal.loop-x-preserved
loop-x-preserved c = let l = c.loop-x in fill-turn l.s _ l.x-index _ l.left l.auto.s l.invariant c.loop-x-test.true

pub returns : goal.returns
returns c = let l = c.loop-x in fill_end l.s _ l.x-index _ l.left l.auto.s l.invariant c.loop-x-test.false
