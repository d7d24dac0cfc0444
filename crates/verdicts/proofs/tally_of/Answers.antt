use Rattle.sets.specs.Sets.{has}
use Rattle.verdicts.proofs.TallyLaws.{tallied}
use Rattle.verdicts.proofs.tally_of.Goals as goal

pub returns-then-not-is_empty : goal.returns-then-not-is_empty
returns-then-not-is_empty c p shown =
    tallied _ p shown (has c.args.s.bits) _ _ c.outside.ensures c.best-best.ensures _ _ _ _ c.cut.ensures c.above-passed.ensures c.is_empty.ensures (rw c.if-not-is_empty.true)

pub returns-else-not-is_empty : goal.returns-else-not-is_empty
returns-else-not-is_empty c p shown =
    tallied _ p shown (has c.args.s.bits) _ _ c.outside.ensures c.best-best.ensures _ _ _ _ c.cut.ensures c.above-passed.ensures c.is_empty.ensures (rw c.if-not-is_empty.false)
