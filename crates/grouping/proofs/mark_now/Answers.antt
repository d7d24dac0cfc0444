use Rattle.counties.specs.Marks.{mark_now}
use Rattle.grouping.proofs.mark_now.Goals as goal

pub returns-then-tall : goal.returns-then-tall
unfolding mark_now
returns-then-tall c = rw (c.if-many.true, c.if-tall.true)

pub returns-else-tall : goal.returns-else-tall
unfolding mark_now
returns-else-tall c = rw (c.if-many.true, c.if-tall.false)

pub returns : goal.returns
unfolding mark_now
returns c = rw c.if-many.false c.new_mark.ensures
