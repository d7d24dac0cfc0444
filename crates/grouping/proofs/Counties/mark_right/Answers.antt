use borrow.Author.Tests.{ne_eqb}
use Rattle.counties.specs.Marks.{mark_right}
use Rattle.grouping.proofs.Counties.mark_right.Goals as goal

pub returns-then-list-eq3 : goal.returns-then-list-eq3
unfolding mark_right
returns-then-list-eq3 c = rw (← c.several.ensures, c.if-several.true, c.if-list-eq3.true)

pub returns-else-list-eq3 : goal.returns-else-list-eq3
unfolding mark_right
returns-else-list-eq3 c = rw (← c.several.ensures, c.if-several.true, ne_eqb c.args.list.mark 3 c.if-list-eq3.false)

pub returns : goal.returns
unfolding mark_right
returns c = rw (← c.several.ensures, c.if-several.false, c.mark_fits.ensures, c.size.ensures)
