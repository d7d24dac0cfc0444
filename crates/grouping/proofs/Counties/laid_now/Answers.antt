use Rattle.counties.specs.Marks.{laid_now}
use Rattle.grouping.proofs.Counties.laid_now.Goals as goal

pub returns : goal.returns
unfolding laid_now
returns c = rw (c.mark_now.ensures, c.size.ensures, c.several.ensures)
