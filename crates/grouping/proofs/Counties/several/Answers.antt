use mathlib.Core.Path.{sym}
use Rattle.sets.specs.Sets.{has}
use Rattle.counties.specs.Counties.{several}
use Rattle.counties.proofs.OneCountyLaws.{not-several}
use Rattle.grouping.specs.Grouped.{county_by}
use Rattle.grouping.proofs.Counties.several.Goals as goal

pub returns-then-not-in_one : goal.returns-then-not-in_one
unfolding several
returns-then-not-in_one c = rw (c.size.ensures, c.having.ensures)

pub returns-else-not-in_one : goal.returns-else-not-in_one
returns-else-not-in_one c = rw c.if-not-in_one.false (sym (not-several (county_by c.args.self.now) (has c.args.members.bits) (c.in_one.ensures c.if-not-in_one.false)))
