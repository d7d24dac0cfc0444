use Rattle.fields.specs.Layout.{list, is_empty}
use Rattle.table.specs.WellFormed.{plain}
use Rattle.values.proofs.plain.Goals as goal

pub returns : goal.returns
unfolding plain is_empty list
returns c = rw (c.both.ensures, c.grid_mark.ensures, c.members-listed.ensures)
