use Rattle.table.specs.WellFormed.{length_right}
use Rattle.wellformed.proofs.length_right.Goals as goal

pub returns : goal.returns
unfolding length_right
returns c = rw (c.rows_end-end.ensures, c.capacity.ensures)
