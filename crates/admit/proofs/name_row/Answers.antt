use Rattle.joining.specs.Joining.{named_row}
use Rattle.admit.proofs.name_row.Goals as goal

pub returns : goal.returns
unfolding named_row
returns c = rw (c.set_county.ensures, c.set_link.ensures, c.set_name.ensures)
