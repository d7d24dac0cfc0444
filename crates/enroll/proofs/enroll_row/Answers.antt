use Rattle.protocol.specs.Rows.{enrolled_row}
use Rattle.enroll.proofs.enroll_row.Goals as goal

pub returns : goal.returns
unfolding enrolled_row
returns c = rw (c.set_list.ensures, c.set_epoch.ensures)
