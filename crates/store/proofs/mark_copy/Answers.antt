use Rattle.protocol.specs.Rows.{marked_copy}
use Rattle.store.proofs.mark_copy.Goals as goal

pub returns : goal.returns
unfolding marked_copy
returns c = rw (c.set_desired.ensures, c.set_mark.ensures)
