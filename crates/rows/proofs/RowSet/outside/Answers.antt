use Rattle.sets.proofs.SetLaws.{has_left}
use Rattle.rows.proofs.RowSet.outside.Goals as goal

pub returns : goal.returns
returns c = has_left c.args.self.bits c.args.other.bits
