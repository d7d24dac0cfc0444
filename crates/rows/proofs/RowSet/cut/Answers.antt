use Rattle.sets.proofs.SetLaws.{has-cut}
use Rattle.rows.proofs.RowSet.cut.Goals as goal

pub returns : goal.returns
returns c = has-cut c.args.self.bits c.args.other.bits
