use Rattle.sets.proofs.SetLaws.{has-joined}
use Rattle.rows.proofs.RowSet.joined.Goals as goal

pub returns : goal.returns
returns c = has-joined c.args.self.bits c.args.other.bits
