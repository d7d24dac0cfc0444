use Rattle.sets.proofs.SetLaws.{empty-is}
use native.Mathlib.Omega.{arith}
use Rattle.rows.proofs.RowSet.is_empty.Goals as goal

pub returns : goal.returns
returns c = empty-is c.args.self.bits (omega arith)
