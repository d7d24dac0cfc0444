use native.Mathlib.Omega.{arith}
use lib.Count.{ones-le}
use Rattle.sets.proofs.SetLaws.{size-ones}
use Rattle.rows.proofs.RowSet.size.Goals as goal

pub overflow_cast-result : goal.overflow_cast-result
overflow_cast-result c = omega (arith, ones-le 64 c.args.self.bits (omega arith))

pub returns : goal.returns
returns c = size-ones c.args.self.bits (omega arith)
