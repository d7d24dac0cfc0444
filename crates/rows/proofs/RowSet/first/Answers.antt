use mathlib.Core.Path.{◌∙◌}
use native.Mathlib.Omega.{arith}
use lib.Pow.{pow_pos}
use Rattle.sets.proofs.SetLaws.{has_first, first-all}
use Rattle.sets.proofs.DigitLaws.{shl_one}
use Rattle.rows.proofs.RowSet.first.Goals as goal

pub returns-then-n-ge64 : goal.returns-then-n-ge64
returns-then-n-ge64 c = has_first 64 (omega arith) ∙ first-all c.args.n c.if-n-ge64.true

pub overflow_sub-result : goal.overflow_sub-result
overflow_sub-result c = rw (shl_one c.args.n (omega arith)) (pow_pos c.args.n)

pub returns : goal.returns
returns c = rw (shl_one c.args.n (omega arith)) (has_first c.args.n (omega arith))
