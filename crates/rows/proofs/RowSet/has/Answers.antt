use mathlib.Core.Path.{sym}
use native.Mathlib.Omega.{arith}
use Rattle.sets.proofs.SetLaws.{has-row, has_above}
use Rattle.sets.specs.Sets.{has}
use Rattle.rows.proofs.RowSet.has.Goals as goal

pub returns-then-i-eq0 : goal.returns-then-i-eq0
unfolding has
returns-then-i-eq0 c = rw c.if-i-eq0.true

pub returns-then-i-gt64 : goal.returns-then-i-gt64
returns-then-i-gt64 c = sym (has_above c.args.self.bits c.args.i (omega arith) c.if-i-gt64.true)

pub returns : goal.returns
returns c = has-row c.args.self.bits c.args.i (omega arith)
