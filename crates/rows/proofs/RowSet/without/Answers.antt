use Prim.Native.Nat.{◌-◌}
use native.Mathlib.Omega.{arith}
use Rattle.sets.proofs.SetLaws.{has-lose, lose-none, has_above}
use Rattle.sets.proofs.DigitLaws.{shl_one}
use Rattle.sets.specs.Sets.{has}
use Rattle.rows.proofs.RowSet.without.Goals as goal

pub returns-then-i-eq0 : goal.returns-then-i-eq0
unfolding has
returns-then-i-eq0 c = lose-none (has c.args.self.bits) c.args.i (rw c.if-i-eq0.true)

pub returns-then-i-gt64 : goal.returns-then-i-gt64
returns-then-i-gt64 c =
    let a = c.args in lose-none (has a.self.bits) a.i (has_above a.self.bits a.i (omega arith) c.if-i-gt64.true)

pub returns : goal.returns
returns c =
    let a = c.args in rw (shl_one (a.i - 1) (omega arith)) (has-lose a.self.bits a.i (omega arith))
