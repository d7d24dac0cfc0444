use mathlib.Core.Logic.{inl, inr}
use Prim.Native.Nat.{◌-◌}
use native.Mathlib.Omega.{arith}
use Rattle.sets.proofs.SetLaws.{has-gain, gain-none}
use Rattle.sets.proofs.DigitLaws.{shl_one}
use Rattle.sets.specs.Sets.{has}
use Rattle.rows.proofs.RowSet.with.Goals as goal

pub returns-then-i-eq0 : goal.returns-then-i-eq0
returns-then-i-eq0 c = gain-none (has c.args.self.bits) c.args.i (inl c.if-i-eq0.true)

pub returns-then-i-gt64 : goal.returns-then-i-gt64
returns-then-i-gt64 c = gain-none (has c.args.self.bits) c.args.i (inr c.if-i-gt64.true)

pub returns : goal.returns
returns c =
    let a = c.args in rw (shl_one (a.i - 1) (omega arith)) (has-gain a.self.bits a.i (omega arith))
