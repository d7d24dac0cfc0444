use mathlib.Core.Path.{sym}
use native.Mathlib.Omega.{arith}
use Rattle.sets.proofs.SetLaws.{fills-is, fills-none}
use Rattle.rows.proofs.RowSet.fills.Goals as goal

pub returns-then-n-gt64 : goal.returns-then-n-gt64
returns-then-n-gt64 c = sym (fills-none c.args.n c.args.self.bits (omega arith) c.if-n-gt64.true)

pub returns : goal.returns
returns c =
    let f = c.first-all in
    let a = c.args in
    fills-is a.n f.result.bits a.self.bits (omega arith) (omega arith) f.ensures
