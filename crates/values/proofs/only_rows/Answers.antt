use native.Mathlib.Omega.{arith}
use Rattle.sets.proofs.SetLaws.{only-is}
use Rattle.table.specs.WellFormed.{only_rows}
use Rattle.values.proofs.only_rows.Goals as goal

pub returns : goal.returns
unfolding only_rows
returns c =
    let f = c.first-rows in
    let a = c.args in
    only-is a.n f.result.bits a.s c.requires (omega arith) f.ensures
