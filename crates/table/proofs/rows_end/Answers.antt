use Prim.Native.Nat.{◌*◌, ◌≤◌}
use native.Mathlib.Omega.{arith}
use borrow.Author.Rules.{rules}
use Rattle.fields.specs.Layout.{rows_end}
use Rattle.fields.proofs.FieldLaws.{widest}
use Rattle.table.proofs.WellFormedLaws.{ends-small}
use Rattle.table.proofs.rows_end.Goals.{After-row_length}
use Rattle.table.proofs.rows_end.Goals as goal

-- the product is small
small : (c : After-row_length) → let a = c.args in a.k * c.row_length.result ≤ 64 * widest
small c = rw c.row_length.ensures (ends-small c.args.t.now c.requires.1 c.args.k c.requires.2)

pub overflow_mul-result : goal.overflow_mul-result
overflow_mul-result c = omega (arith, small c)

pub overflow_add-result : goal.overflow_add-result
overflow_add-result c = omega (arith, small c)

pub returns : goal.returns
unfolding rows_end
returns c = rw c.row_length.ensures
