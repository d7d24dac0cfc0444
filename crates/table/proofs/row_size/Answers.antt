use mathlib.Core.Path.{sym}
use Prim.Native.Nat.{◌*◌, ◌≤◌}
use native.Mathlib.Nat.{mul-le-mul}
use native.Mathlib.Omega.{arith}
use borrow.Author.Rules.{rules}
use Rattle.fields.proofs.FieldLaws.{copy_is, stride-is}
use Rattle.table.proofs.row_size.Goals.{After-copy_size}
use Rattle.table.proofs.row_size.Goals as goal

-- the product is small
small : (c : After-copy_size) → c.args.files * c.copy_size.result ≤ 8 * 4_684
small c =
    let l : c.copy_size.result ≤ 4_684 = omega (arith, c.copy_size.ensures, copy_is c.args.file, c.requires.1) in
    mul-le-mul c.requires.0 l

pub overflow_mul-result : goal.overflow_mul-result
overflow_mul-result c = omega (arith, small c)

pub overflow_add-result : goal.overflow_add-result
overflow_add-result c = omega (arith, small c)

pub returns : goal.returns
returns c = rw c.copy_size.ensures (sym (stride-is c.args.files c.args.file))
