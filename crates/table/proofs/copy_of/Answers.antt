use mathlib.Core.Path.{◌≡◌, ◌∙◌, ap}
use Prim.Native.Nat.{◌+◌, ◌*◌, ◌≤◌}
use native.Mathlib.Nat.{mul-le-mul_right}
use native.Mathlib.Omega.{arith}
use borrow.Author.Rules.{rules}
use lib.ListN.{length}
use Rattle.fields.specs.Layout.{copy_length, copy_in, copy_bytes, file_length_of, files_of, row_bytes}
use Rattle.fields.proofs.FieldLaws.{stride-is, row-newest}
use Rattle.table.proofs.WellFormedLaws.{header, long, length-row}
use Rattle.table.proofs.copy_of.Goals.{After-copy_size}
use Rattle.table.proofs.copy_of.Goals as goal

-- the copies are as long as the file asks for
size_is : (c : After-copy_size) → c.copy_size.result ≡ copy_length (file_length_of c.args.t.now)
size_is c = c.copy_size.ensures ∙ ap copy_length c.file_length.ensures

pub file_length-requires : goal.file_length-requires
file_length-requires c = long c.requires.0

pub copy_size-requires : goal.copy_size-requires
copy_size-requires c = omega (arith, c.file_length.ensures, (header c.requires.0.header).file)

pub copy_in-requires : goal.copy_in-requires
copy_in-requires c =
    let t = c.args.t.now in
    let w = copy_length (file_length_of t) in
    let l : length (row_bytes t c.args.i) ≡ 32 + files_of t * w = length-row c.requires.0 c.args.i c.requires.2 ∙ row-newest t c.requires.1 ∙ stride-is (files_of t) (file_length_of t) in
    let m : c.args.q * w ≤ files_of t * w = mul-le-mul_right w c.requires.3.1 in
    (omega (arith, c.requires.3), rw (size_is c) (omega (arith, ap length c.row_of.ensures.0, l, m)))

pub returns : goal.returns
unfolding copy_bytes copy_in
returns c =
    rw (size_is (goal.at.returns c).After-copy_size, c.row_of.ensures.0) at c.copy_in.ensures
