use mathlib.Core.Path.{◌≡◌, ◌∙◌, ap}
use Prim.Native.Nat.{◌≤◌}
use native.Mathlib.Omega.{arith}
use Rattle.fields.specs.Layout.{copy_length, file_length_of}
use Rattle.fields.proofs.FieldLaws.{copy_is}
use Rattle.table.proofs.WellFormedLaws.{header, long}
use borrow.Author.Rules.{rules}
use Rattle.renew.proofs.refresh.Goals.{After-copy_size}
use Rattle.renew.proofs.refresh.Goals as goal

pub file_length-requires : goal.file_length-requires
file_length-requires c = long c.requires.0

pub copy_size-requires : goal.copy_size-requires
copy_size-requires c = let z = c.requires.0 in omega (arith, c.file_length.ensures, (header z.header).file)

-- a copy is as long as the file says
size_is : (c : After-copy_size) → c.copy_size.result ≡ copy_length (file_length_of c.args.t.now)
size_is c = c.copy_size.ensures ∙ ap copy_length c.file_length.ensures

pub refresh_by-requires : goal.refresh_by-requires
refresh_by-requires c =
    (c.requires.0, c.requires.1, c.requires.2, c.requires.3, c.requires.4, c.requires.5, omega (arith, size_is (goal.at.refresh_by-requires c).After-copy_size, c.if-copy_size-le1024.true))

pub refresh_by-requires-2 : goal.refresh_by-requires-2
refresh_by-requires-2 c =
    let n : copy_length (file_length_of c.args.t.now) ≤ 4_684 = omega (arith, copy_is (file_length_of c.args.t.now), (header c.requires.0.header).file) in
    (c.requires.0, c.requires.1, c.requires.2, c.requires.3, c.requires.4, c.requires.5, search rules)
