use native.Mathlib.Omega.{arith}
use borrow.Author.Rules.{rules}
use Rattle.fields.specs.Layout.{row_length}
use Rattle.table.proofs.WellFormedLaws.{header}
use Rattle.table.proofs.row_length.Goals as goal

pub size_in-requires : goal.size_in-requires
size_in-requires c =
    let h = header c.requires.1 in
    (omega (arith, c.files.ensures, h.files), omega (arith, c.file_length.ensures, h.file))

pub returns : goal.returns
unfolding row_length
returns c = rw (c.size_in.ensures, c.file_length.ensures, c.files.ensures, c.form.ensures)
