use borrow.Author.Rules.{rules}
use Rattle.fields.specs.Layout.{get, file_length_of, file_length}
use Rattle.header.proofs.file_length.Goals as goal

pub returns : goal.returns
unfolding get file_length_of file_length
returns c = c.u16_at.ensures
