use borrow.Author.Rules.{rules}
use Rattle.fields.specs.Layout.{get, first_of, first}
use Rattle.header.proofs.first.Goals as goal

pub returns : goal.returns
unfolding get first_of first
returns c = c.u8_at.ensures
