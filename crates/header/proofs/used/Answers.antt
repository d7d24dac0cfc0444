use borrow.Author.Rules.{rules}
use Rattle.fields.specs.Layout.{get, used_of, used}
use Rattle.header.proofs.used.Goals as goal

pub returns : goal.returns
unfolding get used_of used
returns c = c.u8_at.ensures
