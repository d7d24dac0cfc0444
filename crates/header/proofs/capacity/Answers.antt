use borrow.Author.Rules.{rules}
use Rattle.fields.specs.Layout.{get, capacity_of, capacity}
use Rattle.header.proofs.capacity.Goals as goal

pub returns : goal.returns
unfolding get capacity_of capacity
returns c = c.u8_at.ensures
