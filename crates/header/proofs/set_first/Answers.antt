use borrow.Author.Rules.{rules}
use Rattle.fields.specs.Layout.{store, first}
use Rattle.header.proofs.set_first.Goals as goal

pub returns : goal.returns
unfolding store first
returns c = c.store_at.ensures
