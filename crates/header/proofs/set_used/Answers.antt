use borrow.Author.Rules.{rules}
use Rattle.fields.specs.Layout.{store, used}
use Rattle.header.proofs.set_used.Goals as goal

pub returns : goal.returns
unfolding store used
returns c = c.store_at.ensures
