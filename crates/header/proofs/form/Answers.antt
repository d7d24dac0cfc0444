use borrow.Author.Rules.{rules}
use Rattle.fields.specs.Layout.{get, form_of, form}
use Rattle.header.proofs.form.Goals as goal

pub returns : goal.returns
unfolding get form_of form
returns c = c.u8_at.ensures
