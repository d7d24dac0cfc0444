use borrow.Author.Rules.{rules}
use Rattle.fields.specs.Layout.{store, form, form_value, capacity, file_length, file_count}
use Rattle.header.proofs.set_header.Goals as goal

pub returns : goal.returns
unfolding store form form_value capacity file_length file_count
returns c =
    rw (c.store_at-4.ensures, c.store_at-3.ensures, c.set_first.ensures, c.set_used.ensures, c.store_at-2.ensures, c.store_at.ensures)
