use borrow.Author.Tests.{le-leb, lt-leb}
use Rattle.fields.specs.Layout.{get, files_of, file_count}
use borrow.Author.Rules.{rules}
use Rattle.header.proofs.files.Goals as goal

pub returns-then-form-lt-WITH_FILES : goal.returns-then-form-lt-WITH_FILES
unfolding files_of
returns-then-form-lt-WITH_FILES c = rw (← c.form.ensures, lt-leb 4 _ c.if-form-lt-WITH_FILES.true)

pub returns : goal.returns
unfolding get files_of file_count
returns c = rw (← c.form.ensures, le-leb 4 _ c.if-form-lt-WITH_FILES.false) c.u8_at.ensures
