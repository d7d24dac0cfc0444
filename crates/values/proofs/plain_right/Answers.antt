use mathlib.Core.Path.{sym}
use borrow.Author.Tests.{le-leb, lt-leb}
use Rattle.table.specs.WellFormed.{plain_right}
use Rattle.values.proofs.plain_right.Goals as goal

pub returns-then-form-ge2 : goal.returns-then-form-ge2
unfolding plain_right
returns-then-form-ge2 c = sym (rw (le-leb 2 _ c.if-form-ge2.true))

pub returns : goal.returns
unfolding plain_right
returns c = rw (lt-leb 2 _ c.if-form-ge2.false) c.plain.ensures
