use mathlib.Core.Path.{sym, ◌∙◌}
use mathlib.Core.Bool.{and-false}
use lib.Dec.{leb}
use native.Mathlib.Omega.{arith}
use borrow.Author.Tests.{lt-leb}
use Rattle.values.proofs.CopyLaws.{unmarked, marked}
use Rattle.table.specs.WellFormed.{limit}
use Rattle.values.proofs.copy_numbers.Goals as goal

pub returns-then-version-gt-LIMIT : goal.returns-then-version-gt-LIMIT
unfolding limit
returns-then-version-gt-LIMIT c = let a = c.args in sym (rw (lt-leb a.version 1_000_000 c.if-version-gt-LIMIT.true, and-false (leb a.mark 1)))

pub returns-then-mark-eq0 : goal.returns-then-mark-eq0
unfolding limit
returns-then-mark-eq0 c = let a = c.args in unmarked a.mark a.version a.desired c.if-mark-eq0.true (omega (arith, c.if-version-gt-LIMIT.false))

pub returns : goal.returns
unfolding limit
returns c =
    let a = c.args in
    c.both.ensures ∙ marked a.mark a.version a.desired (omega (arith, c.if-mark-gt1.false, c.if-mark-eq0.false)) (omega (arith, c.if-version-gt-LIMIT.false))
