use Rattle.sheets.proofs.CodeLaws.{assured-of, count-of}
use native.Mathlib.Omega.{arith}
use borrow.Author.Tests.{lt-ltb, le-ltb}
use Rattle.sheet.specs.Sheet.{assured_of, count_of}
use Rattle.sheets.proofs.left_after.Goals as goal

pub returns-then-u32_at : goal.returns-then-u32_at
returns-then-u32_at c =
    let a = c.args in
    rw (lt-ltb (count_of a.s.now a.club) (assured_of a.s.now a.club) (omega (arith, c.if-u32_at.true, c.u32_at-2.ensures, c.u32_at.ensures, assured-of a.s.now a.club (omega arith), count-of a.s.now a.club (omega arith))))
    (omega arith)

pub returns : goal.returns
returns c =
    let a = c.args in
    rw (le-ltb (count_of a.s.now a.club) (assured_of a.s.now a.club) (omega (arith, c.if-u32_at.false, c.u32_at-2.ensures, c.u32_at.ensures, assured-of a.s.now a.club (omega arith), count-of a.s.now a.club (omega arith))))
    c.saturating_sub.ensures
