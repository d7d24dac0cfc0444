use Rattle.sheets.proofs.CodeLaws.{by-no-club, by-ceiling, by-assured, by_left, by-spent, assured-of, ceiling-of, count-of}
use mathlib.Core.Logic.{inl, inr}
use Prim.Native.Nat.{◌<◌}
use Rattle.sheet.specs.Sheet.{ceiling_of, count_of}
use native.Mathlib.Omega.{arith}
use Rattle.sheets.proofs.share_asked.Goals as goal
use Rattle.sheets.proofs.share_asked.Goals.{then-club-eq0-via-then-club-eq0, then-club-eq0-via-else-club-eq0+then-club-gt16}

pub returns-then-club-eq0 : goal.returns-then-club-eq0
returns-then-club-eq0 c =
    let a = c.args in
    elim c.then-club-eq0.branch [
      | then-club-eq0-via-then-club-eq0 w ↦ by-no-club a.s.now a.club (inl w.if-club-eq0.true)
      | then-club-eq0-via-else-club-eq0+then-club-gt16 w ↦ by-no-club a.s.now a.club (inr w.if-club-gt16.true)
    ]

pub returns-then-u32_at-count : goal.returns-then-u32_at-count
returns-then-u32_at-count c =
    let a = c.args in
    by-ceiling a.s.now a.club (omega arith) (omega (arith, c.if-u32_at-count.true, c.u32_at.ensures, c.u32_at-count.ensures, ceiling-of a.s.now a.club (omega arith), count-of a.s.now a.club (omega arith)))

pub returns-then-left-gt0 : goal.returns-then-left-gt0
returns-then-left-gt0 c =
    let a = c.args in
    let ceiling = ceiling-of a.s.now a.club (omega arith) in
    let count = count-of a.s.now a.club (omega arith) in
    let assured = assured-of a.s.now a.club (omega arith) in
    let below : count_of a.s.now a.club < ceiling_of a.s.now a.club = omega (arith, c.if-u32_at-count.false, c.u32_at.ensures, c.u32_at-count.ensures) in
    elim c.if-left-gt0.either [
      | inl h ↦ by-assured a.s.now a.club (omega arith) below (omega (arith, c.u32_at-2.ensures, c.u32_at-count.ensures))
      | inr h ↦ by_left a.s.now a.club (omega arith) a.left c.requires.1 below (omega (arith, h.0, c.u32_at-2.ensures, c.u32_at-count.ensures)) h.1
    ]

pub returns-else-left-gt0 : goal.returns-else-left-gt0
returns-else-left-gt0 c =
    let a = c.args in
    let ceiling = ceiling-of a.s.now a.club (omega arith) in
    let count = count-of a.s.now a.club (omega arith) in
    let assured = assured-of a.s.now a.club (omega arith) in
    by-spent a.s.now a.club (omega arith) a.left c.requires.1
    (omega (arith, c.if-u32_at-count.false, c.u32_at.ensures, c.u32_at-count.ensures))
    (omega (arith, c.if-left-gt0.false.0, c.u32_at-2.ensures, c.u32_at-count.ensures))
    c.if-left-gt0.false.1
