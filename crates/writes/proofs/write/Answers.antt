use mathlib.Core.Path.{◌≡◌, refl, sym, ◌∙◌, ap}
use mathlib.Core.Bool.{Bool, true, false, ◌&&◌}
use mathlib.Core.List.{List}
use Prim.Native.Nat.{ℕ, ◌^◌, ◌≤◌, ◌<◌}
use native.Mathlib.Omega.{arith}
use Rattle.table.proofs.WellFormedLaws.{sized, long}
use Rattle.sheet.specs.Sheet.{sheet_right}
use Rattle.grouping.proofs.FrameLaws.{frame-of, listed-of}
use Rattle.protocol.specs.Calls.{Writing, write, outcome, result_of, noted, lent_sheet}
use Rattle.settle.proofs.SettleLaws.{known-none}
use Rattle.asking.specs.Refusals.{answer_number}
use Rattle.effects.proofs.WriteLaws.{one-no, may-count, counted-done, not-counted, ok-low, err-high}
use Rattle.writes.proofs.write.Goals.{After-answer-a}
use Rattle.writes.proofs.write.Goals as goal

-- the arguments of the call
abbrev writing : (c r offset : ℕ) (patch called : List ℕ) (file : ℕ) (sheet : List ℕ) (club : ℕ) → Writing
writing c r offset patch called file sheet club = record { c = c; r = r; offset = offset; patch = patch; called = called; file = file; sheet = sheet; club = club }

pub returns-in_default : goal.returns-in_default
unfolding lent_sheet
returns-in_default c =
    let a = c.args in
    let no = one-no a.t.now (writing a.c a.r a.offset a.patch.now a.called.now a.file a.sheet.now a.club) (rw c.in_default.ensures) in
    (no.0.result, no.0.table, refl, c.note.ensures ∙ no.1, no.0.sheet)

pub returns-then-not-ordered : goal.returns-then-not-ordered
unfolding lent_sheet
returns-then-not-ordered c =
    let a = c.args in
    let no = one-no a.t.now (writing a.c a.r a.offset a.patch.now a.called.now a.file a.sheet.now a.club) (rw c.in-Some.ensures.0 (sym c.ordered.ensures.0 ∙ c.if-not-ordered.true)) in
    (no.0.result, no.0.table, refl, c.note-then-not-ordered.ensures ∙ no.1, no.0.sheet)

pub used-requires : goal.used-requires
used-requires c = long (sized (c.ordered.ensures.1 c.if-not-ordered.false).formed)

pub new-frame-requires : goal.new-frame-requires
new-frame-requires c = let f = c.ordered.ensures.1 c.if-not-ordered.false in (listed-of f c.used.ensures, f.grouped.apart)

pub answer-a-requires : goal.answer-a-requires
answer-a-requires c = (rw c.new-frame.ensures (frame-of (c.ordered.ensures.1 c.if-not-ordered.false) c.used.ensures), known-none _ _ _)

-- the call answers as it does with this byte and this sheet
answered : (c : After-answer-a) → let a = c.args in
    let o = outcome a.t.now (write (writing a.c a.r a.offset a.patch.now a.called.now a.file a.sheet.now a.club)) in
    (answer_number c.answer-a.result ≡ result_of o) × (c.answer-a.new.t ≡ o.table) × (noted a.called.now c.answer-a.new.called ≡ o.called)
answered c = c.answer-a.ensures.answer c.args.called.now c.args.sheet.now c.args.club refl c.in-Some.ensures.0 c.in-Some.ensures.1

pub count_one-requires : goal.count_one-requires
count_one-requires c =
    let a = c.args in
    let k = (goal.at.count_one-requires c).After-answer-a in
    may-count a.t.now (writing a.c a.r a.offset a.patch.now a.called.now a.file a.sheet.now a.club) _ (answered k).0 (ok-low c.answer-a.result c.if-is_ok.ensures.value c.answer-a.ensures.within)

pub returns-then-is_ok : goal.returns-then-is_ok
returns-then-is_ok c =
    let a = c.args in
    let k = (goal.at.returns-then-is_ok c).After-answer-a in
    let o = answered k in
    (o.0, o.1, refl, c.note-2.ensures ∙ o.2, c.count_one.ensures ∙ counted-done a.t.now (writing a.c a.r a.offset a.patch.now a.called.now a.file a.sheet.now a.club) _ o.0 (ok-low c.answer-a.result c.if-is_ok.ensures.value c.answer-a.ensures.within))

pub returns-else-is_ok : goal.returns-else-is_ok
returns-else-is_ok c =
    let a = c.args in
    let k = (goal.at.returns-else-is_ok c).After-answer-a in
    let o = answered k in
    (o.0, o.1, refl, c.note-2.ensures ∙ o.2, not-counted a.t.now (writing a.c a.r a.offset a.patch.now a.called.now a.file a.sheet.now a.club) _ o.0 (err-high c.answer-a.result c.if-is_ok.ensures.value))
