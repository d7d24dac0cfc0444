use mathlib.Core.Bool.{true, false}
use mathlib.Core.Path.{◌≡◌, refl, sym, ◌∙◌, ap}
use mathlib.Core.List.{List, [], ◌∷◌}
use Prim.Native.Nat.{ℕ}
use native.Mathlib.Omega.{arith}
use borrow.Author.Tests.{ltb-true}
use lib.Dec.{eqb, ltb}
use lib.ListN.{length}
use Rattle.std.proofs.lemmas.Result.{err_from_is_err_and}
use Rattle.table.proofs.WellFormedLaws.{newest, sized}
use Rattle.table.specs.WellFormed.{limit}
use Rattle.asking.specs.Refusals.{no_number}
use Rattle.asking.proofs.AskingLaws.{some-number}
use Rattle.sheet.proofs.ShownLaws.{open_sheet, open-right, open-asks}
use Rattle.protocol.specs.Calls.{Writing}
use Rattle.questions.specs.Stages.{a_write}
use Rattle.questions.proofs.QuestionLaws.{range-passed, called-early, called-long, called-by}
use Rattle.effects.proofs.WriteLaws.{write-early, write-long, write-no, write-share, write-full, works-used, works-right, patch-in, write_done}
use Rattle.effects.proofs.answer.Goals.{Else-not-below_limit}
use Rattle.effects.proofs.answer.Goals as goal

-- the arguments of the call
abbrev writing : (c r offset : ℕ) (patch called : List ℕ) (file : ℕ) (sheet : List ℕ) (club : ℕ) → Writing
writing c r offset patch called file sheet club = record { c = c; r = r; offset = offset; patch = patch; called = called; file = file; sheet = sheet; club = club }

-- 8 is passed
room : (c : Else-not-below_limit) → ltb c.settle-s.result.version limit ≡ true
room c = sym c.below_limit.ensures ∙ c.if-not-below_limit.false

pub range_asked-requires : goal.range_asked-requires
range_asked-requires c = c.requires.0.formed

pub returns-in_err-range_asked-clause-answer : goal.returns-in_err-range_asked-clause-answer
returns-in_err-range_asked-clause-answer c list sheet club e right share =
    let a = c.args in
    let p = err_from_is_err_and c.from_residual.result c.from_residual.ensures.1 in
    let w = writing a.c a.r a.offset a.patch.now list a.q sheet club in
    let n = c.in_err-range_asked.ensures in
    let no = write-early a.t.now w right _ n (some-number _) in
    (rw (p.1, p.2) no.result, no.table, called-early a.t.now (a_write {a = w} right) _ n (some-number _))

pub returns-then-not-fits-clause-answer : goal.returns-then-not-fits-clause-answer
returns-then-not-fits-clause-answer c list sheet club e right share =
    let a = c.args in
    let w = writing a.c a.r a.offset a.patch.now list a.q sheet club in
    let p = sym c.in_ok-range_asked.ensures in
    let five : eqb (length list) 1 ≡ false = sym e ∙ c.if-not-fits.true in
    let no = write-long a.t.now w right p five in
    (no.result, no.table, called-long a.t.now (a_write {a = w} right) p five)

pub settle-s-requires : goal.settle-s-requires
settle-s-requires c =
    let a = c.args in
    let y = range-passed a.t.now a.c a.r a.q a.offset (length a.patch.now) (sym c.in_ok-range_asked.ensures) in
    (c.requires.0, y.1, y.0.rows, y.0.answered, c.requires.1)

pub returns-in_err-s-clause-answer : goal.returns-in_err-s-clause-answer
returns-in_err-s-clause-answer c list sheet club e right share =
    let a = c.args in
    let s = c.settle-s in
    let f = err_from_is_err_and c.from_residual-in_err-s.result c.from_residual-in_err-s.ensures.1 in
    let w = writing a.c a.r a.offset a.patch.now list a.q sheet club in
    let p = sym c.in_ok-range_asked.ensures in
    let five : eqb (length list) 1 ≡ true = sym e ∙ c.if-not-fits.false in
    let no = write-no a.t.now w right p five s.result s.ensures _ share _ (ap no_number c.in_err-s.was) (some-number _) in
    (rw (f.1, f.2) no.result, no.table, called-by a.t.now (a_write {a = w} right) p five s.result.called s.ensures.called)

pub returns-in_err-share-clause-answer : goal.returns-in_err-share-clause-answer
returns-in_err-share-clause-answer c list sheet club e right share =
    let a = c.args in
    let s = c.settle-s in
    let f = err_from_is_err_and c.from_residual-in_err-share.result c.from_residual-in_err-share.ensures.1 in
    let w = writing a.c a.r a.offset a.patch.now list a.q sheet club in
    let p = sym c.in_ok-range_asked.ensures in
    let five : eqb (length list) 1 ≡ true = sym e ∙ c.if-not-fits.false in
    let no = write-share a.t.now w right p five s.result s.ensures _ share (ap no_number c.in_ok-s.was) _ (ap no_number c.in_err-share.was) (some-number _) in
    (rw (f.1, f.2) no.result, no.table, called-by a.t.now (a_write {a = w} right) p five s.result.called s.ensures.called)

pub returns-then-not-below_limit-clause-answer : goal.returns-then-not-below_limit-clause-answer
returns-then-not-below_limit-clause-answer c list sheet club e right share =
    let a = c.args in
    let s = c.settle-s in
    let w = writing a.c a.r a.offset a.patch.now list a.q sheet club in
    let p = sym c.in_ok-range_asked.ensures in
    let five : eqb (length list) 1 ≡ true = sym e ∙ c.if-not-fits.false in
    let no = write-full a.t.now w right p five s.result s.ensures _ share (ap no_number c.in_ok-s.was) (ap no_number c.in_ok-share.was) (sym c.below_limit.ensures ∙ c.if-not-below_limit.true) in
    (no.result, no.table, called-by a.t.now (a_write {a = w} right) p five s.result.called s.ensures.called)

pub overflow_add-version : goal.overflow_add-version
unfolding limit
overflow_add-version c = let v = c.settle-s.result.version in record { fits = omega (arith, ltb-true v limit (room (goal.at.overflow_add-version c).Else-not-below_limit)) }

-- what is asked of the rows is so whatever list of one byte was lent, and whatever sheet that lets the club write
pub write_rows-requires : goal.write_rows-requires
write_rows-requires c =
    let a = c.args in
    let s = c.settle-s in
    let w = writing a.c a.r a.offset a.patch.now (0 ∷ []) a.q open_sheet 1 in
    let p = sym c.in_ok-range_asked.ensures in
    let y = range-passed a.t.now a.c a.r a.q a.offset (length a.patch.now) p in
    let none = ap no_number c.in_ok-share.was in
    let share = none ∙ sym open-asks in
    let done = ap no_number c.in_ok-s.was in (
      sized y.0.formed,
      newest a.t.now y.0.formed,
      y.1,
      works-used a.t.now w open-right p refl s.result s.ensures _ share done none (room (goal.at.write_rows-requires c).Else-not-below_limit),
      patch-in a.t.now w open-right p refl s.result s.ensures _ share done none (room (goal.at.write_rows-requires c).Else-not-below_limit),
      works-right a.t.now w open-right p refl s.result s.ensures _ share done none (room (goal.at.write_rows-requires c).Else-not-below_limit),
    )

pub returns-clause-answer : goal.returns-clause-answer
returns-clause-answer c list sheet club e right share =
    let a = c.args in
    let s = c.settle-s in
    let w = writing a.c a.r a.offset a.patch.now list a.q sheet club in
    let p = sym c.in_ok-range_asked.ensures in
    let five : eqb (length list) 1 ≡ true = sym e ∙ c.if-not-fits.false in
    let yes = write_done a.t.now w right p five s.result s.ensures _ share (ap no_number c.in_ok-s.was) (ap no_number c.in_ok-share.was) (room (goal.at.returns-clause-answer c).Else-not-below_limit) in
    (yes.0, c.write_rows.ensures ∙ yes.1, called-by a.t.now (a_write {a = w} right) p five s.result.called s.ensures.called)

pub returns-clause-within : goal.returns-clause-within
returns-clause-within c = let v = c.settle-s.result.version in omega (arith, ltb-true v limit (room (goal.at.returns-clause-within c).Else-not-below_limit))
