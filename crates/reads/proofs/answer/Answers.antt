use mathlib.Core.Bool.{Bool, true, false, ◌&&◌}
use mathlib.Core.Path.{◌≡◌, refl, sym, ◌∙◌, ap}
use mathlib.Core.List.{List, [], ◌∷◌}
use Prim.Native.Nat.{ℕ}
use borrow.Author.Tests.{eq-eqb, ne_eqb}
use lib.Dec.{eqb}
use lib.ListN.{length}
use Rattle.std.proofs.lemmas.Result.{err_from_is_err_and}
use Rattle.octets.specs.Bytes.{part}
use Rattle.fields.specs.Layout.{copy_bytes, contents}
use Rattle.table.proofs.WellFormedLaws.{newest, sized}
use Rattle.asking.specs.Refusals.{no_number}
use Rattle.asking.proofs.AskingLaws.{some-number}
use Rattle.protocol.specs.Calls.{Reading, lent}
use Rattle.questions.specs.Stages.{a_read}
use Rattle.questions.proofs.QuestionLaws.{range-passed, called-early, called-long, called-by}
use Rattle.settle.proofs.SettleLaws.{known-none}
use Rattle.reads.proofs.ReadLaws.{read-early, read-long, read_no, source-used, range-in, read_done}
use Rattle.reads.proofs.answer.Goals.{Else-not-fits, Joined-then-buffer-count, then-buffer-count-via-then-buffer-count, then-buffer-count-via-else-buffer-count+then-not-fits}
use Rattle.reads.proofs.answer.Goals as goal

-- the arguments of the call
abbrev reading : (c r offset count : ℕ) (buffer called : List ℕ) (file : ℕ) → Reading
reading c r offset count buffer called file = record { c = c; r = r; offset = offset; count = count; buffer = buffer; called = called; file = file }

-- 5 is no
not-fitting : (c : Joined-then-buffer-count) (list : List ℕ) → c.args.fits ≡ eqb (length list) 1 → (eqb (length c.args.buffer.now) c.args.count && eqb (length list) 1) ≡ false
not-fitting c list e = let a = c.args in
    elim c.then-buffer-count.branch [
      | then-buffer-count-via-then-buffer-count w ↦ rw (ne_eqb (length a.buffer.now) a.count w.if-buffer-count.true)
      | then-buffer-count-via-else-buffer-count+then-not-fits w ↦ rw (eq-eqb (length a.buffer.now) a.count w.if-buffer-count.false) (sym e ∙ w.if-not-fits.true)
    ]

-- 5 is passed
fitting : (c : Else-not-fits) (list : List ℕ) → c.args.fits ≡ eqb (length list) 1 → (eqb (length c.args.buffer.now) c.args.count && eqb (length list) 1) ≡ true
fitting c list e = let a = c.args in rw (eq-eqb (length a.buffer.now) a.count c.if-buffer-count.false) (sym e ∙ c.if-not-fits.false)

pub range_asked-requires : goal.range_asked-requires
range_asked-requires c = c.requires.formed

pub returns-in_err-range_asked : goal.returns-in_err-range_asked
unfolding lent
returns-in_err-range_asked c list e =
    let a = c.args in
    let p = err_from_is_err_and c.from_residual.result c.from_residual.ensures.1 in
    let w = reading a.c a.r a.offset a.count a.buffer.now list a.q in
    let n = c.in_err-range_asked.ensures in
    let no = read-early a.t.now w _ n (some-number _) in
    (rw (p.1, p.2) no.result, no.table, no.buffer, called-early a.t.now (a_read {a = w}) _ n (some-number _))

pub returns-then-buffer-count : goal.returns-then-buffer-count
unfolding lent
returns-then-buffer-count c list e =
    let a = c.args in
    let w = reading a.c a.r a.offset a.count a.buffer.now list a.q in
    let p = sym c.in_ok-range_asked.ensures in
    let five = not-fitting c list e in
    let no = read-long a.t.now w p five in
    (no.result, no.table, no.buffer, called-long a.t.now (a_read {a = w}) p five)

pub settle-s-requires : goal.settle-s-requires
settle-s-requires c =
    let a = c.args in
    let y = range-passed a.t.now a.c a.r a.q a.offset a.count (sym c.in_ok-range_asked.ensures) in
    (c.requires, y.1, y.0.rows, y.0.answered, known-none _ _ _)

pub returns-in_err-s : goal.returns-in_err-s
unfolding lent
returns-in_err-s c list e =
    let a = c.args in
    let s = c.settle-s in
    let f = err_from_is_err_and c.from_residual-in_err-s.result c.from_residual-in_err-s.ensures.1 in
    let w = reading a.c a.r a.offset a.count a.buffer.now list a.q in
    let p = sym c.in_ok-range_asked.ensures in
    let five = fitting (goal.at.returns-in_err-s c).Else-not-fits list e in
    let no = read_no a.t.now w p five s.result s.ensures _ (ap no_number c.in_err-s.was) (some-number _) in
    (rw (f.1, f.2) no.result, no.table, no.buffer, called-by a.t.now (a_read {a = w}) p five s.result.called s.ensures.called)

-- what is asked of the row is so whatever list of one byte was lent
pub copy_of-requires : goal.copy_of-requires
copy_of-requires c =
    let a = c.args in
    let s = c.settle-s in
    let k = (goal.at.copy_of-requires c).Else-not-fits in
    let w = reading a.c a.r a.offset a.count a.buffer.now (0 ∷ []) a.q in
    let p = sym c.in_ok-range_asked.ensures in
    let y = range-passed a.t.now a.c a.r a.q a.offset a.count p in
    (sized y.0.formed, newest a.t.now y.0.formed, rw c.lowest-source.ensures (source-used a.t.now w p (fitting k (0 ∷ []) k.if-not-fits.false) s.result s.ensures (ap no_number c.in_ok-s.was)), y.1)

pub copy_out-requires : goal.copy_out-requires
copy_out-requires c =
    let a = c.args in
    let s = c.settle-s in
    let k = (goal.at.copy_out-requires c).Else-not-fits in
    let w = reading a.c a.r a.offset a.count a.buffer.now (0 ∷ []) a.q in
    rw (c.copy_of.ensures.0, c.lowest-source.ensures) (range-in a.t.now w (sym c.in_ok-range_asked.ensures) (fitting k (0 ∷ []) k.if-not-fits.false) s.result s.ensures (ap no_number c.in_ok-s.was))

pub returns : goal.returns
returns c list e =
    let a = c.args in
    let s = c.settle-s in
    let w = reading a.c a.r a.offset a.count a.buffer.now list a.q in
    let p = sym c.in_ok-range_asked.ensures in
    let five = fitting (goal.at.returns c).Else-not-fits list e in
    let yes = read_done a.t.now w p five s.result s.ensures (ap no_number c.in_ok-s.was) in
    let bytes = c.copy_of.ensures.0 ∙ ap (copy_bytes a.t.now a.q) c.lowest-source.ensures in (
      yes.0,
      yes.1,
      c.copy_out.ensures ∙ ap (λ x. part a.offset (length a.buffer.now) (contents x)) bytes ∙ yes.2,
      called-by a.t.now (a_read {a = w}) p five s.result.called s.ensures.called,
    )
