use mathlib.Core.List.{List, [], ◌∷◌}
use mathlib.Core.Path.{◌≡◌, refl, sym, ◌∙◌, ap, subst, subst₂}
use Prim.Native.Nat.{ℕ, ◌<◌, ◌^◌, ◌+◌, ◌*◌}
use native.Mathlib.Omega.{arith}
use lib.ListN.{length}
use Rattle.std.proofs.lemmas.Result.{err_from_is_err_and}
use Rattle.sets.specs.Upto.{Within}
use Rattle.table.specs.WellFormed.{limit}
use Rattle.table.proofs.WellFormedLaws.{sized, long}
use Rattle.grouping.specs.Grouped.{Framed}
use Rattle.grouping.proofs.FrameLaws.{listed-of}
use Rattle.asking.specs.Asking.{result_number}
use Rattle.asking.proofs.AskingLaws.{some-number}
use Rattle.sheet.proofs.SheetLaws.{sheet-facts}
use Rattle.effects.proofs.WriteLaws.{may-count, write-framed}
use Rattle.protocol.specs.Calls.{Writing, write, outcome, result_of}
use Rattle.orders.specs.Turns.{Ready, Opened, frame_in}
use Rattle.orders.proofs.OrderLaws.{same-run, step-refused, step-65, one-done, one-refused, ready-after, stands-again}
use Rattle.orders.proofs.step.Goals.{Else-turn-gt64, Else-turn-eq64, In_ok-answer}
use Rattle.orders.proofs.step.Goals as goal

-- the write that is made
abbrev writing : (c r offset : ℕ) (patch : List ℕ) (file : ℕ) (sheet : List ℕ) (club : ℕ) → Writing
writing c r offset patch file sheet club = record { c = c; r = r; offset = offset; patch = patch; called = 0 ∷ []; file = file; sheet = sheet; club = club }

-- a round that goes on
opened : (k : Else-turn-gt64) → let a = k.args in Opened a.t.now a.sheet.now a.order.now a.sets.now a.turn a.choices.now
opened k = k.requires (omega (arith, k.if-turn-gt64.false))

low : (k : Else-turn-eq64) → k.args.turn.done < 64
low k = omega (arith, k.if-turn-eq64.false, k.if-turn-gt64.false)

-- what it answers where it is done
made : (k : In_ok-answer) → let a = k.args in
    let o = outcome a.t.now (write (writing a.c a.r a.offset a.patch.now a.file a.sheet.now a.club)) in
    (0 * 2 ^ 32 + k.in_ok-answer.field-0 ≡ result_of o) × (k.answer.new.t ≡ o.table)
made k = let e = k.in_ok-answer.ensures.answer (0 ∷ []) k.args.sheet.now k.args.club refl (k.requires (omega (arith, k.if-turn-gt64.false))).ready.right k.share_asked-share.ensures in (e.0, e.1)

small : (k : In_ok-answer) → 0 * 2 ^ 32 + k.in_ok-answer.field-0 < 2 ^ 32
unfolding limit
small k = omega (arith, k.in_ok-answer.ensures.within)

may : (k : In_ok-answer) → (length k.args.sheet.now ≡ 196) × Within 16 k.args.club
may k = let a = k.args in may-count a.t.now (writing a.c a.r a.offset a.patch.now a.file a.sheet.now a.club) _ (made k).0 (small k)

pub returns-then-turn-gt64-clause-made : goal.returns-then-turn-gt64-clause-made
returns-then-turn-gt64-clause-made c = step-refused _ c.args.t.now c.args.sheet.now c.args.turn.done c.if-turn-gt64.true

pub returns-then-turn-eq64-clause-made : goal.returns-then-turn-eq64-clause-made
returns-then-turn-eq64-clause-made c =
    let a = c.args in
    same-run (ap (result_number 4) c.if-turn-eq64.true) refl refl ∙ step-65 _ a.t.now a.sheet.now a.turn.done c.if-turn-eq64.true

pub share_asked-share-requires : goal.share_asked-share-requires
share_asked-share-requires c = ((sheet-facts c.args.sheet.now (c.requires (omega (arith, c.if-turn-gt64.false))).ready.right).long, (c.requires (omega (arith, c.if-turn-gt64.false))).ready.spare)

pub used-requires : goal.used-requires
used-requires c = long (sized (c.requires (omega (arith, c.if-turn-gt64.false))).framed.formed)

pub new-frame-requires : goal.new-frame-requires
new-frame-requires c = let f = (c.requires (omega (arith, c.if-turn-gt64.false))).framed in (listed-of f c.used.ensures, f.grouped.apart)

pub chosen-known-requires : goal.chosen-known-requires
chosen-known-requires c =
    let y = (c.requires (omega (arith, c.if-turn-gt64.false))).ready in (rw (c.new-frame.ensures, c.used.ensures) y.framed, y.kept)

pub answer-requires : goal.answer-requires
answer-requires c = (rw (c.new-frame.ensures, c.used.ensures) (c.requires (omega (arith, c.if-turn-gt64.false))).ready.framed, c.chosen-known.ensures.0)

pub returns-in_err-answer-clause-made : goal.returns-in_err-answer-clause-made
returns-in_err-answer-clause-made c =
    let a = c.args in
    let f = err_from_is_err_and c.from_residual.result c.from_residual.ensures.1 in
    let e = c.in_err-answer.ensures.answer (0 ∷ []) a.sheet.now a.club refl (c.requires (omega (arith, c.if-turn-gt64.false))).ready.right c.share_asked-share.ensures in
    rw (f.1, f.2) (one-refused a.t.now (writing a.c a.r a.offset a.patch.now a.file a.sheet.now a.club) a.turn.done _ _ (low (goal.at.returns-in_err-answer-clause-made c).Else-turn-eq64) e.0 e.1 _ refl (some-number _))

pub left_after-left-requires : goal.left_after-left-requires
left_after-left-requires c = may c

pub count_one-requires : goal.count_one-requires
count_one-requires c = may (goal.at.count_one-requires c).In_ok-answer

pub returns-clause-made : goal.returns-clause-made
returns-clause-made c =
    let p = goal.at.returns-clause-made c in
    let k = p.In_ok-answer in
    let a = c.args in
    same-run refl refl c.count_one.ensures ∙ one-done a.t.now (writing a.c a.r a.offset a.patch.now a.file a.sheet.now a.club) a.turn.done _ _ (low p.Else-turn-eq64) (made k).0 (made k).1 (small k)

pub returns-clause-ready : goal.returns-clause-ready
returns-clause-ready c =
    let p = goal.at.returns-clause-ready c in
    let k = p.In_ok-answer in
    let a = c.args in
    let w = writing a.c a.r a.offset a.patch.now a.file a.sheet.now a.club in
    let y = c.requires (omega (arith, c.if-turn-gt64.false)) in
    let g : Framed c.answer.new.t a.order.now a.sets.now = subst (λ (v : List ℕ). Framed v a.order.now a.sets.now) (sym (made k).1) (write-framed w y.framed) in λ h. (
      refl,
      stands-again y.framed g
          (subst₂ (λ (v : List ℕ) (m : ℕ). Ready c.answer.new.t v (frame_in a.t.now a.order.now a.sets.now) (record { done = a.turn.done + 1; left = m }) c.chosen-known.new.choices) (sym c.count_one.ensures) (sym c.left_after-left.ensures)
          (ready-after a.t.now (frame_in a.t.now a.order.now a.sets.now) w _ _ a.turn _ (made k).0 (made k).1 (small k) (low p.Else-turn-eq64)
          (record { framed = y.ready.framed; right = y.ready.right; few = y.ready.few; spare = y.ready.spare; kept = c.chosen-known.ensures.1 }))),
    )
