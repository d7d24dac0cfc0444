use mathlib.Core.Bool.{Bool, true, false, ◌&&◌}
use mathlib.Core.Path.{◌≡◌, refl, sym, ◌∙◌, ap}
use Prim.Native.Nat.{ℕ}
use native.Mathlib.Omega.{arith}
use Rattle.questions.proofs.QuestionLaws.{by-answers}
use Rattle.table.proofs.WellFormedLaws.{sized, long, few-rows}
use Rattle.protocol.specs.Calls.{is_used}
use Rattle.table.specs.WellFormed.{between, only_rows}
use Rattle.fields.specs.Layout.{used_of}
use Rattle.questions.proofs.coordinator_asked.Goals.{Then-not-only_rows, Else-not-only_rows, then-between, else-between}
use Rattle.questions.proofs.coordinator_asked.Goals as goal

-- question 2, as it was asked
unused : (c : Then-not-only_rows) → let a = c.args in (is_used a.t.now a.c && only_rows (used_of a.t.now) a.answering.bits) ≡ false
unfolding is_used
unused c =
    let a = c.args in
    let u = c.used-used.ensures in
    let x : between 1 a.c (used_of a.t.now) ≡ c.between.result = sym (c.between.ensures ∙ ap (between 1 a.c) u) in
    elim c.if-between.branch [
      | then-between w ↦ rw (x, w.if-between.true) (sym (w.only_rows.ensures ∙ ap (λ (n : ℕ). only_rows n a.answering.bits) u) ∙ sym w.value-is ∙ c.if-not-only_rows.true)
      | else-between w ↦ rw (x, w.if-between.false) refl
    ]

used : (c : Else-not-only_rows) → let a = c.args in (is_used a.t.now a.c && only_rows (used_of a.t.now) a.answering.bits) ≡ true
unfolding is_used
used c =
    let a = c.args in
    let u = c.used-used.ensures in
    let x : between 1 a.c (used_of a.t.now) ≡ c.between.result = sym (c.between.ensures ∙ ap (between 1 a.c) u) in
    elim c.if-between.branch [
      | then-between w ↦ rw (x, w.if-between.true) (sym (w.only_rows.ensures ∙ ap (λ (n : ℕ). only_rows n a.answering.bits) u) ∙ sym w.value-is ∙ c.if-not-only_rows.false)
      | else-between w ↦ rw (x, w.if-between.false) (sym w.if-between.false ∙ sym w.value-is ∙ c.if-not-only_rows.false)
    ]

pub used-used-requires : goal.used-used-requires
used-used-requires c = long (sized c.requires)

pub only_rows-requires : goal.only_rows-requires
only_rows-requires c = omega (arith, c.used-used.ensures, few-rows (sized c.requires))

pub returns-then-not-only_rows : goal.returns-then-not-only_rows
returns-then-not-only_rows c = by-answers _ _ _ false _ c.requires (unused c) refl

pub returns-then-not-has : goal.returns-then-not-has
returns-then-not-has c = by-answers _ _ _ true false c.requires (used (goal.at.returns-then-not-has c).Else-not-only_rows) (sym c.has.ensures ∙ c.if-not-has.true)

pub returns : goal.returns
returns c = by-answers _ _ _ true true c.requires (used (goal.at.returns c).Else-not-only_rows) (sym c.has.ensures ∙ c.if-not-has.false)
