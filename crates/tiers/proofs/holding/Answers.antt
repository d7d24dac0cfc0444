use mathlib.Core.Path.{◌≡◌, sym, ◌∙◌, ap}
use mathlib.Core.Bool.{Bool, not, cond}
use Prim.Native.Nat.{ℕ, ◌+◌}
use native.Mathlib.Nat.{mod-eq_of_lt}
use native.Mathlib.Omega.{arith}
use Rattle.sets.specs.Sets.{has, gaining}
use Rattle.sets.proofs.SetLaws.{has-empty}
use Rattle.sets.proofs.GatherLaws.{none-gathered, one-gathered}
use Rattle.counties.specs.Levels.{level}
use borrow.Author.Tests.{not-true}
use Rattle.tiers.proofs.TierLaws.{none-held}
use Rattle.tiers.proofs.holding.Goals.{then-not-is_empty, else-not-is_empty}
use Rattle.tiers.proofs.holding.Goals as goal

pub loop-k-init : goal.loop-k-init
loop-k-init c = has-empty ∙ none-gathered _

pub loop-k-preserved : goal.loop-k-preserved
loop-k-preserved c =
    let l = c.loop-k in
    let a = c.args in
    let less = c.loop-k-test.true in
    let held = c.if-not-is_empty.held in
    let there = has c.inside-there.result.bits in
    let is : held ≡ level a.kind a.list.mark a.frame.now.chain there (has a.set.bits) = elim c.if-not-is_empty.branch [
      | then-not-is_empty w ↦ w.held-is ∙ w.quorum-held.ensures
      | else-not-is_empty w ↦ w.held-is ∙ ap not w.if-not-is_empty.false ∙ sym (none-held a.kind a.list.mark a.frame.now.chain there (has a.set.bits) (not-true _ (sym c.is_empty.ensures ∙ w.if-not-is_empty.false)))
    ] in
    c.add-out.ensures ∙ ap (λ (x : ℕ). cond held (gaining (has l.out.bits) (x + 1)) (has l.out.bits)) (mod-eq_of_lt (omega arith))
    ∙ one-gathered _ (has l.out.bits) l.k held (omega arith) l.invariant
    (is ∙ ap (λ (q : ℕ → Bool). level a.kind a.list.mark a.frame.now.chain q (has a.set.bits)) c.inside-there.ensures)
