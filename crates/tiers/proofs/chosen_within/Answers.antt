use mathlib.Core.Path.{◌≡◌, sym, ◌∙◌, ap}
use mathlib.Core.Bool.{Bool, ◌&&◌}
use Prim.Native.Nat.{ℕ, ◌+◌}
use native.Mathlib.Nat.{mod-eq_of_lt}
use native.Mathlib.Omega.{arith}
use Rattle.sets.specs.Sets.{has}
use Rattle.sets.proofs.SetLaws.{has-empty}
use Rattle.sets.proofs.GatherLaws.{none-joined, one-joined}
use Rattle.counties.specs.Levels.{level_choice}
use Rattle.counties.specs.Counties.{in_county}
use Rattle.grouping.specs.Grouped.{county_by}
use Rattle.rows.specs.declared.RowSet.{RowSet}
use Rattle.tiers.proofs.TierLaws.{none-added}
use Rattle.tiers.proofs.chosen_within.Goals.{then-at, else-at}
use Rattle.tiers.proofs.chosen_within.Goals as goal

pub loop-k-init : goal.loop-k-init
loop-k-init c = has-empty ∙ none-joined _

pub loop-k-preserved : goal.loop-k-preserved
loop-k-preserved c =
    let l = c.loop-k in
    let a = c.args in
    let f = a.frame.now in
    let less = c.loop-k-test.true in
    let within : ℕ → ℕ → Bool = λ x j. level_choice a.kind a.list.mark f.chain (in_county (county_by f.counties) (has a.list.members) j) a.name x in
    let up : has a.up.bits (l.k + 1) ≡ c.at.result = sym (c.at.ensures ∙ ap (λ (x : ℕ). has a.up.bits (x + 1)) (mod-eq_of_lt (omega arith))) in
    elim c.if-at.branch [
      | then-at w ↦ ap (λ (s : RowSet). has s.bits) w.out-is ∙ w.joined-out.ensures
          ∙ one-joined (λ (x j : ℕ). has a.up.bits j && within x j) (has l.out.bits) (has w.choice.result.bits) l.k l.invariant
          (w.choice.ensures
          ∙ ap {B = ℕ → Bool} (λ (q : ℕ → Bool) (x : ℕ). level_choice a.kind a.list.mark f.chain q a.name x) w.inside-there.ensures
          ∙ ap {B = ℕ → Bool} (λ (b : Bool) (x : ℕ). b && within x (l.k + 1)) (sym (up ∙ w.if-at.true)))
      | else-at w ↦ ap (λ (s : RowSet). has s.bits) w.out-is
          ∙ none-added (λ (x j : ℕ). has a.up.bits j && within x j) (has l.out.bits) l.k l.invariant (λ i. ap (λ (b : Bool). b && within i (l.k + 1)) (up ∙ w.if-at.false))
    ]
