use mathlib.Core.Path.{sym, ◌∙◌, ap, ap₂}
use mathlib.Core.Bool.{Bool}
use Prim.Native.Nat.{ℕ}
use Rattle.sets.specs.Sets.{has}
use Rattle.counties.specs.Levels.{level}
use Rattle.counties.specs.Counties.{counties}
use Rattle.counties.proofs.TwoLevelLaws.{has-members}
use Rattle.grouping.specs.Grouped.{county_by, frame_by}
use Rattle.tiers.proofs.TierLaws.{quorum-in-one, quorum-above}
use Rattle.tiers.proofs.quorum.Goals as goal

pub returns-then-in_one : goal.returns-then-in_one
unfolding frame_by
returns-then-in_one c =
    let a = c.args in
    let f = a.frame.now in
    c.quorum.ensures ∙ quorum-in-one a.kind (frame_by f.chain f.counties) a.list (c.in_one.ensures c.if-in_one.true) (has a.set.bits)

pub held_above-requires : goal.held_above-requires
held_above-requires c =
    let a = c.args in
    λ j h. (has-members (county_by a.frame.now.counties) (has a.list.members) j (ap (λ (f : ℕ → Bool). f j) (sym c.having-up.ensures) ∙ h)).0

pub returns : goal.returns
unfolding frame_by
returns c =
    let a = c.args in
    let f = a.frame.now in
    c.held_above.ensures
    ∙ ap₂ (λ (up held : ℕ → Bool). level a.kind a.list.mark counties up held) c.having-up.ensures c.holding-held.ensures
    ∙ quorum-above a.kind (frame_by f.chain f.counties) a.list (has a.set.bits)
