use mathlib.Core.Path.{sym, ◌∙◌, ap}
use mathlib.Core.Bool.{Bool, ◌&&◌}
use Prim.Native.Nat.{ℕ}
use Rattle.sets.specs.Upto.{some}
use Rattle.sets.specs.Sets.{has}
use Rattle.counties.specs.Levels.{level_choice}
use Rattle.counties.specs.Counties.{counties, in_county}
use Rattle.counties.proofs.TwoLevelLaws.{has-members}
use Rattle.grouping.specs.Grouped.{county_by, frame_by}
use Rattle.tiers.proofs.TierLaws.{choice-in-one, choice-within}
use Rattle.tiers.proofs.choice.Goals as goal

pub returns-then-in_one : goal.returns-then-in_one
unfolding frame_by
returns-then-in_one c =
    let a = c.args in
    let f = a.frame.now in
    c.choice.ensures ∙ choice-in-one a.kind (frame_by f.chain f.counties) a.list (c.in_one.ensures c.if-in_one.true) a.name

pub chosen_above-up-requires : goal.chosen_above-up-requires
chosen_above-up-requires c =
    let a = c.args in
    λ j h. (has-members (county_by a.frame.now.counties) (has a.list.members) j (ap (λ (f : ℕ → Bool). f j) (sym c.having.ensures) ∙ h)).0

pub returns : goal.returns
unfolding frame_by
returns c =
    let a = c.args in
    let f = a.frame.now in
    c.chosen_within.ensures
    ∙ ap {B = ℕ → Bool} (λ (up : ℕ → Bool) (i : ℕ). some 8 (λ j. up j && level_choice a.kind a.list.mark f.chain (in_county (county_by f.counties) (has a.list.members) j) a.name i))
    (c.chosen_above-up.ensures ∙ ap (λ (up : ℕ → Bool). level_choice a.kind a.list.mark counties up a.name) c.having.ensures)
    ∙ choice-within a.kind (frame_by f.chain f.counties) a.list a.name
