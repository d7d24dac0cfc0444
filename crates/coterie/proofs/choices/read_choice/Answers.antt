use mathlib.Core.Path.{refl, ap₂, ◌∙◌}
use mathlib.Core.Bool.{Bool}
use Prim.Native.Nat.{ℕ, ◌+◌, ◌-◌, ◌*◌, ◌≤◌, ◌<◌, ◌%◌}
use native.Mathlib.Nat.{mul-le-mul_right}
use native.Mathlib.Omega.{arith}
use Rattle.coterie.proofs.TurnLaws.{parts, low-place, high-place, one-run, two_runs}
use Rattle.sets.specs.Sets.{joining}
use Rattle.coterie.proofs.choices.read_choice.Goals.{After-height-low}
use Rattle.coterie.proofs.choices.read_choice.Goals as goal

-- where the rows and the runs lie
laid : (c : After-height-low) → let a = c.args in let h = c.height-low.result in let n = a.g.cols in
    (1 ≤ h) × (h * n ≤ a.length) × (a.length - h * n < n) × (a.name % h * n + n ≤ h * n) × (a.name % (h + 1) * n ≤ h * n)
laid c =
    let a = c.args in
    let p = parts a.g a.length a.name _ _ c.requires.0 c.height-low.ensures refl in
    (p.0, omega (arith, p.1), p.2, low-place a.g a.length a.name _ _ c.requires.0 c.height-low.ensures refl, high-place a.g a.length a.name _ _ c.requires.0 c.height-low.ensures refl)

pub overflow_mul-more : goal.overflow_mul-more
overflow_mul-more c = omega (arith, laid c)

pub overflow_sub-more : goal.overflow_sub-more
overflow_sub-more c = (laid c).1

pub nonzero_rem-name : goal.nonzero_rem-name
nonzero_rem-name c = (laid c).0

pub overflow_mul-name : goal.overflow_mul-name
overflow_mul-name c = omega (arith, laid c)

pub overflow_add-name : goal.overflow_add-name
overflow_add-name c = omega (arith, laid c)

pub overflow_sub-columns : goal.overflow_sub-columns
overflow_sub-columns c = omega (arith, laid c)

pub run-set-requires : goal.run-set-requires
run-set-requires c = omega (arith, laid c)

pub returns-then-more-eq0 : goal.returns-then-more-eq0
returns-then-more-eq0 c =
    c.run-set.ensures ∙ one-run c.args.g c.args.length c.args.name _ _ c.requires.0 c.height-low.ensures refl c.if-more-eq0.true

pub overflow_add-low : goal.overflow_add-low
overflow_add-low c =
    omega (arith, laid (goal.at.overflow_add-low c).After-height-low, mul-le-mul_right {m = 1} {n = c.args.g.cols} c.height-low.result c.requires.0.some-column)

pub overflow_mul-name-2 : goal.overflow_mul-name-2
overflow_mul-name-2 c = omega (arith, laid (goal.at.overflow_mul-name-2 c).After-height-low)

pub run-requires : goal.run-requires
run-requires c = omega (arith, laid (goal.at.run-requires c).After-height-low)

pub returns : goal.returns
returns c =
    c.joined.ensures ∙ ap₂ {C = ℕ → Bool} joining c.run-set.ensures c.run.ensures
    ∙ two_runs c.args.g c.args.length c.args.name _ _ c.requires.0 c.height-low.ensures refl
