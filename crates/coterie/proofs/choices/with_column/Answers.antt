use mathlib.Core.Bool.{Bool}
use mathlib.Core.Path.{◌≡◌, sym, ap, ◌∙◌}
use Prim.Native.Nat.{ℕ, ◌+◌, ◌-◌, ◌%◌}
use native.Mathlib.Omega.{arith}
use native.Mathlib.Nat.{mod-eq_of_lt}
use Rattle.coterie.proofs.TurnLaws.{column_to, column-start, column-turn, column-next, column-end}
use Rattle.grid.specs.Sizes.{column_of}
use Rattle.sets.specs.Sets.{has, gaining}
use Rattle.coterie.proofs.choices.with_column.Goals.{After-with-grown}
use Rattle.coterie.proofs.choices.with_column.Goals as goal

pub loop-at-init : goal.loop-at-init
unfolding column_of
loop-at-init c =
    let a = c.args in
    let m : (a.j - 1) % a.columns ≡ a.j - 1 = mod-eq_of_lt (omega arith) in
    (omega arith, omega arith, sym (column-start a.columns a.length a.j (has a.set.bits)))

-- what has grown by one position
turn : (c : After-with-grown) → let a = c.args in
    has c.with-grown.result.bits ≡ column_to a.columns a.length a.j (has a.set.bits) (c.loop-at.at + a.columns)
turn c =
    let l = c.loop-at in
    let a = c.args in
    c.with-grown.ensures ∙ ap (λ (f : ℕ → Bool). gaining f l.at) l.invariant.2
    ∙ column-turn a.columns a.length a.j (has a.set.bits) l.at (omega arith) (omega arith) (omega arith) l.invariant.1

pub loop-at-preserved : goal.loop-at-preserved
loop-at-preserved c =
    let l = c.loop-at in
    let a = c.args in
    (omega arith, column-next a.columns a.length a.j (has a.set.bits) l.at l.invariant.0 l.invariant.1, turn (goal.at.loop-at-preserved c).After-with-grown)

pub returns : goal.returns
returns c =
    let l = c.loop-at in
    let a = c.args in
    l.invariant.2 ∙ column-end a.columns a.length a.j (has a.set.bits) l.at (omega arith)

pub returns-2 : goal.returns-2
returns-2 c =
    let l = c.loop-at in
    let a = c.args in
    turn (goal.at.returns-2 c).After-with-grown ∙ column-end a.columns a.length a.j (has a.set.bits) (l.at + a.columns) (omega arith)
