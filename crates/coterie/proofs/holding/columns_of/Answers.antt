use mathlib.Core.Bool.{Bool, ◌||◌}
use mathlib.Core.Path.{◌≡◌, sym, ap, ap₂, ◌∙◌}
use Prim.Native.Nat.{ℕ, ◌+◌}
use native.Mathlib.Nat.{zero-mod, add-mod_right}
use native.Mathlib.Omega.{arith}
use Rattle.coterie.proofs.TurnLaws.{row-turn, rows_end}
use Rattle.quorums.specs.Quorums.{touches}
use Rattle.sets.proofs.SetLaws.{empty-at, has-shift}
use Rattle.sets.specs.Sets.{has, cut_to, joining}
use Rattle.sets.specs.Upto.{Within, some}
use Rattle.coterie.proofs.holding.columns_of.Goals.{After-joined-found}
use Rattle.coterie.proofs.holding.columns_of.Goals as goal

pub loop-at-init : goal.loop-at-init
unfolding touches some
loop-at-init c = (zero-mod c.args.columns, λ j w. empty-at j)

-- what is found with one row of positions more
turn : (c : After-joined-found) → let n = c.args.columns in
    (j : ℕ) → Within n j → has c.joined-found.result.bits j ≡ touches n (c.loop-at.at + n) (has c.cut-inside.result.bits) j
unfolding joining
turn c j w =
    let l = c.loop-at in
    let s = c.cut-inside.result.bits in
    ap (λ (f : ℕ → Bool). f j) c.joined-found.ensures ∙ ap₂ ◌||◌ (l.invariant.1 j w) (has-shift s l.at j w.0)
    ∙ sym (row-turn c.args.columns (has s) j w l.at l.invariant.0)

pub loop-at-preserved : goal.loop-at-preserved
loop-at-preserved c =
    (add-mod_right c.loop-at.at c.args.columns ∙ c.loop-at.invariant.0, turn (goal.at.loop-at-preserved c).After-joined-found)

pub returns : goal.returns
returns c j w =
    let l = c.loop-at in
    let a = c.args in
    l.invariant.1 j w ∙ ap (λ (f : ℕ → Bool). touches a.columns l.at f j) (c.cut-inside.ensures ∙ ap (cut_to (has a.set.bits)) c.first.ensures)
    ∙ rows_end a.columns a.length l.at (has a.set.bits) j (omega arith) (omega arith)

pub returns-2 : goal.returns-2
returns-2 c j w =
    let l = c.loop-at in
    let a = c.args in
    turn (goal.at.returns-2 c).After-joined-found j w
    ∙ ap (λ (f : ℕ → Bool). touches a.columns (l.at + a.columns) f j) (c.cut-inside.ensures ∙ ap (cut_to (has a.set.bits)) c.first.ensures)
    ∙ rows_end a.columns a.length (l.at + a.columns) (has a.set.bits) j (omega arith) (omega arith)
