use mathlib.Core.Path.{◌≡◌, refl, sym, ◌∙◌, ap}
use Prim.Native.Nat.{ℕ, ◌+◌}
use native.Mathlib.Omega.{arith}
use Rattle.sets.specs.Upto.{every}
use Rattle.sets.proofs.TestLaws.{every_more, every-not}
use Rattle.fields.specs.Layout.{used_of, row_bytes}
use Rattle.table.specs.WellFormed.{plain}
use Rattle.table.proofs.WellFormedLaws.{long}
use Rattle.carrying.specs.Moves.{all_plain}
use Rattle.moves.proofs.all_plain.Goals.{After-plain}
use Rattle.moves.proofs.all_plain.Goals as goal

-- what was found of the row at hand
found : (c : After-plain) → let t = c.args.t.now in plain (row_bytes t (c.loop-k.k + 1)) ≡ c.plain.result
found c = sym (c.plain.ensures ∙ ap plain c.row_of.ensures.0)

pub used-k-end-requires : goal.used-k-end-requires
used-k-end-requires c = long c.requires

pub loop-k-init : goal.loop-k-init
unfolding every
loop-k-init c = refl

pub returns-then-not-plain : goal.returns-then-not-plain
unfolding all_plain
returns-then-not-plain c =
    every-not _ _ (c.loop-k.k + 1) (omega (arith, c.loop-k-test.true, c.used-k-end.ensures)) (found (goal.at.returns-then-not-plain c).After-plain ∙ c.if-not-plain.true)

pub loop-k-preserved : goal.loop-k-preserved
loop-k-preserved c =
    let l = c.loop-k in
    every_more _ l.k l.invariant (found (goal.at.loop-k-preserved c).After-plain ∙ c.if-not-plain.false)

pub returns : goal.returns
unfolding all_plain
returns c =
    let l = c.loop-k in
    let t = c.args.t.now in
    let e : l.k ≡ used_of t = omega (arith, c.loop-k-test.false, c.used-k-end.ensures) in
    sym l.invariant ∙ ap (λ (n : ℕ). every n (λ i. plain (row_bytes t i))) e
