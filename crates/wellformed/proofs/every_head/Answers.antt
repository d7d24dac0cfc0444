use Rattle.wellformed.proofs.RowLaws.{head}
use Rattle.table.proofs.WellFormedLaws.{header, few-rows, long}
use Rattle.fields.specs.Layout.{form_value, used_of}
use Rattle.sets.proofs.TestLaws.{every_more, every-not}
use Rattle.sets.specs.Upto.{Within, every}
use native.Mathlib.Omega.{arith}
use Prim.Native.Nat.{ℕ, ◌+◌}
use mathlib.Core.Path.{◌≡◌, refl, sym, ◌∙◌, ap}
use Rattle.wellformed.proofs.every_head.Goals.{After-head_by, In-loop-k}
use Rattle.wellformed.proofs.every_head.Goals as goal

-- the row at hand is used
within : (c : In-loop-k) → Within (used_of c.args.t.now) (c.loop-k.k + 1)
within c = omega (arith, c.loop-k-test.true, c.used-used.ensures)

-- what was found of it
found : (c : After-head_by) → head c.args.t.now (c.loop-k.k + 1) ≡ c.head_by.result
unfolding head
found c =
    sym (c.head_by.ensures ∙ rw (c.form-form.ensures, c.used-used.ensures, c.row_at.ensures.0))

pub form-form-requires : goal.form-form-requires
form-form-requires c = long c.requires

pub row_length-size-requires : goal.row_length-size-requires
row_length-size-requires c = (long c.requires, c.requires.header)

pub used-used-requires : goal.used-used-requires
used-used-requires c = long c.requires

pub loop-k-init : goal.loop-k-init
unfolding every
loop-k-init c = refl

pub head_by-requires : goal.head_by-requires
unfolding form_value
head_by-requires c =
    (omega (arith, c.form-form.ensures, (header c.requires.header).form), omega (arith, c.used-used.ensures, few-rows c.requires), omega (arith, c.used-used.ensures, within (goal.at.head_by-requires c).In-loop-k), c.row_at.ensures.1)

pub returns-then-not-head_by : goal.returns-then-not-head_by
unfolding head
returns-then-not-head_by c = every-not _ _ (c.loop-k.k + 1) (within (goal.at.returns-then-not-head_by c).In-loop-k) (found (goal.at.returns-then-not-head_by c).After-head_by ∙ c.if-not-head_by.true)

pub loop-k-preserved : goal.loop-k-preserved
loop-k-preserved c =
    let l = c.loop-k in
    every_more _ l.k l.invariant (found (goal.at.loop-k-preserved c).After-head_by ∙ c.if-not-head_by.false)

pub returns : goal.returns
unfolding head
returns c =
    let t = c.args.t.now in
    let e : c.loop-k.k ≡ used_of t = omega (arith, c.loop-k-test.false, c.loop-k.auto.k-end, c.used-used.ensures) in
    sym c.loop-k.invariant ∙ ap (λ (n : ℕ). every n (head t)) e
