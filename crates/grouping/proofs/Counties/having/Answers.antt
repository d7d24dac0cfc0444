use mathlib.Core.Path.{◌≡◌, ◌∙◌, ap}
use mathlib.Core.Bool.{not, cond}
use Prim.Native.Nat.{ℕ, ◌+◌}
use native.Mathlib.Nat.{mod-eq_of_lt}
use native.Mathlib.Omega.{arith}
use Rattle.bools.proofs.BoolLaws.{not-not}
use Rattle.sets.specs.Upto.{some}
use Rattle.sets.specs.Sets.{has, gaining}
use Rattle.sets.proofs.SetLaws.{has-empty}
use Rattle.sets.proofs.GatherLaws.{none-gathered, one-gathered}
use Rattle.counties.specs.Counties.{has_members}
use Rattle.grouping.proofs.Counties.having.Goals as goal

pub loop-k-init : goal.loop-k-init
loop-k-init c = has-empty ∙ none-gathered _

pub loop-k-preserved : goal.loop-k-preserved
loop-k-preserved c =
    let l = c.loop-k in
    let less = c.loop-k-test.true in
    c.add-out.ensures ∙ ap (λ (x : ℕ). cond (not c.is_empty.result) (gaining (has l.out.bits) (x + 1)) (has l.out.bits)) (mod-eq_of_lt (omega arith))
    ∙ one-gathered _ (has l.out.bits) l.k (not c.is_empty.result) (omega arith) l.invariant
    (ap not c.is_empty.ensures ∙ not-not _ ∙ ap (some 64) c.inside-there.ensures)

pub returns : goal.returns
unfolding has_members
returns c =
    let l = c.loop-k in
    let e : l.k ≡ 8 = omega (arith, l.auto.k-end, c.loop-k-test.false) in
    rw e at l.invariant
