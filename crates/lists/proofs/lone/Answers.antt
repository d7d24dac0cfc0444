use mathlib.Core.Bool.{Bool, ◌&&◌, and-true, and-false}
use mathlib.Core.Path.{◌≡◌, refl, sym, ap, ◌∙◌, fun_ext}
use Prim.Native.Nat.{ℕ, ◌<◌}
use native.Mathlib.Omega.{arith}
use borrow.Author.Tests.{le-leb}
use lib.Dec.{leb}
use lib.ListN.{length, get_or, take}
use lib.Seq.{take_all}
use Rattle.lists.proofs.SeatLaws.{row-place, stands_at, none-stands}
use Rattle.counties.specs.Levels.{seats}
use Rattle.sets.proofs.SetLaws.{has-empty}
use Rattle.sets.specs.Sets.{has, no_row}
use Rattle.sets.specs.Upto.{keep}
use Rattle.lists.proofs.lone.Goals.{After-at}
use Rattle.lists.proofs.lone.Goals as goal

-- what is known of the row at hand
inside : (c : After-at) → c.loop-j.j < length c.args.chain.now
inside c = omega (arith, c.loop-j-test.true)

at_row : (c : After-at) → c.at.result ≡ has c.args.members.bits (get_or c.args.chain.now c.loop-j.j 0)
at_row c =
    let w = c.len-j-end.ensures.each c.loop-j.j (inside c) in
    c.at.ensures ∙ ap (has c.args.members.bits) (row-place c.place_at.result (get_or c.args.chain.now c.loop-j.j 0) c.place_at.ensures (omega arith))

pub loop-j-init : goal.loop-j-init
unfolding seats keep
loop-j-init c = refl

pub returns-then-at : goal.returns-then-at
returns-then-at c =
    let a = c.args in
    let d = (goal.at.returns-then-at c).After-at in
    let some = stands_at a.chain.now (has a.members.bits) c.loop-j.j (inside d) (sym (at_row d) ∙ c.if-at.true) in
    fun_ext (λ i. sym (ap (λ (b : Bool). has a.members.bits i && b) (le-leb 1 _ some) ∙ and-true (has a.members.bits i)))

pub loop-j-preserved : goal.loop-j-preserved
loop-j-preserved c =
    let a = c.args in
    let d = (goal.at.loop-j-preserved c).After-at in
    none-stands a.chain.now (has a.members.bits) c.loop-j.j (inside d) (omega arith) (sym (at_row d) ∙ c.if-at.false) c.loop-j.invariant

pub returns : goal.returns
unfolding no_row
returns c =
    let l = c.loop-j in
    let a = c.args in
    let e : take l.j a.chain.now ≡ a.chain.now = take_all l.j a.chain.now (omega (arith, c.loop-j-test.false)) in
    let none : length (seats a.chain.now (has a.members.bits)) ≡ 0 = rw e at l.invariant in
    has-empty ∙ fun_ext (λ i. sym (ap (λ (n : ℕ). has a.members.bits i && leb 1 n) none ∙ and-false (has a.members.bits i)))
