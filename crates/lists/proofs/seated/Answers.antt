use mathlib.Core.Bool.{cond, ◌&&◌}
use mathlib.Core.Path.{◌≡◌, sym, ap, ◌∙◌}
use Prim.Native.Nat.{ℕ, ◌<◌, ◌≤◌}
use native.Mathlib.Nat.{div-one}
use native.Mathlib.Omega.{arith}
use lib.ListN.{length, get_or, take}
use lib.Seq.{take_all}
use Rattle.lists.proofs.SeatLaws.{row-place, left-next, seated-next, none-seated}
use Rattle.counties.specs.Levels.{seats}
use Rattle.sets.proofs.SetLaws.{has-empty}
use Rattle.sets.specs.Sets.{has, gaining}
use Rattle.sets.specs.Upto.{Within, keep}
use Rattle.lists.proofs.seated.Goals as goal

pub loop-j-init : goal.loop-j-init
unfolding seats keep
loop-j-init c = (sym (div-one c.args.positions.bits), has-empty ∙ none-seated (has c.args.positions.bits))

pub loop-j-preserved : goal.loop-j-preserved
loop-j-preserved c =
    let l = c.loop-j in
    let a = c.args in
    let chain = a.chain.now in
    let few : length chain ≤ 64 = omega arith in
    let inside : l.j < length chain = omega (arith, c.loop-j-test.true) in
    let w = c.len-j-end.ensures.each l.j inside in
    let r : Within 64 (get_or chain l.j 0) = omega arith in
    let row = row-place c.place_at-place.result (get_or chain l.j 0) c.place_at-place.ensures r in
    let set = has l.set.bits in
    let b = c.both in
    let listed = c.at-member.ensures ∙ ap (has a.members.bits) row in (
      c.popped-left.ensures ∙ left-next chain (has a.members.bits) a.positions.bits l.j inside few l.invariant.0 listed,
      c.add-set.ensures ∙ ap (λ (i : ℕ). cond b.result (gaining set i) set) row
          ∙ seated-next chain (has a.members.bits) a.positions.bits l.j inside few l.invariant.0 listed set _ r l.invariant.1
          (b.ensures ∙ ap (◌&&◌ c.at-member.result) c.at.ensures),
    )

pub returns : goal.returns
returns c =
    let l = c.loop-j in
    let chain = c.args.chain.now in
    let e : take l.j chain ≡ chain = take_all l.j chain (omega (arith, c.loop-j-test.false)) in
    rw e at l.invariant.1
