use mathlib.Core.Bool.{Bool, cond, ◌&&◌}
use mathlib.Core.Path.{sym, ap, ◌∙◌}
use mathlib.Core.List.{List}
use Prim.Native.Nat.{ℕ, ◌-◌, ◌/◌, ◌^◌, ◌<◌}
use native.Mathlib.Nat.{div-one}
use native.Mathlib.Omega.{arith}
use lib.Dec.{eqb}
use lib.ListN.{length}
use Rattle.lists.proofs.SeatLaws.{row-place, left-more, seated-more, none-seated}
use Rattle.lists.proofs.StraightLaws.{all-ahead, all-passed, at-hand, above, seats-next, seats-few, seats-cut, one-passed}
use Rattle.counties.specs.Levels.{seats, at_seat}
use Rattle.rows.specs.declared.Members.{Members}
use Rattle.sets.proofs.SetLaws.{has-empty}
use Rattle.sets.specs.Sets.{has, gaining, cut_to}
use Rattle.sets.specs.Upto.{some, upward, keep}
use Rattle.lists.proofs.seated_straight.Goals as goal

pub loop-i-init : goal.loop-i-init
unfolding seats keep upward
loop-i-init c = (0, all-ahead _, sym (div-one c.args.positions.bits), has-empty ∙ none-seated (has c.args.positions.bits))

pub overflow_sub-i : goal.overflow_sub-i
overflow_sub-i c =
    let s = c.in-Some.ensures.steps in omega (arith, (at-hand c.loop-i.invariant.1 s.0 s.1).0)

pub loop-i-preserved : goal.loop-i-preserved
loop-i-preserved c =
    let l = c.loop-i in
    let m = l.invariant.0 in
    let x = c.in-Some.i in
    let q = c.args.positions.bits in
    let s = c.in-Some.ensures.steps in
    let w = (at-hand l.invariant.1 s.0 s.1).0 in
    let members = has c.into_iter-i-iterator.result.left.bits in
    let xs = seats (upward m 1) members in
    let f = has l.set.bits in
    let next = seats-next l.invariant.1 s.0 s.1 in
    let few : length xs < 64 = omega (arith, seats-few m members, above l.invariant.1 s.0 s.1, w) in
    let row = row-place (x - 1) x (omega (arith, w)) w in (
      x,
      one-passed l.invariant.1 s.0 s.1 (s.2, s.3) (omega arith),
      c.popped-ahead.ensures ∙ left-more xs x q l.invariant.2 ∙ ap (λ (ys : List ℕ). q / 2 ^ length ys) (sym next),
      c.add-set.ensures ∙ ap (λ (i : ℕ). cond c.at.result (gaining f i) f) row ∙ seated-more xs x q l.invariant.2 f c.at.result few w l.invariant.3 c.at.ensures
          ∙ ap {B = ℕ → Bool} (λ (ys : List ℕ) (i : ℕ). some 64 (λ k. has q k && at_seat ys (eqb i) k)) (sym next),
    )

pub returns : goal.returns
returns c =
    let l = c.loop-i in
    let start = ap (λ (m : Members). has m.left.bits) (c.into_iter-i-iterator.ensures.into_iter_gives ∙ c.members-i-items.ensures) ∙ c.cut.ensures ∙ ap (cut_to (has c.args.members.bits)) c.first.ensures in
    let all = sym (all-passed l.invariant.1 c.in-None.ensures.steps.0) ∙ ap (seats (upward 64 1)) start ∙ seats-cut (has c.args.members.bits) c.args.count c.requires in
    l.invariant.3 ∙ ap {B = ℕ → Bool} (λ (ys : List ℕ) (i : ℕ). some 64 (λ k. has c.args.positions.bits k && at_seat ys (eqb i) k)) all
