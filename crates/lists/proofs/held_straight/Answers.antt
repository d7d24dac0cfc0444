use mathlib.Core.Bool.{cond}
use mathlib.Core.Path.{refl, sym, ap, ◌∙◌}
use mathlib.Core.List.{List, [], ◌∷◌}
use Prim.Native.Nat.{ℕ, ◌+◌, ◌-◌, ◌<◌}
use native.Mathlib.Nat.{mod-eq_of_lt}
use native.Mathlib.Omega.{arith}
use borrow.Author.Tests.{eqb-true}
use lib.ListN.{length, length-append}
use Rattle.lists.proofs.SeatLaws.{row-place, held_more, none-held}
use Rattle.lists.proofs.StraightLaws.{all-ahead, all-passed, at-hand, above, seats-next, seats-few, seats-cut, all_held, one-passed}
use Rattle.counties.specs.Levels.{seats, at_seat}
use Rattle.rows.specs.declared.Members.{Members}
use Rattle.sets.proofs.SetLaws.{has-empty}
use Rattle.sets.specs.Sets.{has, gaining, cut_to}
use Rattle.sets.specs.Upto.{upward, keep}
use Rattle.lists.proofs.held_straight.Goals.{In-Some}
use Rattle.lists.proofs.held_straight.Goals as goal

-- the next member has one of 64 positions
few : (c : In-Some) → c.loop-i.k < 64
few c =
    let l = c.loop-i in
    let s = c.in-Some.ensures.steps in
    omega (arith, seats-few l.invariant.0 (has c.into_iter-i-iterator.result.left.bits), above l.invariant.1 s.0 s.1, (at-hand l.invariant.1 s.0 s.1).0, l.invariant.2)

pub returns-then-eq : goal.returns-then-eq
returns-then-eq c =
    c.cut.ensures ∙ ap (cut_to (has c.args.set.bits)) c.first-all.ensures ∙ all_held c.args.count (has c.args.members.bits) (has c.args.set.bits) c.requires (ap has (eqb-true _ _ (sym c.eq.ensures ∙ c.if-eq.true)) ∙ c.first-all.ensures)

pub loop-i-init : goal.loop-i-init
unfolding seats keep upward
loop-i-init c = (0, all-ahead _, refl, has-empty ∙ none-held _)

pub overflow_sub-i : goal.overflow_sub-i
overflow_sub-i c =
    let s = c.in-Some.ensures.steps in omega (arith, (at-hand c.loop-i.invariant.1 s.0 s.1).0)

pub overflow_add-k : goal.overflow_add-k
overflow_add-k c = omega (arith, few (goal.at.overflow_add-k c).In-Some)

pub loop-i-preserved : goal.loop-i-preserved
loop-i-preserved c =
    let l = c.loop-i in
    let m = l.invariant.0 in
    let x = c.in-Some.i in
    let s = c.in-Some.ensures.steps in
    let w = (at-hand l.invariant.1 s.0 s.1).0 in
    let b = few (goal.at.loop-i-preserved c).In-Some in
    let xs = seats (upward m 1) (has c.into_iter-i-iterator.result.left.bits) in
    let f = has l.positions.bits in
    let next = seats-next l.invariant.1 s.0 s.1 in
    let row = row-place (x - 1) x (omega (arith, w)) w in (
      x,
      one-passed l.invariant.1 s.0 s.1 (s.2, s.3) (omega arith),
      ap (λ (i : ℕ). i + 1) l.invariant.2 ∙ sym (ap length next ∙ length-append xs (x ∷ [])),
      c.add-positions.ensures ∙ ap (λ (i : ℕ). cond c.at.result (gaining f i) f) (ap (λ (i : ℕ). i + 1) (mod-eq_of_lt b ∙ l.invariant.2))
          ∙ held_more xs x (has c.args.set.bits) f c.at.result (omega (arith, b, l.invariant.2)) l.invariant.3 (c.at.ensures ∙ ap (has c.args.set.bits) row)
          ∙ ap (λ (ys : List ℕ). at_seat ys (has c.args.set.bits)) (sym next),
    )

pub returns : goal.returns
returns c =
    let l = c.loop-i in
    let n = c.args.count in
    let start = ap (λ (m : Members). has m.left.bits) (c.into_iter-i-iterator.ensures.into_iter_gives ∙ c.members-i-items.ensures) ∙ c.cut-2.ensures ∙ ap (cut_to (has c.args.members.bits)) c.first-all.ensures in
    let all = sym (all-passed l.invariant.1 c.in-None.ensures.steps.0) ∙ ap (seats (upward 64 1)) start ∙ seats-cut (has c.args.members.bits) n c.requires in
    l.invariant.3 ∙ ap (λ (ys : List ℕ). at_seat ys (has c.args.set.bits)) all
