use mathlib.Core.Bool.{Bool, true, false}
use mathlib.Core.Path.{◌≡◌, refl, sym, ap, ◌∙◌, subst}
use Prim.Native.Nat.{ℕ, ◌-◌, ◌^◌, ◌<◌}
use native.Mathlib.Omega.{arith}
use borrow.Author.Tests.{not-false}
use lib.ListN.{get_or}
use Rattle.bools.proofs.BoolLaws.{and_l, clash}
use Rattle.places.proofs.BestLaws.{row-alone, tops-none, tops-more, within_more, joined-within, joined-none, joined-more, first-behind, first-passed, behind-taken, tops-behind}
use Rattle.places.proofs.PlaceLaws.{placed_row}
use Rattle.rows.specs.declared.Members.{Members}
use Rattle.places.specs.Places.{placed, Tops, Behind}
use Rattle.sets.proofs.SetLaws.{has_within}
use Rattle.sets.proofs.MemberLaws.{only, none-taken, all-taken, at-hand, one-taken}
use Rattle.sets.specs.Sets.{has, no_row, losing, left_of, joining}
use Rattle.sets.specs.Upto.{Within, some}
use Rattle.places.proofs.best.Goals.{After-behind-left, After-lowest, Else-is_empty, In-Some}
use Rattle.places.proofs.best.Goals as goal

-- some row is there, and the lowest is at hand
some-there : (c : Else-is_empty) → some 64 (has c.args.s.bits) ≡ true
some-there c = not-false _ (sym c.is_empty.ensures ∙ c.if-is_empty.false)

first-hand : (c : After-lowest) → Within 64 c.lowest.result × (has c.args.s.bits c.lowest.result ≡ true)
first-hand c = at-hand (none-taken _) (some-there c.before) c.lowest.ensures

small : (c : After-lowest) → c.args.s.bits < 2 ^ 64
small c = omega arith

-- the rows passed over have what it has
passed : (c : After-behind-left) → Within 64 c.lowest.result → let a = c.args in
    Behind (placed a.values.now) (get_or a.values.now (c.lowest.result - 1) 0) a.s.bits c.behind-left.result.bits × (has c.behind-left.result.bits c.lowest.result ≡ false)
passed c w =
    let a = c.args in
    let i = c.lowest.result in
    let lost = c.rest.ensures.0 ∙ ap (losing (has a.s.bits)) (sym c.lowest.ensures) in
    let here = placed_row a.values.now i w in
    (first-behind _ _ a.s.bits _ _ i lost c.rest.ensures.1 here c.behind-left.ensures, first-passed _ _ a.s.bits _ _ i lost c.rest.ensures.1 here c.behind-left.ensures)

-- in a turn the lowest row left is at hand
hand : (c : In-Some) → Within 64 c.in-Some.i
hand c = let s = c.in-Some.ensures.steps in (at-hand c.loop-i.invariant.1 s.0 s.1).0

pub returns-then-is_empty : goal.returns-then-is_empty
returns-then-is_empty c = rw (all-taken (none-taken c.args.s.bits) (omega arith) (sym c.is_empty.ensures ∙ c.if-is_empty.true)) (tops-none _ _ refl refl)

pub overflow_sub-first : goal.overflow_sub-first
overflow_sub-first c = omega (arith, first-hand c)

pub offset_bounds-values-lowest : goal.offset_bounds-values-lowest
offset_bounds-values-lowest c = omega (arith, first-hand c)

pub bounds-values-lowest : goal.bounds-values-lowest
bounds-values-lowest c = omega (arith, first-hand (goal.at.bounds-values-lowest c).After-lowest)

pub loop-i-init : goal.loop-i-init
unfolding no_row
loop-i-init c = (no_row, none-taken _, λ j e. absurd (clash e), λ q w t. rw (joined-none q) t)

pub overflow_sub-k : goal.overflow_sub-k
overflow_sub-k c = omega (arith, hand c)

pub offset_bounds-values-k : goal.offset_bounds-values-k
offset_bounds-values-k c = omega (arith, hand c)

pub bounds-values-k : goal.bounds-values-k
bounds-values-k c = omega (arith, hand (goal.at.bounds-values-k c).In-Some)

pub loop-i-preserved : goal.loop-i-preserved
loop-i-preserved c =
    let at_hand = hand (goal.at.loop-i-preserved c).In-Some in
    let l = c.loop-i in
    let p = l.invariant.0 in
    let i = c.in-Some.i in
    let s = c.in-Some.ensures.steps in (
      joining p (only i),
      one-taken l.invariant.1 s.0 s.1 (s.2, s.3),
      within_more p i l.invariant.2 at_hand,
      λ q inside t.
          rw (← joined-more q p (only i))
          (tops-more (joining q p) _ (joined-within q p inside l.invariant.2) i at_hand _ _ _ _ (l.invariant.3 q inside t) (sym (placed_row _ i at_hand))
          (c.add.ensures ∙ row-alone (i - 1) i (omega arith) at_hand)
          c.better-b.ensures),
    )

pub returns : goal.returns
unfolding left_of
returns c =
    let l = c.loop-i in
    let s = c.args.s.bits in
    let g = goal.at.returns c in
    let at_hand = first-hand g.After-lowest in
    let over = passed g.After-behind-left at_hand.0 in
    let f = placed c.args.values.now in
    let left = c.behind-left.result.bits in
    let start : has c.into_iter-i-iterator.result.left.bits ≡ has left = ap (λ (m : Members). has m.left.bits) (c.into_iter-i-iterator.ensures.into_iter_gives ∙ c.members-i-items.ensures) in
    let all = sym start ∙ all-taken l.invariant.1 (omega arith) c.in-None.ensures.steps.0 in
    let first = tops-behind f _ s left over.0 _ at_hand.0 at_hand.1 over.1 _ refl c.outside.ensures in
    subst (λ (g : ℕ → Bool). Tops g f l.b) (sym ((behind-taken f _ s left over.0).all ∙ ap (joining (left_of (has s) (has left))) all))
    (l.invariant.3 _ (λ j e. has_within 64 s j (small g.After-lowest) (and_l _ _ e)) first)
