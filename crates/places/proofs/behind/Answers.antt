use mathlib.Core.Bool.{true}
use mathlib.Core.Path.{◌≡◌, sym, ◌∙◌}
use native.Mathlib.Omega.{arith}
use borrow.Author.Tests.{not-false}
use Rattle.bools.proofs.BoolLaws.{clash}
use Rattle.places.proofs.BestLaws.{taken-behind, same_more}
use Rattle.places.proofs.PlaceLaws.{placed_row}
use Rattle.sets.proofs.MemberLaws.{only, none-taken, at-hand, fewer-left, one-taken}
use Rattle.sets.specs.Sets.{has, no_row, joining}
use Rattle.sets.specs.Upto.{Within, some}
use Rattle.places.proofs.behind.Goals.{After-lowest, In-loop-left}
use Rattle.places.proofs.behind.Goals as goal

-- in a turn some row is left
some_left : (c : In-loop-left) → some 64 (has c.loop-left.left.bits) ≡ true
some_left c = not-false _ (sym c.is_empty.ensures ∙ c.loop-left-test.true)

-- and the lowest of them is at hand
hand : (c : After-lowest) → Within 64 c.lowest.result
hand c = (at-hand c.loop-left.invariant.1 (some_left c.before) c.lowest.ensures).0

pub loop-left-init : goal.loop-left-init
unfolding no_row
loop-left-init c = (no_row, none-taken _, λ j e. absurd (clash e))

pub overflow_sub-lowest : goal.overflow_sub-lowest
overflow_sub-lowest c = omega (arith, hand c)

pub offset_bounds-values-lowest : goal.offset_bounds-values-lowest
offset_bounds-values-lowest c = omega (arith, hand c)

pub bounds-values-lowest : goal.bounds-values-lowest
bounds-values-lowest c = omega (arith, hand (goal.at.bounds-values-lowest c).After-lowest)

pub returns-then-values-lowest : goal.returns-then-values-lowest
returns-then-values-lowest c = let l = c.loop-left in taken-behind _ _ l.invariant.0 _ _ l.invariant.1 l.invariant.2

pub loop-left-smaller : goal.loop-left-smaller
loop-left-smaller c =
    fewer-left c.loop-left.invariant.1 (some_left (goal.at.loop-left-smaller c).In-loop-left) c.lowest.ensures c.rest-left.ensures

pub loop-left-preserved : goal.loop-left-preserved
loop-left-preserved c =
    let l = c.loop-left in (
      joining l.invariant.0 (only c.lowest.result),
      one-taken l.invariant.1 (some_left (goal.at.loop-left-preserved c).In-loop-left) c.lowest.ensures c.rest-left.ensures,
      same_more l.invariant.0 _ _ c.lowest.result l.invariant.2 (placed_row _ _ (hand (goal.at.loop-left-preserved c).After-lowest) ∙ c.if-values-lowest.false),
    )

pub returns : goal.returns
returns c = let l = c.loop-left in taken-behind _ _ l.invariant.0 _ _ l.invariant.1 l.invariant.2
