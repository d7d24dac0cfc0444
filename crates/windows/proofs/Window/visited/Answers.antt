use mathlib.Core.Path.{◌≡◌, sym, ◌∙◌, ap}
use mathlib.Core.Bool.{Bool, cond}
use Rattle.std.proofs.Common.{Some, None}
use Prim.Native.Nat.{◌+◌, ◌-◌, ◌%◌}
use native.Mathlib.Nat.{mod-eq_of_lt}
use native.Mathlib.Omega.{arith}
use Rattle.sets.specs.Sets.{has, gaining}
use Rattle.sets.specs.Upto.{Within}
use Rattle.window.specs.Windows.{width, record_of, next}
use Rattle.windows.specs.Visits.{window}
use Rattle.windows.proofs.WalkLaws.{passed_none, passed-more, at-end, at_none, at_most}
use Rattle.windows.proofs.Window.visited.Goals as goal

pub loop-count-init : goal.loop-count-init
unfolding window
loop-count-init c = passed_none (window _ _)

pub returns-then-fills : goal.returns-then-fills
returns-then-fills c =
    ap (λ (b : Bool). cond b (Some c.loop-count.count) None) (sym c.if-fills.true ∙ c.fills.ensures) ∙ at-end c.loop-count.invariant c.if-next-eq0.true (omega (arith, c.loop-count-test.true))

pub returns-else-fills : goal.returns-else-fills
returns-else-fills c =
    ap (λ (b : Bool). cond b (Some c.loop-count.count) None) (sym c.if-fills.false ∙ c.fills.ensures) ∙ at-end c.loop-count.invariant c.if-next-eq0.true (omega (arith, c.loop-count-test.true))

pub returns-then-next-gt-PLACES : goal.returns-then-next-gt-PLACES
returns-then-next-gt-PLACES c =
    at_none c.loop-count.invariant (omega (arith, c.if-next-gt-PLACES.true)) (omega (arith, c.loop-count-test.true))

pub overflow_sub-next : goal.overflow_sub-next
overflow_sub-next c = omega (arith, c.if-next-eq0.false)

pub next_of-next-requires : goal.next_of-next-requires
next_of-next-requires c = omega (arith, c.if-next-eq0.false, c.if-next-gt-PLACES.false)

pub loop-count-preserved : goal.loop-count-preserved
unfolding next record_of width window
loop-count-preserved c =
    let v : Within 16 c.loop-count.next = omega (arith, c.if-next-eq0.false, c.if-next-gt-PLACES.false) in
    let place : (c.loop-count.next - 1) % 64 ≡ c.loop-count.next - 1 = mod-eq_of_lt (omega (arith, v)) in
    let row : (c.loop-count.next - 1) % 64 + 1 ≡ c.loop-count.next = omega (arith, place, v.0) in
    passed-more c.loop-count.invariant (has c.add-seen.result.bits) c.next_of-next.result (omega (arith, c.loop-count-test.true)) v
    (c.add-seen.ensures ∙ ap (gaining (has c.loop-count.seen.bits)) row) c.next_of-next.ensures

pub returns : goal.returns
returns c = at_most c.loop-count.invariant (omega (arith, c.loop-count-test.false))
