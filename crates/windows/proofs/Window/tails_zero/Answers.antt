use mathlib.Core.Path.{◌≡◌, refl, sym, ◌∙◌, ap, subst}
use mathlib.Core.List.{List}
use lib.ListN.{length}
use Prim.Native.Nat.{ℕ, ◌+◌, ◌*◌, ◌≤◌}
use native.Mathlib.Omega.{arith}
use Rattle.sets.specs.Upto.{every}
use Rattle.octets.proofs.CodeLaws.{part-is, part_length}
use Rattle.blocks.specs.Blocks.{block}
use Rattle.windows.specs.Visits.{tail_zero, Short}
use Rattle.windows.proofs.ZeroLaws.{short-part, tails-turn, tails-more, tails-wrong}
use Rattle.windows.proofs.Window.tails_zero.Goals.{After-four_zero, In-loop-i}
use Rattle.windows.proofs.Window.tails_zero.Goals as goal

-- four records more are there
room : (c : In-loop-i) → c.loop-i.i * 36 + 144 ≤ length c.args.self.records.now
room c = omega (arith, c.loop-i.invariant.0, c.loop-i-test.true, c.args.self.whole, c.requires.1)

turn : (c : After-four_zero) → every (c.loop-i.i + 4) (λ x. tail_zero (block 0 36 x c.args.self.records.now)) ≡ c.four_zero.result
turn c =
    let l = c.loop-i in
    let records = c.args.self.records.now in
    tails-turn records l.i c.four_zero.result l.invariant.1 (c.four_zero.ensures ∙ ap (λ (r : List ℕ). every 4 (λ x. tail_zero (block 0 36 x r))) (part-is records (l.i * 36) 144 (l.i * 36) 144 refl refl))

pub loop-i-init : goal.loop-i-init
unfolding every
loop-i-init c = (refl, refl)

pub overflow_mul-at : goal.overflow_mul-at
overflow_mul-at c = omega (arith, c.loop-i-test.true, c.args.self.whole, c.requires.1)

pub overflow_add-at : goal.overflow_add-at
overflow_add-at c = omega (arith, c.loop-i-test.true, c.args.self.whole, c.requires.1)

pub slice_bounds-four_zero-end : goal.slice_bounds-four_zero-end
slice_bounds-four_zero-end c = omega (arith, room (goal.at.slice_bounds-four_zero-end c).In-loop-i)

pub four_zero-requires : goal.four_zero-requires
four_zero-requires c =
    let records = c.args.self.records.now in
    let at = c.loop-i.i in
    let four : at + 4 ≤ 16 = omega (arith, c.loop-i.invariant.0, c.loop-i-test.true, c.requires.1) in
    (c.requires.0, part_length (at * 36) 144 records (room (goal.at.four_zero-requires c).In-loop-i), subst (Short 4) (sym (part-is records (at * 36) 144 (at * 36) 144 refl refl)) (short-part records at c.requires.3 four))

pub returns-then-not-four_zero : goal.returns-then-not-four_zero
returns-then-not-four_zero c =
    tails-wrong c.args.self.records.now c.args.k (c.loop-i.i + 4) c.requires.2 c.requires.1 (omega (arith, c.loop-i.invariant.0, c.loop-i-test.true, c.args.self.whole, c.requires.1)) (turn (goal.at.returns-then-not-four_zero c).After-four_zero ∙ c.if-not-four_zero.true)

pub loop-i-smaller : goal.loop-i-smaller
loop-i-smaller c = omega (arith, c.loop-i-test.true, room (goal.at.loop-i-smaller c).In-loop-i)

pub loop-i-preserved : goal.loop-i-preserved
loop-i-preserved c =
    let l = c.loop-i in
    (omega (arith, l.invariant.0), turn (goal.at.loop-i-preserved c).After-four_zero ∙ c.if-not-four_zero.false)

pub returns : goal.returns
returns c =
    let l = c.loop-i in
    sym l.invariant.1 ∙ tails-more c.args.self.records.now c.args.k l.i c.requires.2 (omega (arith, c.loop-i-test.false))

pub returns-else-not-four_zero : goal.returns-else-not-four_zero
returns-else-not-four_zero c =
    sym (turn (goal.at.returns-else-not-four_zero c).After-four_zero ∙ c.if-not-four_zero.false) ∙ tails-more c.args.self.records.now c.args.k (c.loop-i.i + 4) c.requires.2 (omega arith)
