use mathlib.Core.Bool.{Bool, ◌&&◌}
use mathlib.Core.List.{List}
use mathlib.Core.Path.{◌≡◌, refl, sym, ◌∙◌, ap}
use Prim.Native.Nat.{ℕ, ◌+◌, ◌-◌, ◌%◌, ◌<◌}
use native.Mathlib.Nat.{mod-eq_of_lt}
use native.Mathlib.Omega.{arith}
use lib.Dec.{eqb}
use lib.ListN.{set}
use Rattle.bools.proofs.BoolLaws.{clash}
use Rattle.sets.specs.Sets.{has, gaining}
use Rattle.sets.specs.Upto.{Within, every}
use Rattle.fields.specs.Layout.{used_of, link_of, name_of, row_bytes, get, link, name}
use Rattle.table.specs.Asked.{Linked}
use Rattle.table.proofs.WellFormedLaws.{few-rows, long}
use Rattle.table.proofs.ChainLaws.{Walked, walk_start, walk_turn, walk-short, walk-falls, walk-all, walk-order, left-short, left-falls, left-all}
use Rattle.chain.proofs.follow.Goals.{After-name-name, After-name-own, At-loop-place, Else-next-eq0, In-loop-place, In-loop-next}
use Rattle.chain.proofs.follow.Goals as goal

-- one row more is passed, by either loop
turned : {t lent rows : List ℕ} {seen : ℕ → Bool} {low count next : ℕ} → Linked t → Walked t lent rows seen low count next
    → (row place : ℕ) (more : ℕ → Bool) (name after : ℕ) → row ≡ next → place + 1 ≡ next → count < used_of t
    → more ≡ gaining seen (place % 64 + 1) → name ≡ name_of t next → low < name → after ≡ link_of t next
    → Walked t lent (set rows count row) more name (count + 1) after
turned {count = count} {next = next} l w row place more name after q p h g d up e =
    let at : place % 64 ≡ place = mod-eq_of_lt (omega (arith, w.on, few-rows l.sized)) in
    let is : place % 64 + 1 ≡ next = omega arith in
    rw q (walk_turn l w more name after h (omega arith) (g ∙ ap (gaining _) is) d up e)

-- ---- the first loop
-- the row at hand is a used one, and this is its name
row-behind : (c : In-loop-next) → let l = c.loop-next in
    Within (used_of c.args.t.now) (l.count + 1)
row-behind c = let l = c.loop-next in omega (arith, l.invariant.on, c.loop-next-test.true)

name-behind : (c : After-name-own) → c.name-own.result ≡ name_of c.args.t.now c.loop-next.next
unfolding name_of
name-behind c =
    c.name-own.ensures ∙ ap (get name) (c.row_at-behind.ensures.0 ∙ ap (row_bytes _) (sym c.loop-next-test.true))

pub row_length-size-requires : goal.row_length-size-requires
row_length-size-requires c = let p = c.requires.sized in (long p, p.header)

pub used-used-requires : goal.used-used-requires
used-used-requires c = long c.requires.sized

pub first-next-requires : goal.first-next-requires
first-next-requires c = long c.requires.sized

pub loop-next-init : goal.loop-next-init
loop-next-init c = walk_start c.requires _ _ c.told-order c.first-next.ensures

pub row_at-behind-requires : goal.row_at-behind-requires
row_at-behind-requires c =
    (c.requires.sized, c.row_length-size.ensures, row-behind c)

pub name-own-requires : goal.name-own-requires
name-own-requires c = c.row_at-behind.ensures.1

pub returns-then-own-low : goal.returns-then-own-low
returns-then-own-low c =
    let w = c.loop-next.invariant in
    (walk-falls w (omega (arith, c.loop-next-test.true)) (omega (arith, c.if-own-low.true, name-behind (goal.at.returns-then-own-low c).After-name-own)), λ e. absurd (clash e), left-falls w (omega (arith, c.if-own-low.true, name-behind (goal.at.returns-then-own-low c).After-name-own)))

pub overflow_add-order : goal.overflow_add-order
overflow_add-order c = omega (arith, row-behind (goal.at.overflow_add-order c).In-loop-next)

pub overflow_cast-order : goal.overflow_cast-order
overflow_cast-order c =
    omega (arith, row-behind (goal.at.overflow_cast-order c).In-loop-next, c.loop-next-test.true, few-rows c.requires.sized)

pub bounds-order-count : goal.bounds-order-count
bounds-order-count c =
    omega (arith, row-behind (goal.at.bounds-order-count c).In-loop-next, few-rows c.requires.sized)

pub link-next-requires : goal.link-next-requires
link-next-requires c = c.row_at-behind.ensures.1

pub loop-next-smaller : goal.loop-next-smaller
loop-next-smaller c = omega (arith, row-behind (goal.at.loop-next-smaller c).In-loop-next)

pub loop-next-preserved : goal.loop-next-preserved
unfolding link_of
loop-next-preserved c =
    let l = c.loop-next in
    let k : c.link-next.result ≡ link_of c.args.t.now l.next = c.link-next.ensures ∙ ap (get link) (c.row_at-behind.ensures.0 ∙ ap (row_bytes _) (sym c.loop-next-test.true)) in
    turned c.requires l.invariant _ l.count (has c.add-seen.result.bits) c.name-own.result c.link-next.result
    (sym c.loop-next-test.true) (sym c.loop-next-test.true) (omega (arith, row-behind (goal.at.loop-next-preserved c).In-loop-next)) c.add-seen.ensures (name-behind (goal.at.loop-next-preserved c).After-name-own) (omega (arith, c.if-own-low.false)) k

-- ---- the second
walked_here : (c : At-loop-place) → Walked c.args.t.now c.args.order.now c.loop-place.order (has c.loop-place.seen.bits) c.loop-place.low c.loop-place.place c.loop-place.next
walked_here c = c.loop-place.invariant _ c.loop-next.invariant

-- not all used rows are passed yet
some_left : (c : In-loop-place) → c.loop-place.place < used_of c.args.t.now
some_left c = omega (arith, c.loop-place-test.true, c.used-used.ensures)

row_here : (c : Else-next-eq0) → Walked c.args.t.now c.args.order.now c.loop-place.order (has c.loop-place.seen.bits) c.loop-place.low c.loop-place.place c.loop-place.next
    → Within (used_of c.args.t.now) c.loop-place.next
row_here c w = omega (arith, w.on, c.if-next-eq0.false)

name-here : (c : After-name-name) → c.name-name.result ≡ name_of c.args.t.now c.loop-place.next
unfolding name_of
name-here c = c.name-name.ensures ∙ ap (get name) c.row_at-row.ensures.0

pub loop-place-init : goal.loop-place-init
loop-place-init c lent w = w

pub returns-then-next-eq0 : goal.returns-then-next-eq0
returns-then-next-eq0 c =
    let w = walked_here (goal.at.returns-then-next-eq0 c).At-loop-place in
    (walk-short w c.if-next-eq0.true (some_left (goal.at.returns-then-next-eq0 c).In-loop-place), λ e. absurd (clash e), left-short w c.if-next-eq0.true)

pub row_at-row-requires : goal.row_at-row-requires
row_at-row-requires c =
    let g = goal.at.row_at-row-requires c in (c.requires.sized, c.row_length-size.ensures, row_here g.Else-next-eq0 (walked_here g.At-loop-place))

pub name-name-requires : goal.name-name-requires
name-name-requires c = c.row_at-row.ensures.1

pub returns-then-name-low : goal.returns-then-name-low
returns-then-name-low c =
    let g = goal.at.returns-then-name-low c in
    let w = walked_here g.At-loop-place in
    let name = name-here g.After-name-name in
    (walk-falls w (row_here g.Else-next-eq0 w).0 (omega (arith, c.if-name-low.true, name)), λ e. absurd (clash e), left-falls w (omega (arith, c.if-name-low.true, name)))

pub overflow_cast-order-in-loop-place : goal.overflow_cast-order-in-loop-place
overflow_cast-order-in-loop-place c =
    let g = goal.at.overflow_cast-order-in-loop-place c in
    omega (arith, row_here g.Else-next-eq0 (walked_here g.At-loop-place), few-rows c.requires.sized)

pub bounds-order-place : goal.bounds-order-place
bounds-order-place c =
    omega (arith, some_left (goal.at.bounds-order-place c).In-loop-place, few-rows c.requires.sized, (walked_here (goal.at.bounds-order-place c).At-loop-place).listed.places)

pub overflow_sub-next : goal.overflow_sub-next
overflow_sub-next c = let g = goal.at.overflow_sub-next c in omega (arith, row_here g.Else-next-eq0 (walked_here g.At-loop-place))

pub link-next-requires-in-loop-place : goal.link-next-requires-in-loop-place
link-next-requires-in-loop-place c = c.row_at-row.ensures.1

pub loop-place-preserved : goal.loop-place-preserved
unfolding link_of
loop-place-preserved c lent begun =
    let g = goal.at.loop-place-preserved c in
    let k : c.link-next-in-loop-place.result ≡ link_of c.args.t.now c.loop-place.next = c.link-next-in-loop-place.ensures ∙ ap (get link) c.row_at-row.ensures.0 in
    turned c.requires (c.loop-place.invariant lent begun) _ (c.loop-place.next - 1) (has c.add-seen-in-loop-place.result.bits) c.name-name.result c.link-next-in-loop-place.result
    refl (omega (arith, row_here g.Else-next-eq0 (walked_here g.At-loop-place))) (some_left g.In-loop-place) c.add-seen-in-loop-place.ensures (name-here g.After-name-name) (omega (arith, c.if-name-low.false)) k

pub returns : goal.returns
returns c =
    let w = walked_here (goal.at.returns c).At-loop-place in
    let all : c.loop-place.place ≡ used_of c.args.t.now = omega (arith, c.loop-place-test.false, c.used-used.ensures, w.few) in (
      c.both.ensures
          ∙ ap (λ (b : Bool). eqb c.loop-place.next 0 && b) (c.fills.ensures ∙ ap (λ (n : ℕ). every n (has c.loop-place.seen.bits)) c.used-used.ensures)
          ∙ walk-all w all,
      λ _. walk-order w all,
      left-all w all,
    )
