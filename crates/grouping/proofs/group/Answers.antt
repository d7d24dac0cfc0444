use mathlib.Core.Path.{◌≡◌, sym, ◌∙◌, ap}
use Prim.Native.Nat.{◌+◌, ◌<◌}
use native.Mathlib.Omega.{arith}
use Rattle.sets.specs.Upto.{Within}
use Rattle.fields.specs.Layout.{get, county, used_of, row_bytes}
use Rattle.table.proofs.WellFormedLaws.{header, long, few-rows, county-few}
use Rattle.grouping.proofs.GroupLaws.{none_filled, filled-same, table-grouped}
use Rattle.grouping.proofs.group.Goals.{After-county-county, After-county-first, In-loop-k}
use Rattle.grouping.proofs.group.Goals as goal

-- the row of this turn is a used one
turn : (c : In-loop-k) → Within (used_of c.args.t.now) (c.loop-k.k + 1) × (c.loop-k.k < 64)
turn c =
    let w : Within (used_of c.args.t.now) (c.loop-k.k + 1) = omega (arith, c.used-used.ensures, c.loop-k-test.true) in
    (w, omega (arith, w, few-rows c.requires.sized))

-- and this is its county
here : (c : After-county-county) → c.county-county.result ≡ get county (row_bytes c.args.t.now (c.loop-k.k + 1))
here c = c.county-county.ensures ∙ ap (get county) c.row_at-in-loop-k.ensures.0

pub row_length-size-requires : goal.row_length-size-requires
row_length-size-requires c = let s = c.requires.sized in (long s, s.header)

pub used-used-requires : goal.used-used-requires
used-used-requires c = long c.requires.sized

pub row_at-requires : goal.row_at-requires
row_at-requires c =
    (c.requires.sized, c.row_length-size.ensures, omega (arith, (header c.requires.sized.header).used))

-- the county of row 1
first-is : (c : After-county-first) → c.county-first.result ≡ get county (row_bytes c.args.t.now 1)
first-is c = c.county-first.ensures ∙ ap (get county) c.row_at.ensures.0

pub whole-requires : goal.whole-requires
whole-requires c =
    rw (first-is (goal.at.whole-requires c).After-county-first) (county-few c.requires 1 (omega (arith, (header c.requires.sized.header).used)))

pub returns-then-all_in : goal.returns-then-all_in
returns-then-all_in c =
    let filled = c.whole.ensures (omega (arith, c.used-used.ensures, few-rows c.requires.sized)) in
    table-grouped _ _ c.requires (filled-same _ _ _ _ (c.all_in.ensures c.if-all_in.true) (rw c.used-used.ensures at filled))

pub loop-k-init : goal.loop-k-init
loop-k-init c = none_filled _

pub put-requires : goal.put-requires
put-requires c =
    let w = turn (goal.at.put-requires c).In-loop-k in
    (w.1, rw (here (goal.at.put-requires c).After-county-county) (county-few c.requires (c.loop-k.k + 1) w.0))

pub loop-k-preserved : goal.loop-k-preserved
loop-k-preserved c = c.put.ensures _ (sym (here (goal.at.loop-k-preserved c).After-county-county)) c.loop-k.invariant

pub returns : goal.returns
returns c =
    let e : c.loop-k.k ≡ used_of c.args.t.now = omega (arith, c.used-used.ensures, c.loop-k.auto.k-end, c.loop-k-test.false) in
    table-grouped _ _ c.requires (rw e at c.loop-k.invariant)
