use mathlib.Core.Path.{◌≡◌, ◌∙◌, ap, subst}
use mathlib.Core.List.{◌∷◌}
use Prim.Native.Nat.{◌+◌, ◌≤◌, ◌<◌}
use native.Mathlib.Omega.{arith}
use borrow.Author.Tests.{eq-eqb, ne_eqb}
use lib.ListN.{get_or, drop}
use Rattle.sets.specs.Upto.{Within}
use Rattle.fields.specs.Layout.{get, name, used_of, name_of}
use Rattle.table.specs.Chain.{order_of}
use Rattle.table.specs.WellFormed.{between}
use Rattle.table.proofs.WellFormedLaws.{sized, long}
use Rattle.joins.proofs.PlaceLaws.{Left, all_left, next-left, none_left, one-passed, before-is, taken_is, last-is, free-is, is-name}
use Rattle.joins.proofs.place_of.Goals.{After-name-here, In-loop-k}
use Rattle.joins.proofs.place_of.Goals as goal

-- a used row is at hand
some_left : (c : In-loop-k) → c.loop-k.k < used_of c.args.t.now
some_left c = omega (arith, c.loop-k-test.true, c.used-k-end.ensures)

row_here : (c : In-loop-k) → let a = c.args in Within (used_of a.t.now) (get_or a.order.now c.loop-k.k 0)
row_here c = c.requires.1.listed.each c.loop-k.k (some_left c)

name-here : (c : After-name-here) → let a = c.args in c.name-here.result ≡ name_of a.t.now (get_or a.order.now c.loop-k.k 0)
unfolding name_of
name-here c = c.name-here.ensures ∙ ap (get name) c.row_of.ensures.0

-- and others are behind it
left_here : (c : In-loop-k) → let l = c.loop-k in let a = c.args in
    Left a.t.now a.name l.before (get_or a.order.now l.k 0 ∷ drop (l.k + 1) (order_of a.t.now))
left_here c =
    let l = c.loop-k in
    subst (Left c.args.t.now c.args.name l.before) (next-left _ c.requires.0 c.args.name c.args.order.now l.k c.requires.1 (some_left c)) l.invariant

pub returns-then-name-eq0 : goal.returns-then-name-eq0
unfolding between
returns-then-name-eq0 c = rw c.if-name-eq0.true

pub used-k-end-requires : goal.used-k-end-requires
used-k-end-requires c = long (sized c.requires.0)

pub loop-k-init : goal.loop-k-init
loop-k-init c = all_left _ c.requires.0 c.args.name

pub row_of-requires : goal.row_of-requires
row_of-requires c = (sized c.requires.0, row_here (goal.at.row_of-requires c).In-loop-k)

pub returns-then-here-name : goal.returns-then-here-name
returns-then-here-name c =
    let a = c.args in
    let name = name-here (goal.at.returns-then-here-name c).After-name-here in
    let left = left_here (goal.at.returns-then-here-name c).In-loop-k in
    let row = row_here (goal.at.returns-then-here-name c).In-loop-k in
    rw (← taken_is left (omega (arith, name, c.if-name-here.true)) row, ← name, eq-eqb c.name-here.result a.name c.if-here-name.true, is-name a.name (omega arith) (omega arith))

pub returns-else-here-name : goal.returns-else-here-name
returns-else-here-name c =
    let a = c.args in
    let name = name-here (goal.at.returns-else-here-name c).After-name-here in
    let left = left_here (goal.at.returns-else-here-name c).In-loop-k in
    let row = row_here (goal.at.returns-else-here-name c).In-loop-k in
    let above : a.name ≤ name_of a.t.now (get_or a.order.now c.loop-k.k 0) = omega (arith, name, c.if-name-here.true) in
    (rw (← taken_is left above row, ← name, ne_eqb c.name-here.result a.name c.if-here-name.false, is-name a.name (omega arith) (omega arith)), before-is left above)

pub loop-k-preserved : goal.loop-k-preserved
loop-k-preserved c =
    one-passed (left_here (goal.at.loop-k-preserved c).In-loop-k) (omega (arith, name-here (goal.at.loop-k-preserved c).After-name-here, c.if-name-here.false))

pub returns : goal.returns
returns c =
    let l = c.loop-k in
    let a = c.args in
    let end = subst (Left c.args.t.now c.args.name l.before) (none_left _ c.requires.0 c.args.name l.k (omega (arith, c.loop-k-test.false, c.used-k-end.ensures))) l.invariant in
    (rw (← free-is end, is-name a.name (omega arith) (omega arith)), last-is end)
