use mathlib.Core.Bool.{Bool, true, ◌&&◌}
use mathlib.Core.Path.{◌≡◌, sym, ◌∙◌, ap}
use Prim.Native.Nat.{◌≤◌}
use native.Mathlib.Omega.{arith}
use borrow.Author.Tests.{leb-true}
use lib.Dec.{leb}
use Rattle.bools.proofs.BoolLaws.{and_l, and_r}
use Rattle.sets.specs.Upto.{Within}
use Rattle.quorums.specs.declared.Kind.TheVariants.{Write}
use Rattle.fields.specs.Layout.{used_of}
use Rattle.table.specs.WellFormed.{between}
use Rattle.table.proofs.WellFormedLaws.{sized, long}
use Rattle.settle.specs.Works.{Known}
use Rattle.settle.proofs.SettleLaws.{choice-of, known-none}
use Rattle.orders.proofs.OrderLaws.{kept_more}
use Rattle.orders.proofs.chosen.Goals.{Else-not-both}
use Rattle.orders.proofs.chosen.Goals as goal

-- the coordinator's row is a used one, and has a place
inside : (c : Else-not-both) → let a = c.args in Within (used_of a.t.now) a.c × (a.c ≤ 16)
unfolding between
inside c =
    let a = c.args in
    let n = c.used-used.result in
    let both : ((leb 1 a.c && leb a.c n) && leb a.c 16) ≡ true = ap (λ (x : Bool). x && leb a.c 16) (sym c.between.ensures) ∙ sym c.both.ensures ∙ c.if-not-both.false in
    let used : (leb 1 a.c && leb a.c n) ≡ true = and_l _ _ both in
    let low : 1 ≤ a.c = leb-true _ _ (and_l _ _ used) in
    let high : a.c ≤ n = leb-true _ _ (and_r (leb 1 a.c) _ used) in
    (omega (arith, low, high, c.used-used.ensures), leb-true _ _ (and_r (leb 1 a.c && leb a.c n) _ both))

pub used-used-requires : goal.used-used-requires
used-used-requires c = long (sized c.requires.0.formed)

pub returns-then-not-both : goal.returns-then-not-both
returns-then-not-both c = (known-none Write _ _, c.requires.1)

pub overflow_sub-k : goal.overflow_sub-k
overflow_sub-k c = omega (arith, inside c)

pub offset_bounds-choices-k : goal.offset_bounds-choices-k
offset_bounds-choices-k c = omega (arith, inside c)

pub bounds-choices-k : goal.bounds-choices-k
bounds-choices-k c = omega (arith, inside (goal.at.bounds-choices-k c).Else-not-both)

pub returns-then-kept-ne0 : goal.returns-then-kept-ne0
returns-then-kept-ne0 c =
    (c.requires.1.known _ (inside (goal.at.returns-then-kept-ne0 c).Else-not-both).0 (inside (goal.at.returns-then-kept-ne0 c).Else-not-both).1, c.requires.1)

pub row_of-row-requires : goal.row_of-row-requires
row_of-row-requires c = (sized c.requires.0.formed, (inside (goal.at.row_of-row-requires c).Else-not-both).0)

pub offset_bounds-choices-k-2 : goal.offset_bounds-choices-k-2
offset_bounds-choices-k-2 c = omega (arith, inside (goal.at.offset_bounds-choices-k-2 c).Else-not-both)

pub bounds-choices-k-2 : goal.bounds-choices-k-2
bounds-choices-k-2 c = omega (arith, inside (goal.at.bounds-choices-k-2 c).Else-not-both)

pub returns : goal.returns
returns c =
    let k : Known Write c.args.t.now c.args.c c.choice-made.result.bits = record { chosen = λ d. c.choice-made.ensures ∙ choice-of Write c.args.c _ _ c.requires.0 c.row_of-row.ensures.0 c.list.ensures c.name.ensures } in
    (k, kept_more _ _ c.args.c _ (inside (goal.at.returns c).Else-not-both).0.0 (inside (goal.at.returns c).Else-not-both).1 k c.requires.1)
