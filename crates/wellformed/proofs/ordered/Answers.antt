use mathlib.Core.Bool.{true, false, and-false}
use mathlib.Core.Path.{◌≡◌, refl, sym, ◌∙◌, ap}
use mathlib.Core.List.{List}
use mathlib.Core.Logic.{inl, inr}
use Prim.Native.Nat.{ℕ, ◌-◌}
use native.Mathlib.Omega.{arith}
use lib.Dec.{eqb}
use lib.ListN.{length, take}
use lib.Seq.{take_all}
use borrow.Author.Tests.{eq-eqb, ne_eqb}
use Rattle.bools.proofs.BoolLaws.{clash}
use Rattle.sets.specs.Upto.{every}
use Rattle.fields.specs.Layout.{form_value, form_of, used_of}
use Rattle.table.specs.WellFormed.{row_right, own_form, well_formed}
use Rattle.table.specs.Asked.{Sized, Linked}
use Rattle.table.proofs.WellFormedLaws.{by_size, by_rows, by-unused, few-rows, long}
use Rattle.table.proofs.ChainLaws.{left-unsized, left-former, left-wrong, left-linked}
use Rattle.straight.specs.Straight.{Straight, numbered}
use Rattle.straight.proofs.WalkLaws.{chain-right, numbered-order, numbered-left}
use Rattle.wellformed.proofs.RowLaws.{head, copies, late, straight-heads, rows-by, sized-by}
use Rattle.wellformed.proofs.ordered.Goals.{After-every_copy, After-every_copy-2, Else-form-ne-FORM, Else-not-every_copy, Else-not-every_copy-2, Else-not-sized, Then-look}
use Rattle.wellformed.proofs.ordered.Goals as goal

-- the whole table is lent on
lent-all : (xs : List ℕ) → take (length xs - 0) xs ≡ xs
lent-all xs = take_all (length xs - 0) xs (omega arith)

by-own : (t : List ℕ) → false ≡ own_form t → false ≡ well_formed t
unfolding well_formed
by-own t e = sym (rw (← e) (and-false (eqb (form_of t) form_value)))

by_form : (t : List ℕ) → form_of t ≡ form_value → own_form t ≡ well_formed t
unfolding well_formed
by_form t e = sym (rw (eq-eqb (form_of t) form_value e))

by-former : (t : List ℕ) → (form_of t ≡ form_value → ⊥) → false ≡ well_formed t
unfolding well_formed
by-former t d = sym (rw (ne_eqb (form_of t) form_value d))

sized-here : (c : Else-not-sized) → Sized c.args.t.now
sized-here c = sized-by _ (sym c.sized.ensures ∙ c.if-not-sized.false)

newest-here : (c : Else-form-ne-FORM) → form_of c.args.t.now ≡ form_value
unfolding form_value
newest-here c = sym c.form.ensures ∙ c.if-form-ne-FORM.false

-- ---- as most calls meet it
straight-here : (c : Then-look) → Straight c.args.t.now
straight-here c = rw (lent-all _) at (c.look.ensures c.if-look.true).0

rows-here : (c : After-every_copy) → every (used_of c.args.t.now) (row_right c.args.t.now) ≡ c.every_copy.result
unfolding head copies form_value
rows-here c =
    let t = c.args.t.now in
    let e : form_of t ≡ form_value = sym c.form.ensures ∙ c.if-form-ne-FORM.false in
    rows-by t (late t e) true _ (straight-heads t e (rw (lent-all t) at (c.look.ensures c.if-look.true).0)) (sym (rw (lent-all t) at c.every_copy.ensures))

linked-here : (c : Else-not-every_copy) → every (used_of c.args.t.now) (row_right c.args.t.now) ≡ c.every_copy.result → Linked c.args.t.now
linked-here c rows = record { sized = sized-by _ (sym c.sized.ensures ∙ c.if-not-sized.false); rows = rows ∙ c.if-not-every_copy.false }

-- ---- otherwise
rows-asked : (c : After-every_copy-2) → every (used_of c.args.t.now) (row_right c.args.t.now) ≡ c.every_copy-2.result
unfolding head copies form_value
rows-asked c =
    let t = c.args.t.now in
    rows-by t (late t (sym c.form.ensures ∙ c.if-form-ne-FORM.false)) true _ (sym (rw (lent-all t) at c.every_head.ensures) ∙ c.if-not-every_head.false) (sym (rw (lent-all t) at c.every_copy-2.ensures))

linked-then : (c : Else-not-every_copy-2) → every (used_of c.args.t.now) (row_right c.args.t.now) ≡ c.every_copy-2.result → Linked c.args.t.now
linked-then c rows = record { sized = sized-by _ (sym c.sized.ensures ∙ c.if-not-sized.false); rows = rows ∙ c.if-not-every_copy-2.false }

pub returns-then-not-sized : goal.returns-then-not-sized
returns-then-not-sized c =
    let e = sym c.sized.ensures ∙ c.if-not-sized.true in
    (by-own _ (by_size _ e), λ z. absurd (clash z), left-unsized _ _ e, inr refl)

pub form-requires : goal.form-requires
form-requires c = long (sized-here c)

pub returns-then-form-ne-FORM : goal.returns-then-form-ne-FORM
unfolding form_value
returns-then-form-ne-FORM c =
    let d : form_of c.args.t.now ≡ form_value → ⊥ = λ q. c.if-form-ne-FORM.true (c.form.ensures ∙ q) in
    (by-former _ d, λ z. absurd (clash z), left-former _ _ d, inr refl)

pub returns-then-not-every_copy : goal.returns-then-not-every_copy
returns-then-not-every_copy c =
    let w = rows-here (goal.at.returns-then-not-every_copy c).After-every_copy ∙ c.if-not-every_copy.true in
    (by-own _ (by_rows _ (sized-here (goal.at.returns-then-not-every_copy c).Else-not-sized) w), λ z. absurd (clash z), left-wrong _ _ w, inr refl)

pub used-requires : goal.used-requires
used-requires c = rw (lent-all _) (long (linked-here (goal.at.used-requires c).Else-not-every_copy (rows-here (goal.at.used-requires c).After-every_copy)).sized)

pub number-requires : goal.number-requires
number-requires c = let e = rw (lent-all _) at c.used.ensures in omega (arith, e, few-rows (linked-here (goal.at.number-requires c).Else-not-every_copy (rows-here (goal.at.number-requires c).After-every_copy)).sized)

pub returns-then-look : goal.returns-then-look
returns-then-look c =
    let a = c.args in
    let t = a.t.now in
    let l = linked-here (goal.at.returns-then-look c).Else-not-every_copy (rows-here (goal.at.returns-then-look c).After-every_copy) in
    let s = straight-here (goal.at.returns-then-look c).Then-look in
    let y = rw (lent-all t) at c.unused_zero.ensures ∙ by-unused t l (chain-right l s a.order.now c.number.ensures.0) s.lists ∙ by_form t (newest-here (goal.at.returns-then-look c).Else-form-ne-FORM) in
    let o : c.number.new.rows ≡ numbered a.order.now (used_of t) = c.number.ensures.1 ∙ ap (numbered a.order.now) (rw (lent-all t) at c.used.ensures) in
    let g = rw (lent-all t) at (c.look.ensures c.if-look.true).1 in
    (y, λ z. record { formed = sym y ∙ z; ordered = rw o (numbered-order l s a.order.now c.number.ensures.0); grouped = g }, o ∙ numbered-left l s a.order.now c.number.ensures.0 ∙ left-linked _ _ l (newest-here (goal.at.returns-then-look c).Else-form-ne-FORM), inl g)

pub returns-then-not-every_head : goal.returns-then-not-every_head
unfolding head
returns-then-not-every_head c =
    let w = rows-by _ (late _ (newest-here (goal.at.returns-then-not-every_head c).Else-form-ne-FORM)) false _ (sym (rw (lent-all _) at c.every_head.ensures) ∙ c.if-not-every_head.true) refl in
    (by-own _ (by_rows _ (sized-here (goal.at.returns-then-not-every_head c).Else-not-sized) w), λ z. absurd (clash z), left-wrong _ _ w, inr refl)

pub returns-then-not-every_copy-2 : goal.returns-then-not-every_copy-2
returns-then-not-every_copy-2 c =
    let w = rows-asked (goal.at.returns-then-not-every_copy-2 c).After-every_copy-2 ∙ c.if-not-every_copy-2.true in
    (by-own _ (by_rows _ (sized-here (goal.at.returns-then-not-every_copy-2 c).Else-not-sized) w), λ z. absurd (clash z), left-wrong _ _ w, inr refl)

pub framed-requires : goal.framed-requires
framed-requires c = rw (lent-all _) (linked-then (goal.at.framed-requires c).Else-not-every_copy-2 (rows-asked (goal.at.framed-requires c).After-every_copy-2))

pub returns : goal.returns
returns c =
    let t = c.args.t.now in
    let f = rw (lent-all t) at c.framed.ensures in
    let y = f.0 ∙ by_form t (newest-here (goal.at.returns c).Else-form-ne-FORM) in
    (y, λ z. record { formed = sym y ∙ z; ordered = (f.1 z).0; grouped = (f.1 z).1 }, f.2 ∙ left-linked _ _ (linked-then (goal.at.returns c).Else-not-every_copy-2 (rows-asked (goal.at.returns c).After-every_copy-2)) (newest-here (goal.at.returns c).Else-form-ne-FORM), f.3)
