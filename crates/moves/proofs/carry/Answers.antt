use mathlib.Core.Bool.{true, false, not, ◌||◌}
use mathlib.Core.Path.{◌≡◌, refl, sym, ◌∙◌, ap}
use Prim.Native.Nat.{ℕ}
use native.Mathlib.Omega.{arith}
use lib.Dec.{eqb}
use lib.ListN.{length}
use borrow.Author.Tests.{ne_eqb, eq-eqb}
use Rattle.bools.proofs.BoolLaws.{and_i}
use Rattle.fields.specs.Layout.{form_of}
use Rattle.table.specs.WellFormed.{own_form}
use Rattle.table.proofs.WellFormedLaws.{own-sized, header, long, few-rows}
use Rattle.carrying.specs.Moves.{goes_over, all_plain, carried_length}
use Rattle.protocol.specs.Calls.{Carrying}
use Rattle.moves.proofs.MoveLaws.{carry-answers, carry-no, carry-done, rough, forms-small, end-long, end-small}
use Rattle.moves.proofs.carry.Goals.{After-both, After-goes_over, Else-both, Else-dest-end, Else-not-goes_over, Else-not-own_form, Start}
use Rattle.moves.proofs.carry.Goals as goal

-- the arguments of the call
abbrev carrying : Start → Carrying
carrying s = record { form = s.args.form; dest = s.args.dest.now }

-- the questions, as they were asked
own1 : (c : Else-not-own_form) → own_form c.args.t.now ≡ true
own1 c = sym c.own_form.ensures ∙ c.if-not-own_form.false

plain2 : (c : After-both) → (not (eqb c.args.form 1) || all_plain c.args.t.now) ≡ not c.both.result
plain2 c = rough (eqb c.args.form 1) (all_plain c.args.t.now) _ _ c.all_plain-plain.ensures c.both.ensures

over3 : (c : After-goes_over) → goes_over (form_of c.args.t.now) c.args.form ≡ c.goes_over.result
over3 c = sym (c.goes_over.ensures ∙ ap (λ (f : ℕ). goes_over f c.args.form) c.form.ensures)

over : (e : Else-not-goes_over) → goes_over (form_of e.args.t.now) e.args.form ≡ true
over e = sym (e.goes_over.ensures ∙ ap (λ (f : ℕ). goes_over f e.args.form) e.form.ensures) ∙ e.if-not-goes_over.false

plain : (e : Else-both) → (not (eqb e.args.form 1) || all_plain e.args.t.now) ≡ true
plain e = rough (eqb e.args.form 1) (all_plain e.args.t.now) _ _ e.all_plain-plain.ensures e.both.ensures ∙ ap not e.if-both.false

pub returns-then-not-own_form : goal.returns-then-not-own_form
returns-then-not-own_form c =
    let no = carry-no c.args.t.now (carrying (goal.at.returns-then-not-own_form c).Start) 1 (carry-answers _ _ false _ _ (sym c.own_form.ensures ∙ c.if-not-own_form.true) refl refl) (omega arith) in
    (no.0, no.1, no.2)

pub all_plain-plain-requires : goal.all_plain-plain-requires
all_plain-plain-requires c = own-sized (own1 (goal.at.all_plain-plain-requires c).Else-not-own_form)

pub returns-then-both : goal.returns-then-both
returns-then-both c =
    let no = carry-no c.args.t.now (carrying (goal.at.returns-then-both c).Start) 15 (carry-answers _ _ true false _ (own1 (goal.at.returns-then-both c).Else-not-own_form) (plain2 (goal.at.returns-then-both c).After-both ∙ ap not c.if-both.true) refl) (omega arith) in
    (no.0, no.1, no.2)

pub form-requires : goal.form-requires
form-requires c = long (own-sized (own1 (goal.at.form-requires c).Else-not-own_form))

pub returns-then-not-goes_over : goal.returns-then-not-goes_over
returns-then-not-goes_over c =
    let none : goes_over (form_of c.args.t.now) c.args.form ≡ false = over3 (goal.at.returns-then-not-goes_over c).After-goes_over ∙ c.if-not-goes_over.true in
    let no = carry-no c.args.t.now (carrying (goal.at.returns-then-not-goes_over c).Start) 12 (carry-answers _ _ true true false (own1 (goal.at.returns-then-not-goes_over c).Else-not-own_form) (plain (goal.at.returns-then-not-goes_over c).Else-both) (rw none)) (omega arith) in
    (no.0, no.1, no.2)

pub overflow_cast-to : goal.overflow_cast-to
overflow_cast-to c = let m = (forms-small _ _ (over (goal.at.overflow_cast-to c).Else-not-goes_over)).1 in omega (arith, m)

pub file_length-requires : goal.file_length-requires
file_length-requires c = long (own-sized (own1 (goal.at.file_length-requires c).Else-not-own_form))

pub size_in-width-requires : goal.size_in-width-requires
size_in-width-requires c = (omega arith, omega (arith, c.file_length.ensures, (header (own-sized (own1 (goal.at.size_in-width-requires c).Else-not-own_form)).header).file))

pub capacity-requires : goal.capacity-requires
capacity-requires c = long (own-sized (own1 (goal.at.capacity-requires c).Else-not-own_form))

pub overflow_mul-end : goal.overflow_mul-end
overflow_mul-end c = omega (arith, end-small c.args.t.now (own-sized (own1 (goal.at.overflow_mul-end c).Else-not-own_form)) _ _ _ _ c.capacity.ensures c.size_in-width.ensures c.file_length.ensures)

pub overflow_add-end : goal.overflow_add-end
overflow_add-end c = omega (arith, end-small c.args.t.now (own-sized (own1 (goal.at.overflow_add-end c).Else-not-own_form)) _ _ _ _ c.capacity.ensures c.size_in-width.ensures c.file_length.ensures)

pub returns-then-dest-end : goal.returns-then-dest-end
returns-then-dest-end c =
    let other : eqb (length c.args.dest.now) (carried_length c.args.form c.args.t.now) ≡ false = ne_eqb _ _ (λ q. c.if-dest-end.true (q ∙ sym (end-long c.args.t.now c.args.form _ _ _ c.capacity.ensures c.size_in-width.ensures c.file_length.ensures))) in
    let no = carry-no c.args.t.now (carrying (goal.at.returns-then-dest-end c).Start) 12 (carry-answers _ _ true true false (own1 (goal.at.returns-then-dest-end c).Else-not-own_form) (plain (goal.at.returns-then-dest-end c).Else-both) (rw (over (goal.at.returns-then-dest-end c).Else-not-goes_over, other))) (omega arith) in
    (no.0, no.1, no.2)

same_here : (c : Else-dest-end) → length c.args.dest.now ≡ carried_length c.args.form c.args.t.now
same_here c = c.if-dest-end.false ∙ end-long c.args.t.now c.args.form _ _ _ c.capacity.ensures c.size_in-width.ensures c.file_length.ensures

pub carry_table-requires : goal.carry_table-requires
carry_table-requires c = let f = forms-small _ _ (over (goal.at.carry_table-requires c).Else-not-goes_over) in (own-sized (own1 (goal.at.carry_table-requires c).Else-not-own_form), same_here (goal.at.carry_table-requires c).Else-dest-end, f.0, f.1)

pub used-requires : goal.used-requires
used-requires c = long (own-sized (own1 (goal.at.used-requires c).Else-not-own_form))

pub overflow_cast-result : goal.overflow_cast-result
overflow_cast-result c = omega (arith, c.used.ensures, few-rows (own-sized (own1 (goal.at.overflow_cast-result c).Else-not-own_form)))

pub returns : goal.returns
returns c =
    let yes = carry-done c.args.t.now (carrying (goal.at.returns c).Start) _ _ (carry-answers _ _ true true true (own1 (goal.at.returns c).Else-not-own_form) (plain (goal.at.returns c).Else-both) (and_i _ _ (over (goal.at.returns c).Else-not-goes_over) (eq-eqb _ _ (same_here (goal.at.returns c).Else-dest-end)))) c.used.ensures c.carry_table.ensures in
    (yes.0, yes.1, yes.2)
