use mathlib.Core.Path.{◌≡◌, refl, sym, ◌∙◌, ap, ap₂}
use mathlib.Core.Bool.{Bool, true, false, not, cond, ◌&&◌}
use Prim.Native.Nat.{ℕ}
use native.Mathlib.Omega.{arith}
use lib.Dec.{eqb, leb}
use mathlib.Core.List.{List}
use Rattle.sets.specs.Upto.{Within}
use Rattle.sets.specs.Sets.{has}
use Rattle.fields.specs.Layout.{get, mark, version, desired, form_value, form_of, used_of, file_length_of, files_of, stale_of, version_of, desired_of}
use Rattle.fields.proofs.FieldLaws.{copy_is}
use Rattle.table.specs.Asked.{Sized}
use Rattle.table.specs.WellFormed.{between, only_rows, well_formed}
use Rattle.table.proofs.WellFormedLaws.{newest, sized, long, few-rows}
use Rattle.protocol.specs.Calls.{Sending}
use Rattle.protocol.proofs.QuestionLaws.{group-is}
use Rattle.sends.proofs.SendLaws.{named, send-answers}
use Rattle.sends.proofs.send_asked.Goals.{After-rows_named, Joined-has, then-has, else-has, Else-not-in_group, Else-not-well_formed}
use Rattle.sends.proofs.send_asked.Goals as goal

-- the arguments of the call
abbrev sending : (from to r file : ℕ) → Sending
sending from to r file = record { f = from; t = to; r = r; file = file }

formed : (c : Else-not-well_formed) → well_formed c.args.t.now ≡ true
formed c = sym c.well_formed-2.ensures ∙ c.if-not-well_formed.false

question-2 : (c : After-rows_named) → let a = c.args in let n = used_of a.t.now in
    (between 1 a.from n && between 1 a.to n && only_rows n a.answering.bits && not (eqb a.from a.to)) ≡ c.rows_named.result
question-2 c =
    let a = c.args in
    sym (c.rows_named.ensures ∙ ap (λ (n : ℕ). between 1 a.from n && between 1 a.to n && only_rows n a.answering.bits && not (eqb a.from a.to)) c.used.ensures)

question-3 : (c : Joined-has) → let a = c.args in (has a.answering.bits a.from && has a.answering.bits a.to) ≡ c.if-has.value
question-3 c =
    elim c.if-has.branch [
      | then-has w ↦ rw (sym c.has.ensures ∙ w.if-has.true) (sym (w.value-is ∙ w.has-then-has.ensures))
      | else-has w ↦ rw (sym c.has.ensures ∙ w.if-has.false) (sym (w.value-is ∙ w.if-has.false))
    ]

-- both are used rows
two : (n from to r : ℕ) (b : Bool) → (between 1 from n && between 1 to n && only_rows n r && not (eqb from to)) ≡ b → b ≡ true → Within n from × Within n to
two n from to r b e h = named n from to r (e ∙ h)

tabled : (c : Else-not-well_formed) → let t = c.args.t.now in Sized t × (form_of t ≡ form_value)
tabled c = let e = formed c in (sized e, newest _ e)

-- where 16 is yes
grouped : (c : Else-not-in_group) → let a = c.args in Within (files_of a.t.now) a.q
grouped c = group-is _ _ (sym c.in_group.ensures ∙ c.if-not-in_group.false)

pub used-requires : goal.used-requires
used-requires c = long (sized (formed c))

pub rows_named-requires : goal.rows_named-requires
rows_named-requires c = omega (arith, c.used.ensures, few-rows (sized (formed (goal.at.rows_named-requires c).Else-not-well_formed)))

pub in_group-requires : goal.in_group-requires
in_group-requires c = long (sized (formed (goal.at.in_group-requires c).Else-not-well_formed))

pub copy_of-requires : goal.copy_of-requires
copy_of-requires c =
    let t = tabled (goal.at.copy_of-requires c).Else-not-well_formed in
    (t.0, t.1, (two _ _ _ _ _ (question-2 (goal.at.copy_of-requires c).After-rows_named) c.if-not-rows_named.false).0, grouped c)

pub copy_of-requires-2 : goal.copy_of-requires-2
copy_of-requires-2 c =
    let t = tabled (goal.at.copy_of-requires-2 c).Else-not-well_formed in
    (t.0, t.1, (two _ _ _ _ _ (question-2 (goal.at.copy_of-requires-2 c).After-rows_named) c.if-not-rows_named.false).1, grouped (goal.at.copy_of-requires-2 c).Else-not-in_group)

pub copies_asked-requires : goal.copies_asked-requires
copies_asked-requires c =
    let file = file_length_of c.args.t.now in
    (omega (arith, c.copy_of.ensures.1, copy_is file), omega (arith, c.copy_of-2.ensures.1, copy_is file))

pub returns-then-not-well_formed : goal.returns-then-not-well_formed
returns-then-not-well_formed c =
    let a = c.args in
    send-answers a.t.now (sending a.from a.to a.answering.bits a.q) false _ _ _ _ (sym c.well_formed-2.ensures ∙ c.if-not-well_formed.true) refl refl refl refl

pub returns-then-not-rows_named : goal.returns-then-not-rows_named
returns-then-not-rows_named c =
    let a = c.args in
    send-answers a.t.now (sending a.from a.to a.answering.bits a.q) true false _ _ _ (formed (goal.at.returns-then-not-rows_named c).Else-not-well_formed) (question-2 (goal.at.returns-then-not-rows_named c).After-rows_named ∙ c.if-not-rows_named.true) refl refl refl

pub returns-then-not-has : goal.returns-then-not-has
returns-then-not-has c =
    let a = c.args in
    send-answers a.t.now (sending a.from a.to a.answering.bits a.q) true true false _ _ (formed (goal.at.returns-then-not-has c).Else-not-well_formed) (question-2 (goal.at.returns-then-not-has c).After-rows_named ∙ c.if-not-rows_named.false) (question-3 (goal.at.returns-then-not-has c).Joined-has ∙ c.if-not-has.true) refl refl

pub returns-then-not-in_group : goal.returns-then-not-in_group
returns-then-not-in_group c =
    let a = c.args in
    send-answers a.t.now (sending a.from a.to a.answering.bits a.q) true true true false _ (formed (goal.at.returns-then-not-in_group c).Else-not-well_formed) (question-2 (goal.at.returns-then-not-in_group c).After-rows_named ∙ c.if-not-rows_named.false) (question-3 (goal.at.returns-then-not-in_group c).Joined-has ∙ c.if-not-has.false) (sym c.in_group.ensures ∙ c.if-not-in_group.true) refl

pub returns : goal.returns
unfolding stale_of version_of desired_of
returns c =
    let a = c.args in
    let e = c.copies_asked.ensures ∙ ap₂ (λ (x y : List ℕ). cond (not (eqb (get mark x) 1)) (cond (eqb (get mark y) 1 && leb (get desired y) (get version x)) 0 10) 9) c.copy_of.ensures.0 c.copy_of-2.ensures.0 in
    send-answers a.t.now (sending a.from a.to a.answering.bits a.q) true true true true _ (formed (goal.at.returns c).Else-not-well_formed) (question-2 (goal.at.returns c).After-rows_named ∙ c.if-not-rows_named.false) (question-3 (goal.at.returns c).Joined-has ∙ c.if-not-has.false) (sym c.in_group.ensures ∙ c.if-not-in_group.false) e
