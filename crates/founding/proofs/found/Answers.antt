use mathlib.Core.Path.{◌≡◌, refl, sym, ◌∙◌, ap}
use mathlib.Core.List.{List}
use mathlib.Core.Bool.{Bool, true, false, ◌&&◌}
use Prim.Native.Nat.{ℕ, ◌+◌, ◌*◌, ◌/◌, ◌^◌, ◌≤◌, ◌<◌}
use mathlib.Core.Logic.{◌⊎◌, inl, inr}
use borrow.Author.Tests.{le-leb, lt-leb}
use native.Mathlib.Omega.{arith}
use lib.Dec.{eqb, leb}
use lib.ListN.{length}
use Rattle.fields.specs.Layout.{stride}
use Rattle.sets.specs.Upto.{every}
use Rattle.table.specs.WellFormed.{between, is_county}
use Rattle.counties.specs.Counties.{county_at}
use Rattle.protocol.specs.Calls.{Founding, founding, names_in}
use Rattle.questions.proofs.QuestionLaws.{refused-is}
use Rattle.founding.proofs.FoundingLaws.{NamesRight, Eleven, Twelve, Twenty, two-each, found-answers, found-fits, found-done}
use Rattle.founding.proofs.found.Goals.{Start}
use Rattle.founding.proofs.found.Goals as goal

-- the arguments of the call
abbrev asked : Start → Founding
asked s = record { capacity = s.args.capacity; file_length = s.args.file; names = s.args.names.now; choice = s.args.choice; files = s.args.files; counties = s.args.counties.now }

module _ (t : List ℕ) (a : Founding) where
  -- question 11 by its answers
  named : NamesRight t a ≡ true → a.choice ≤ 1 → Eleven t a ≡ true
  named e h = rw (e, le-leb a.choice 1 h)

  unnamed : (r : Bool) → r ≡ NamesRight t a → (r ≡ true × 1 < a.choice) ⊎ (r ≡ false) → Eleven t a ≡ false
  unnamed r e (inl w) = rw (← e, w.0, lt-leb a.choice 1 w.1)
  unnamed r e (inr w) = rw (← e, w)

  half : Eleven t a ≡ true → length a.names / 2 ≡ length (names_in a.names)
  half h = omega (arith, two-each t a h)

  -- question 12 by its answer
  sized : (r : Bool) → Eleven t a ≡ true
      → r ≡ (between 1 a.capacity 64 && leb (length a.names / 2) a.capacity && between 1 a.file_length 4_096 && between 1 a.files 8 && eqb (length t) (16 + a.capacity * stride a.files a.file_length))
      → Twelve t a ≡ r
  sized r h e =
      sym (e ∙ ap (λ (n : ℕ). between 1 a.capacity 64 && leb n a.capacity && between 1 a.file_length 4_096 && between 1 a.files 8 && eqb (length t) (16 + a.capacity * stride a.files a.file_length)) (half h))

  -- question 20 by its answer
  placed : (r : Bool) → Eleven t a ≡ true → r ≡ (eqb (length a.counties) (length a.names / 2) && every (length a.names / 2) (λ i. is_county (county_at a.counties i))) → Twenty t a ≡ r
  placed r h e = sym (e ∙ ap (λ (n : ℕ). eqb (length a.counties) n && every n (λ i. is_county (county_at a.counties i))) (half h))

pub returns-then-not-choice : goal.returns-then-not-choice
returns-then-not-choice c =
    let t = c.args.t.now in
    let a = asked (goal.at.returns-then-not-choice c).Start in
    let eleven = unnamed t a _ c.names_right.ensures c.if-not-choice.either in
    let no = refused-is t (founding a) 11 (sym (found-answers t a false _ _ eleven refl refl)) (omega arith) in
    (no.result, no.table, refl, refl)

pub returns-then-not-sizes_right : goal.returns-then-not-sizes_right
returns-then-not-sizes_right c =
    let t = c.args.t.now in
    let a = asked (goal.at.returns-then-not-sizes_right c).Start in
    let eleven = named t a (sym c.names_right.ensures ∙ c.if-not-choice.false.0) c.if-not-choice.false.1 in
    let twelve = sized t a _ eleven c.sizes_right.ensures ∙ c.if-not-sizes_right.true in
    let no = refused-is t (founding a) 12 (sym (found-answers t a true false _ eleven twelve refl)) (omega arith) in
    (no.result, no.table, refl, refl)

pub returns-then-not-counties_right : goal.returns-then-not-counties_right
returns-then-not-counties_right c =
    let t = c.args.t.now in
    let a = asked (goal.at.returns-then-not-counties_right c).Start in
    let eleven = named t a (sym c.names_right.ensures ∙ c.if-not-choice.false.0) c.if-not-choice.false.1 in
    let twelve = sized t a _ eleven c.sizes_right.ensures ∙ c.if-not-sizes_right.false in
    let twenty = placed t a _ eleven c.counties_right.ensures ∙ c.if-not-counties_right.true in
    let no = refused-is t (founding a) 20 (sym (found-answers t a true true false eleven twelve twenty)) (omega arith) in
    (no.result, no.table, refl, refl)

pub lay_table-requires : goal.lay_table-requires
lay_table-requires c =
    let t = c.args.t.now in
    let a = asked (goal.at.lay_table-requires c).Start in
    let eleven = named t a (sym c.names_right.ensures ∙ c.if-not-choice.false.0) c.if-not-choice.false.1 in
    let twelve = sized t a _ eleven c.sizes_right.ensures ∙ c.if-not-sizes_right.false in
    let twenty = placed t a _ eleven c.counties_right.ensures ∙ c.if-not-counties_right.false in
    found-fits t a eleven twelve twenty

pub overflow_cast-result : goal.overflow_cast-result
overflow_cast-result c =
    let t = c.args.t.now in
    let a = asked (goal.at.overflow_cast-result c).Start in
    let eleven = named t a (sym c.names_right.ensures ∙ c.if-not-choice.false.0) c.if-not-choice.false.1 in
    let twelve = sized t a _ eleven c.sizes_right.ensures ∙ c.if-not-sizes_right.false in
    let twenty = placed t a _ eleven c.counties_right.ensures ∙ c.if-not-counties_right.false in
    let f = found-fits t a eleven twelve twenty in
    record { fits = omega (arith, f.3, f.4, f.5) }

pub returns : goal.returns
returns c =
    let t = c.args.t.now in
    let a = asked (goal.at.returns c).Start in
    let eleven = named t a (sym c.names_right.ensures ∙ c.if-not-choice.false.0) c.if-not-choice.false.1 in
    let twelve = sized t a _ eleven c.sizes_right.ensures ∙ c.if-not-sizes_right.false in
    let twenty = placed t a _ eleven c.counties_right.ensures ∙ c.if-not-counties_right.false in
    let yes = found-done t a eleven twelve twenty in
    (ap (λ (n : ℕ). 0 * 2 ^ 32 + n) (half t a eleven) ∙ yes.0, c.lay_table.ensures ∙ yes.1, refl, refl)
