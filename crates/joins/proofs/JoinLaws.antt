-- A joining, as the code goes through it.
use mathlib.Core.Path.{◌≡◌, refl, sym, ◌∙◌, ap}
use mathlib.Core.Bool.{Bool, not, cond, ◌&&◌}
use mathlib.Core.List.{List}
use Prim.Native.Nat.{ℕ, suc, ◌+◌, ◌*◌, ◌^◌}
use native.Mathlib.Numerals.{add-one}
use lib.Dec.{eqb, ltb}
use Rattle.sets.specs.Upto.{some}
use Rattle.fields.specs.Layout.{capacity_of, used_of, name_of}
use Rattle.table.specs.WellFormed.{between, is_county, well_formed}
use Rattle.asking.specs.Asking.{first_no}
use Rattle.joining.specs.Joining.{row_before, joined_behind, joined}
use Rattle.protocol.specs.Calls.{Joining, Outcome, join, questions, done, outcome, result_of}
use Rattle.protocol.proofs.QuestionLaws.{refusal_is, when-done}

module _ (t : List ℕ) (a : Joining) where
  -- the questions by their answers
  pub join-answers : (x y z w : Bool) → well_formed t ≡ x → (between 1 a.name 65_535 && not (some (used_of t) (λ i. eqb (name_of t i) a.name))) ≡ y → ltb (used_of t) (capacity_of t) ≡ z → is_county a.county ≡ w
      → first_no (questions t (join a)) ≡ cond x (cond y (cond z (cond w 0 20) 14) 13) 1
  unfolding questions first_no
  join-answers x y z w ex ey ez ew = rw (ex, ey, ez, ew) refl

  pub join-done : (n before : ℕ) (last : List ℕ) → first_no (questions t (join a)) ≡ 0 → n ≡ used_of t → before ≡ row_before t a.name → last ≡ joined_behind t before a.name a.county
      → (0 * 2 ^ 32 + (n + 1) ≡ result_of (outcome t (join a))) × (last ≡ (outcome t (join a)).table)
  unfolding done result_of joined
  join-done n before last h en eb el =
      let o = when-done t (join a) (refusal_is t (join a) ∙ h) in (
        ap (λ (i : ℕ). 0 * 2 ^ 32 + i) (add-one n ∙ ap suc en) ∙ sym (ap result_of o),
        el ∙ ap (λ (p : ℕ). joined_behind t p a.name a.county) eb ∙ sym (ap (λ (x : Outcome). x.table) o),
      )
