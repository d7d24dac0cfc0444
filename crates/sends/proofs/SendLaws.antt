-- A send, as the code goes through it.
use mathlib.Core.Path.{◌≡◌, refl, sym, ◌∙◌, ap}
use mathlib.Core.Bool.{Bool, true, not, cond, ◌&&◌}
use mathlib.Core.List.{List}
use Prim.Native.Nat.{ℕ, ◌+◌, ◌*◌, ◌^◌}
use lib.Dec.{eqb, leb}
use Rattle.sets.specs.Upto.{Within}
use Rattle.sets.specs.Sets.{has}
use Rattle.bools.proofs.BoolLaws.{and_l, and_r}
use Rattle.fields.specs.Layout.{get, version, in_copy, used_of, file_length_of, stale_of, version_of, desired_of, copy_bytes, with_row}
use Rattle.window.specs.Windows.{window_of}
use Rattle.windows.specs.Visits.{RightFor}
use Rattle.table.specs.WellFormed.{between, only_rows, well_formed}
use Rattle.table.proofs.FormLaws.{between_is, formed}
use Rattle.protocol.specs.Rows.{refreshed_copy}
use Rattle.asking.specs.Asking.{first_no}
use Rattle.protocol.specs.Calls.{Sending, Outcome, send, questions, is_used, in_group, done, outcome, result_of}
use Rattle.protocol.proofs.QuestionLaws.{refusal_is, when-done, SendYes}

-- question 2 names two used rows
pub named : (n f to r : ℕ) → (between 1 f n && between 1 to n && only_rows n r && not (eqb f to)) ≡ true → Within n f × Within n to
named n f to r h =
    let both = and_l (between 1 f n && between 1 to n) _ (and_l (between 1 f n && between 1 to n && only_rows n r) _ h) in
    (between_is 1 f n (and_l _ _ both), between_is 1 to n (and_r (between 1 f n) _ both))

module _ (t : List ℕ) (a : Sending) where
  -- the questions by their answers
  pub send-answers : (x y z g : Bool) (n : ℕ) → well_formed t ≡ x
      → (between 1 a.f (used_of t) && between 1 a.t (used_of t) && only_rows (used_of t) a.r && not (eqb a.f a.t)) ≡ y
      → (has a.r a.f && has a.r a.t) ≡ z
      → in_group t a.file ≡ g
      → n ≡ cond (not (stale_of t a.file a.f)) (cond (stale_of t a.file a.t && leb (desired_of t a.file a.t) (version_of t a.file a.f)) 0 10) 9
      → cond x (cond y (cond z (cond g n 16) 3) 2) 1 ≡ first_no (questions t (send a))
  unfolding questions first_no is_used
  send-answers x y z g n ex ey ez eg en = rw (ex, ey, ez, eg, en) refl

  pub send-done : (v : ℕ) → first_no (questions t (send a)) ≡ 0 → v ≡ get version (copy_bytes t a.file a.f)
      → (0 * 2 ^ 32 + v ≡ result_of (outcome t (send a)))
      × (with_row t a.t (in_copy (file_length_of t) a.file (refreshed_copy (copy_bytes t a.file a.f))) ≡ (outcome t (send a)).table)
  unfolding done result_of version_of
  send-done v h e =
      let o = when-done t (send a) (refusal_is t (send a) ∙ h) in
      (ap (λ (x : ℕ). 0 * 2 ^ 32 + x) e ∙ sym (ap result_of o), sym (ap (λ (x : Outcome). x.table) o))

-- the sender's window is right
pub sender-right : (t : List ℕ) (a : Sending) → SendYes t a → RightFor (file_length_of t) (window_of (copy_bytes t a.file a.f))
sender-right t a y = record { version = get version (copy_bytes t a.file a.f); right = ((formed t y.formed).copies a.f a.file y.from-used y.group).kept }
