-- What is claimed of a table carried over, as statements; the proofs are in proofs/.
use Rattle.std.specs.Prelude.{◌≡◌, true, List, ℕ, length}
use Rattle.sets.specs.Upto.{Within}
use Rattle.fields.specs.Layout.{store, former_oldest, store_records, form_of, capacity_of, used_of, with_rows}
use Rattle.window.specs.Windows.{emptied}
use Rattle.table.specs.WellFormed.{own_form}
use Rattle.carrying.specs.Moves.{goes_over, all_plain, carried, carried_length}

-- "Up and down gives the original bytes"
unfoldable pub UpDown : Type 0
UpDown = (t : List ℕ) → own_form t ≡ true → Within 2 (form_of t) → carried (form_of t) (carried 3 t) ≡ t

-- a row of form 3 with an empty window
unfoldable pub emptied_row : List ℕ → List ℕ
emptied_row row = store_records emptied.records (store former_oldest emptied.oldest row)

-- "down and up gives the same rows with empty windows"
unfoldable pub DownUp : Type 0
DownUp = (t : List ℕ) (to : ℕ) → own_form t ≡ true → form_of t ≡ 3 → Within 2 to → carried 3 (carried to t) ≡ with_rows t (λ i. true) (λ i. emptied_row) (capacity_of t)

-- u is a table of that form, right by it, with as many used rows as t, and as long as the second buffer must be
pub record RightIn (to : ℕ) (t u : List ℕ) : Type 0 where
  pub form : form_of u ≡ to
  pub used : used_of u ≡ used_of t
  pub long : length u ≡ carried_length to t
  pub own : own_form u ≡ true

-- what a table that passes a move's questions becomes
unfoldable pub CarriedRight : Type 0
CarriedRight = (t : List ℕ) (to : ℕ) → own_form t ≡ true → (to ≡ 1 → all_plain t ≡ true) → goes_over (form_of t) to ≡ true → RightIn to t (carried to t)
