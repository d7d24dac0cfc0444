-- Whom to call: the set that a coordinator calls first.
use Rattle.std.specs.Prelude.{Bool, cond, List, [], ◌∷◌, ℕ, zero, suc, ◌+◌, ◌*◌, eqb, leb, length}
use Rattle.sets.specs.Upto.{count}
use Rattle.quorums.specs.declared.Kind.{Kind}
use Rattle.quorums.specs.declared.Kind.TheVariants.{Read, Write}
use Rattle.octets.specs.Bytes.{bytes_of}
use Rattle.fields.specs.Layout.{name_of, list_of}
use Rattle.table.specs.Chain.{frame_of}
use Rattle.table.specs.WellFormed.{well_formed}
use Rattle.asking.specs.Asking.{Question, first_no}
use Rattle.counties.specs.Counties.{list_choice}
use Rattle.protocol.specs.Calls.{is_used}

-- kind 0 is a read, 1 a write
unfoldable pub kind_of : ℕ → Kind
kind_of kind = cond (eqb kind 0) Read Write

-- the set that c calls first: its own choice over its own list; empty where that list is
unfoldable pub first_called : Kind → List ℕ → ℕ → ℕ → Bool
first_called kind t c = list_choice kind (frame_of t) (list_of t c) (name_of t c)

-- rows 1 to n that pass, as a number: bit i − 1 for row i
unfoldable pub number_of : ℕ → (ℕ → Bool) → ℕ
number_of zero p = 0
number_of (suc n) p = cond (p 1) 1 0 + 2 * number_of n (λ i. p (suc i))

-- 1; 2, is c a used row; 4, is the kind 0 or 1; 5, has the lent list 8 bytes
unfoldable pub choice_questions : List ℕ → ℕ → ℕ → List ℕ → List Question
choice_questions t c kind set =
    record { ask = 1; yes = well_formed t }
    ∷ record { ask = 2; yes = is_used t c }
    ∷ record { ask = 4; yes = leb kind 1 }
    ∷ record { ask = 5; yes = eqb (length set) 8 }
    ∷ []

-- what the call leaves: refusal number (0: done), value, the list's bytes
pub record Chosen : Type 0 where
  pub refusal : ℕ
  pub value : ℕ
  pub set : List ℕ

-- the set as a number, low byte first; the value is its size; a refusal has value 0 and leaves the list as it was lent
unfoldable pub chosen : List ℕ → ℕ → ℕ → List ℕ → Chosen
chosen t c kind set =
    let n = first_no (choice_questions t c kind set) in
    let rows = first_called (kind_of kind) t c in
    cond (eqb n 0) (record { refusal = 0; value = count 64 rows; set = bytes_of 8 (number_of 64 rows) }) (record { refusal = n; value = 0; set = set })
