-- A relay that holds only rows that answered, and the table that it puts together for a call.
use Rattle.std.specs.Prelude.{◌≡◌, true, false, not, List, ℕ}
use Rattle.sets.specs.Upto.{Within}
use Rattle.sets.specs.Sets.{has}
use Rattle.fields.specs.Layout.{get, name, link, county, bare_row, body_length, file_length_of, files_of, used_of, name_of, link_of, county_of, row_bytes, with_rows}
use Rattle.table.specs.WellFormed.{well_formed}
use Rattle.protocol.specs.Calls.{Call, outcome}
use Rattle.protocol.specs.Claims.{Answering, EqualIn, SameFor}

-- a row of which only name, link and county are known, with so many bytes behind its head
unfoldable pub blank_row : ℕ → List ℕ → List ℕ
blank_row body row = bare_row (get name row) (get link row) (get county row) body

-- the table in which each used row outside R is such a row
unfoldable pub blanked : ℕ → List ℕ → List ℕ
blanked r t = with_rows t (λ i. not (has r i)) (λ i. blank_row (body_length (files_of t) (file_length_of t))) (used_of t)

-- of a well-formed table it is well formed, with the same header, names, links, counties and rows of R
unfoldable pub BlankedEqual : Type 0
BlankedEqual = (t : List ℕ) (r : ℕ) → well_formed t ≡ true → EqualIn r t (blanked r t)

-- and nothing of any other used row but its name, link and county
unfoldable pub OthersBlank : Type 0
OthersBlank = (t : List ℕ) (r i : ℕ) → well_formed t ≡ true → Within (used_of t) i → has r i ≡ false
    → row_bytes (blanked r t) i ≡ bare_row (name_of t i) (link_of t i) (county_of t i) (body_length (files_of t) (file_length_of t))

-- so it is put together from header, names, links, counties and the rows of R: two tables that are equal in these give the same bytes
unfoldable pub BlankedAlike : Type 0
BlankedAlike = (t u : List ℕ) (r : ℕ) → EqualIn r t u → blanked r t ≡ blanked r u

-- every read, write, send and check with that R gives the same result, the same bytes and the same rows of R as on the whole table
unfoldable pub BlankedAnswers : Type 0
BlankedAnswers = (t : List ℕ) (k : Call) (r : ℕ) → Answering k r → well_formed t ≡ true → SameFor r (outcome t k) (outcome (blanked r t) k)
