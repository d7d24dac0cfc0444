-- Season tables carried over: "Tables of forms 1 and 2 move to form 3 with empty windows, and back." The forms are named by number, not as the
-- newest: a later form changes nothing here.
use Rattle.std.specs.Prelude.{Bool, ◌&&◌, ◌||◌, List, ◌++◌, ℕ, ◌+◌, ◌-◌, ◌*◌, eqb}
use Rattle.sets.specs.Upto.{every}
use Rattle.octets.specs.Bytes.{bytes_of, part, zeros}
use Rattle.blocks.specs.Blocks.{in_turn}
use Rattle.fields.specs.Layout.{store, former_oldest, body_in, stride_in, capacity_of, used_of, file_length_of, row_bytes}
use Rattle.table.specs.WellFormed.{between, plain}

-- "a pair of forms other than 1 or 2 with 3"
unfoldable pub goes_over : ℕ → ℕ → Bool
goes_over from to = (between 1 from 2 && eqb to 3) || (eqb from 3 && between 1 to 2)

-- "when a grid mark is not 0 or a list is empty": of no used row
unfoldable pub all_plain : List ℕ → Bool
all_plain t = every (used_of t) (λ i. plain (row_bytes t i))

-- a row of a table of that form: its head and contents as they are, but for the window, which is empty: no oldest record, and where there are records
-- they are zero
unfoldable pub carried_row : ℕ → ℕ → List ℕ → List ℕ
carried_row to file_length row = store former_oldest 0 (part 0 (32 + file_length) row) ++ zeros (body_in to 1 file_length - file_length)

-- the table of that form: but for byte 0 the header stays, and every row is carried over, used or not
unfoldable pub carried : ℕ → List ℕ → List ℕ
carried to t = bytes_of 1 to ++ (part 1 15 t ++ in_turn (capacity_of t) (λ i. carried_row to (file_length_of t) (row_bytes t i)))

unfoldable pub carried_length : ℕ → List ℕ → ℕ
carried_length to t = 16 + capacity_of t * stride_in to 1 (file_length_of t)
