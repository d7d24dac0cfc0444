-- The rows of each county, as eight sets in an array.
use Rattle.std.specs.Prelude.{◌≡◌, true, ◌&&◌, List, ℕ, ◌+◌, ◌-◌, ◌<◌, eqb, leb, length, get_or}
use Rattle.sets.specs.Upto.{lowest}
use Rattle.sets.specs.Sets.{has}
use Rattle.fields.specs.Layout.{county_of}
use Rattle.counties.specs.Counties.{Frame}
use Rattle.table.specs.WellFormed.{well_formed}
use Rattle.table.specs.Asked.{Ordered}

-- the county that the sets give a row: the first that has it, 0 where none has
unfoldable pub county_by : List ℕ → ℕ → ℕ
county_by sets i = lowest 8 (λ j. has (get_or sets (j - 1) 0) i)

-- no row is in two of them: the one at place k, from 0, has the rows of county k + 1
pub record Apart (sets : List ℕ) : Type 0 where
  pub places : length sets ≡ 8
  pub rows : (k i : ℕ) → k < 8 → has (get_or sets k 0) i ≡ eqb (county_by sets i) (k + 1)

-- the sets of the first k rows, by the counties c
pub record Filled (c : ℕ → ℕ) (k : ℕ) (sets : List ℕ) : Type 0 where
  pub places : length sets ≡ 8
  pub rows : (j i : ℕ) → j < 8 → has (get_or sets j 0) i ≡ (leb 1 i && leb i k && eqb (c i) (j + 1))

-- the sets of a table's used rows
pub record Grouped (t sets : List ℕ) : Type 0 where
  pub apart : Apart sets
  pub county : county_by sets ≡ county_of t

-- what such sets and an order tell of the rows
unfoldable pub frame_by : List ℕ → List ℕ → Frame
frame_by order sets = record { order = order; county = county_by sets }

-- what question 1 hands on where it is yes: arrays that hold the frame of a well-formed table
pub record Framed (t order sets : List ℕ) : Type 0 where
  pub formed : well_formed t ≡ true
  pub ordered : Ordered t order
  pub grouped : Grouped t sets
