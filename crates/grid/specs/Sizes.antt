-- The grid of a list of N members: its sizes, and the row and column of each position. Rows, columns and positions count from 1.
use Rattle.std.specs.Prelude.{Bool, cond, ◌&&◌, ◌||◌, ℕ, zero, suc, ◌+◌, ◌-◌, ◌*◌, ◌/◌, ◌%◌, ◌≤◌, ◌<◌, eqb, leb, ltb}
use Rattle.grid.specs.declared.Grid.{Grid}

-- "the whole square root of N rounded down": it grows where the next square is reached
unfoldable pub root : ℕ → ℕ
root zero = 0
root (suc n) = let s = root n in cond (leb ((s + 1) * (s + 1)) (suc n)) (s + 1) s

-- "it rounded up"
unfoldable pub root_up : ℕ → ℕ
root_up N = cond (eqb (root N * root N) N) (root N) (root N + 1)

-- "Rows m start at the whole square root of N rounded down, columns n at it rounded up; if m × n < N, m grows by one."
unfoldable pub published : ℕ → Grid
published N = record { rows = cond (ltb (root N * root_up N) N) (root N + 1) (root N); cols = root_up N }

-- ---- the grid in which a list was laid: row byte 24 is its grid mark, "0 published, 1 the new five", 2 tall, 3 wide and of more than one county
-- "New lists of five are laid in 3 rows and 2 columns."
unfoldable pub new_five : Grid
new_five = record { rows = 3; cols = 2 }

-- "exchanges m and n wherever m is n − 1"
unfoldable pub exchanged : Grid → Grid
exchanged g = cond (eqb (g.rows + 1) g.cols) (record { rows = g.cols; cols = g.rows }) g

-- the grid of N members of a level by their list's mark; "tall starts from the published grid"; of mark 3, "on both its levels a length of five is laid in 3 rows and
-- 2 columns"
unfoldable pub grid_by : ℕ → ℕ → Grid
grid_by mark N = cond (eqb mark 2) (exchanged (published N)) (cond ((eqb mark 1 || eqb mark 3) && eqb N 5) new_five (published N))

-- "Mark 1 needs a list of five"; mark 2 any list that is not empty: a list of N members within one county can have the mark
unfoldable pub mark_fits : ℕ → ℕ → Bool
mark_fits mark N = eqb mark 0 || ((eqb mark 1 && eqb N 5) || (eqb mark 2 && leb 1 N))

-- the mark of a list of N members within one county that is laid now, in a tall table or in a wide one
unfoldable pub new_mark : Bool → ℕ → ℕ
new_mark is_tall N = cond is_tall 2 (cond (eqb N 5) 1 0)

-- no rows and no columns
unfoldable pub no_grid : Grid
no_grid = record { rows = 0; cols = 0 }

-- "Let b = m × n − N."
unfoldable pub spare : Grid → ℕ → ℕ
spare g N = g.rows * g.cols - N

-- "position k is in row (k − 1) div n + 1"
unfoldable pub row_of : ℕ → ℕ → ℕ
row_of n k = (k - 1) / n + 1

-- "column (k − 1) mod n + 1"
unfoldable pub column_of : ℕ → ℕ → ℕ
column_of n k = (k - 1) % n + 1

-- the height of column j: "Columns beyond n − b are one shorter."
unfoldable pub height : Grid → ℕ → ℕ → ℕ
height g N j = cond (leb j (g.cols - spare g N)) g.rows (g.rows - 1)

-- What every grid that a list is laid in meets: there is room, no row to spare, and no more columns than members.
pub record Fits (g : Grid) (N : ℕ) : Type 0 where
  pub room : N ≤ g.rows * g.cols
  pub tight : g.rows * g.cols < N + g.cols
  pub narrow : g.cols ≤ N
  pub some-column : 1 ≤ g.cols
