-- What is claimed of every grid that a list is laid in; the proofs are in proofs/.
use Rattle.std.specs.Prelude.{◌≡◌, ℕ, ◌+◌, ◌-◌, ◌/◌, ◌≤◌}
use Rattle.grid.specs.Sizes.{new_five, grid_by, height}

-- "use (N − j) div n + 1; show it to be the height that document 01's rule gives, for every column of both grids": of every mark's, at every length
unfoldable pub HeightsBySum : Type 0
HeightsBySum = (mark N : ℕ) → 1 ≤ N → (j : ℕ) → 1 ≤ j → j ≤ (grid_by mark N).cols → (N - j) / (grid_by mark N).cols + 1 ≡ height (grid_by mark N) N j

-- "A list of more than one county has grid mark 3 in a wide table .. and 2 in a tall one; on both its levels a length of five is laid in 3 rows and 2 columns": by either mark
unfoldable pub FivesLaid : Type 0
FivesLaid = (grid_by 3 5 ≡ new_five) × (grid_by 2 5 ≡ new_five)
