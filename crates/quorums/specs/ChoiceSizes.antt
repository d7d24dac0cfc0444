-- "How many machines were called": how many a caller chooses, by positions.
use Rattle.std.specs.Prelude.{◌≡◌, ℕ, ◌+◌, ◌-◌, ◌≤◌}
use Rattle.sets.specs.Upto.{count}
use Rattle.grid.specs.declared.Grid.{Grid}
use Rattle.grid.specs.Sizes.{Fits}
use Rattle.quorums.specs.declared.Kind.{Kind}
use Rattle.quorums.specs.declared.Kind.TheVariants.{Read, Write}
use Rattle.quorums.specs.Quorums.{choice}

-- x is the largest value of f: no value is above it, and one is x
pub record Largest (f : ℕ → ℕ) (x : ℕ) : Type 0 where
  pub bound : (a : ℕ) → f a ≤ x
  pub reached : (a : ℕ) × (f a ≡ x)

-- "A done write that stayed with P called at most m + n − 1, a done read n, by the grid": the sizes of the choices in a grid, by kind and name
pub record ChoicesSized (g : Grid) (size : Kind → ℕ → ℕ) : Type 0 where
  pub read : (a : ℕ) → size Read a ≡ g.cols
  pub write : Largest (size Write) (g.rows + g.cols - 1)

-- the choices over positions, in any grid that fits
unfoldable pub GridChoiceSizes : Type 0
GridChoiceSizes = (g : Grid) (N : ℕ) → Fits g N → ChoicesSized g (λ kind a. count N (choice kind g N a))
