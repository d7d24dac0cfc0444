-- Rows of a grid shifted away.
use mathlib.Core.Path.{◌≡◌, ap}
use Prim.Native.Nat.{ℕ, zero, suc, ◌+◌, ◌-◌, ◌*◌, ◌/◌, ◌^◌, ◌≤◌, ◌<◌}
use native.Mathlib.Nat.{div-div-eq-div-mul}
use native.Mathlib.Decide.{dec_lt}
use native.Mathlib.Omega.{arith}
use lib.Pow.{pow-add}
use Rattle.grid.specs.declared.Grid.{Grid}
use Rattle.grid.specs.Sizes.{Fits}

-- a set without its first a positions, and without n more
pub shift-more : (s a n : ℕ) → s / 2 ^ a / 2 ^ n ≡ s / 2 ^ (a + n)
shift-more s a n = rw (div-div-eq-div-mul s (2 ^ a) (2 ^ n), pow-add 2 a n)

-- a row of n less
pub row-less : (row n : ℕ) → 1 ≤ row → (row - 1) * n + n ≡ row * n
row-less zero n h = absurd (omega arith)
row-less (suc row) n h = let z : suc row - 1 ≡ row = omega arith in rw z (omega arith)

-- a grid has a row
pub some-row : (g : Grid) (N : ℕ) → Fits g N → 1 ≤ g.rows
some-row g N f = go (dec_lt 0 g.rows)
  where
    go : Dec (0 < g.rows) → 1 ≤ g.rows
    go (yes h) = omega arith
    go (no h) = let z : g.rows ≡ 0 = omega arith in absurd (omega (arith, f.room, f.narrow, f.some-column, ap (λ (r : ℕ). r * g.cols) z))
