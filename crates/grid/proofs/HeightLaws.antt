-- The height of a column by one sum, in any grid that fits.
use mathlib.Core.Path.{◌≡◌, refl, ◌∙◌, ap}
use mathlib.Core.Bool.{Bool, true, false, cond}
use Prim.Native.Nat.{ℕ, zero, suc, ◌+◌, ◌-◌, ◌*◌, ◌/◌, ◌≤◌, ◌<◌}
use native.Mathlib.Omega.{arith}
use lib.Dec.{leb}
use lib.Arith.{digits_div}
use borrow.Author.Tests.{leb-true, leb-false}
use Rattle.grid.specs.declared.Grid.{Grid}
use Rattle.grid.specs.Sizes.{grid_by, spare, height, Fits}
use Rattle.grid.specs.Claims.{HeightsBySum}
use Rattle.grid.proofs.SizeLaws.{laid-fits}

-- a number from q * n on, below (q + 1) * n, has the quotient q
quotient : (q n x : ℕ) → q * n ≤ x → x < q * n + n → x / n ≡ q
quotient q n x low high =
    let e : x ≡ q * n + (x - q * n) = omega arith in
    let l : x - q * n < n = omega arith in
    ap (λ (y : ℕ). y / n) e ∙ digits_div q l

-- over rows, columns, length and column
pub height-by-sum : (g : Grid) (N : ℕ) → Fits g N → (j : ℕ) → 1 ≤ j → j ≤ g.cols → (N - j) / g.cols + 1 ≡ height g N j
unfolding height spare
height-by-sum g N f j p l = go g.rows g.cols f.room f.tight f.narrow l (leb j (g.cols - (g.rows * g.cols - N))) refl
  where
    go : (m n : ℕ) → N ≤ m * n → m * n < N + n → n ≤ N → j ≤ n → (b : Bool) → leb j (n - (m * n - N)) ≡ b → (N - j) / n + 1 ≡ cond b m (m - 1)
    go zero n room tight narrow l b e = absurd (omega arith)
    go (suc m) n room tight narrow l true e = omega (arith, quotient m n (N - j) (omega (arith, leb-true)) (omega arith))
    go (suc zero) n room tight narrow l false e = absurd (omega (arith, leb-false))
    go (suc (suc m)) n room tight narrow l false e = omega (arith, quotient m n (N - j) (omega arith) (omega (arith, leb-false)))

pub heights-by-sum : HeightsBySum
unfolding HeightsBySum
heights-by-sum mark N some = height-by-sum (grid_by mark N) N (laid-fits mark N some)
