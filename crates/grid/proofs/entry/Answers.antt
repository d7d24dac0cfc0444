use mathlib.Core.List.{List, [], ◌∷◌}
use mathlib.Core.Path.{◌≡◌, ap, ◌∙◌}
use Prim.Native.Nat.{ℕ, zero, suc, ◌+◌, ◌-◌, ◌<◌}
use native.Mathlib.Omega.{arith}
use native.Mathlib.Nat.{add-zero, add-suc, suc-add, le_of_suc-le-suc, not-suc-le-zero}
use lib.ListN.{get_or}
use Rattle.grid.specs.Sizes.{root, root_up, published}
use Rattle.grid.specs.declared.Grid.{Grid}
use Rattle.grid.proofs.entry.Goals as goal

-- The rule at i, i + 1, .., n entries long. That the code's table is this list is the one computed test over all its entries.
entries : ℕ → ℕ → List Grid
entries zero i = []
entries (suc n) i = published i ∷ entries n (suc i)

entry-is : (n i k : ℕ) (d : Grid) → k < n → get_or (entries n i) k d ≡ published (i + k)
unfolding entries
entry-is zero i k d h = absurd (not-suc-le-zero h)
entry-is (suc n) i zero d h = rw (add-zero i)
entry-is (suc n) i (suc k) d h = entry-is n (suc i) k d (le_of_suc-le-suc h) ∙ ap published (suc-add i k) ∙ rw (add-suc i k)

pub returns : goal.returns
unfolding entries published root root_up
returns c =
    let n = c.args.length in
    let m : 1 + (n - 1) ≡ n = omega arith in
    entry-is 64 1 (n - 1) _ (omega arith) ∙ ap published m
