use mathlib.Core.Path.{◌≡◌}
use mathlib.Core.Bool.{true}
use Prim.Native.Nat.{ℕ}
use Rattle.sets.specs.Upto.{Within}
use Rattle.fields.specs.Layout.{get, county, row_bytes}
use Rattle.grouping.proofs.all_in.Given as goal

-- the first k rows have it
abbrev pub invariant-loop-k : goal.invariant-loop-k
invariant-loop-k l = l.same ≡ true → (i : ℕ) → Within l.k i → l.which ≡ get county (row_bytes l.t i)
