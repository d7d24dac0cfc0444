use mathlib.Core.Bool.{Bool, true}
use mathlib.Core.Path.{◌≡◌}
use Prim.Native.Nat.{ℕ}
use Rattle.places.specs.Places.{placed}
use Rattle.sets.proofs.MemberLaws.{Taken}
use Rattle.places.proofs.behind.Given as goal

-- the rows taken so far have v
abbrev pub invariant-loop-left : goal.invariant-loop-left
invariant-loop-left l = (p : ℕ → Bool) × Taken l.initial.left.bits l.left.bits p × ((j : ℕ) → p j ≡ true → placed l.values j ≡ l.v)

abbrev pub decreases-loop-left : goal.decreases-loop-left
decreases-loop-left l = l.left.bits
