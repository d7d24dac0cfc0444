use mathlib.Core.Bool.{Bool, true}
use mathlib.Core.Path.{◌≡◌}
use Prim.Native.Nat.{ℕ}
use Rattle.places.specs.Places.{placed, Tops}
use Rattle.sets.proofs.MemberLaws.{Taken}
use Rattle.sets.specs.Sets.{joining}
use Rattle.sets.specs.Upto.{Within}
use Rattle.places.proofs.best.Given as goal

-- whatever rows the first best was of: of those and the rows taken since, b is the best
abbrev pub invariant-loop-i : goal.invariant-loop-i
invariant-loop-i l = (p : ℕ → Bool) × Taken l.initial.i-iterator.left.bits l.i-iterator.left.bits p × ((j : ℕ) → p j ≡ true → Within 64 j)
    × ((q : ℕ → Bool) → ((j : ℕ) → q j ≡ true → Within 64 j) → Tops q (placed l.values) l.initial.b → Tops (joining q p) (placed l.values) l.b)
