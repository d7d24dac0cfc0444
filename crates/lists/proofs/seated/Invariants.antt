use mathlib.Core.Bool.{◌&&◌}
use mathlib.Core.Path.{◌≡◌}
use Prim.Native.Nat.{ℕ, ◌/◌, ◌^◌}
use lib.ListN.{length, take}
use lib.Dec.{eqb}
use Rattle.counties.specs.Levels.{seats, at_seat}
use Rattle.sets.specs.Sets.{has}
use Rattle.sets.specs.Upto.{some}
use Rattle.lists.proofs.seated.Given as goal

abbrev pub invariant-loop-j : goal.invariant-loop-j
invariant-loop-j l = (l.left.bits ≡ l.initial.left.bits / 2 ^ length (seats (take l.j l.chain) (has l.members.bits)))
    × (has l.set.bits ≡ (λ (i : ℕ). some 64 (λ k. has l.initial.left.bits k && at_seat (seats (take l.j l.chain) (has l.members.bits)) (eqb i) k)))
