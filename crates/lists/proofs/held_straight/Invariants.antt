use mathlib.Core.Path.{◌≡◌}
use Prim.Native.Nat.{ℕ}
use lib.ListN.{length}
use Rattle.lists.proofs.StraightLaws.{Ahead}
use Rattle.counties.specs.Levels.{seats, at_seat}
use Rattle.sets.specs.Sets.{has}
use Rattle.sets.specs.Upto.{upward}
use Rattle.lists.proofs.held_straight.Given as goal

-- the members up to m are looked at
abbrev pub invariant-loop-i : goal.invariant-loop-i
invariant-loop-i l = (m : ℕ) × Ahead l.initial.i-iterator.left.bits l.i-iterator.left.bits m × (l.k ≡ length (seats (upward m 1) (has l.initial.i-iterator.left.bits)))
    × (has l.positions.bits ≡ at_seat (seats (upward m 1) (has l.initial.i-iterator.left.bits)) (has l.set.bits))
