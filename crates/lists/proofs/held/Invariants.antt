use mathlib.Core.Path.{◌≡◌}
use Prim.Native.Nat.{◌-◌, ◌^◌, ◌<◌}
use lib.ListN.{length, drop}
use Rattle.counties.specs.Levels.{seats, at_seat}
use Rattle.sets.specs.Sets.{has}
use Rattle.lists.proofs.held.Given as goal

-- the rows behind j are looked at
abbrev pub invariant-loop-j : goal.invariant-loop-j
invariant-loop-j l = (l.positions.bits < 2 ^ (length l.chain - l.j)) × (has l.positions.bits ≡ at_seat (seats (drop l.j l.chain) (has l.members.bits)) (has l.set.bits))
