use mathlib.Core.Path.{◌≡◌}
use Prim.Native.Nat.{ℕ, ◌-◌, ◌%◌}
use Rattle.quorums.specs.Quorums.{touches}
use Rattle.sets.specs.Sets.{has}
use Rattle.sets.specs.Upto.{Within}
use Rattle.coterie.proofs.holding.columns_of.Given as goal

abbrev pub invariant-loop-at : goal.invariant-loop-at
invariant-loop-at l = (l.at % l.columns ≡ 0) × ((j : ℕ) → Within l.columns j → has l.found.bits j ≡ touches l.columns l.at (has l.inside.bits) j)

abbrev pub decreases-loop-at : goal.decreases-loop-at
decreases-loop-at l = l.length - l.at
