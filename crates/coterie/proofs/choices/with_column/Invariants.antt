use mathlib.Core.Path.{◌≡◌}
use Prim.Native.Nat.{suc, ◌-◌, ◌≤◌}
use Rattle.coterie.proofs.TurnLaws.{column_to}
use Rattle.grid.specs.Sizes.{column_of}
use Rattle.sets.specs.Sets.{has}
use Rattle.coterie.proofs.choices.with_column.Given as goal

abbrev pub invariant-loop-at : goal.invariant-loop-at
invariant-loop-at l = (1 ≤ l.at) × (column_of l.columns l.at ≡ l.j) × (has l.grown.bits ≡ column_to l.columns l.length l.j (has l.initial.grown.bits) l.at)

abbrev pub decreases-loop-at : goal.decreases-loop-at
decreases-loop-at l = suc l.length - l.at
