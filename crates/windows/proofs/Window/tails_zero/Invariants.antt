use mathlib.Core.Path.{◌≡◌}
use mathlib.Core.Bool.{true}
use Prim.Native.Nat.{◌-◌, ◌%◌}
use Rattle.sets.specs.Upto.{every}
use Rattle.blocks.specs.Blocks.{block}
use Rattle.windows.specs.Visits.{tail_zero}
use Rattle.windows.proofs.Window.tails_zero.Given as goal

abbrev pub invariant-loop-i : goal.invariant-loop-i
invariant-loop-i l = (l.i % 4 ≡ 0) × (every l.i (λ x. tail_zero (block 0 36 x l.self.records.now)) ≡ true)

abbrev pub decreases-loop-i : goal.decreases-loop-i
decreases-loop-i l = 16 - l.i
