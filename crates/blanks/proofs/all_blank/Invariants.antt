use mathlib.Core.Path.{◌≡◌}
use Prim.Native.Nat.{◌+◌, ◌*◌, ◌≤◌}
use lib.ListN.{length}
use Rattle.blanks.proofs.BlankLaws.{Seen}
use Rattle.blanks.proofs.all_blank.Given as goal

abbrev pub invariant-loop-k : goal.invariant-loop-k
invariant-loop-k l = (l.step ≤ l.count) × (length l.s ≡ 3 * l.step + l.count) × Seen l.s l.step l.bits l.k
