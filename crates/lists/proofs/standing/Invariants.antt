use mathlib.Core.Bool.{Bool, ◌&&◌}
use mathlib.Core.Path.{◌≡◌}
use Prim.Native.Nat.{ℕ}
use lib.Dec.{eqb}
use lib.ListN.{length}
use Rattle.counties.specs.Levels.{at_seat}
use Rattle.sets.proofs.MemberLaws.{Taken}
use Rattle.sets.specs.Sets.{has, cut_to, first_rows}
use Rattle.sets.specs.Upto.{some}
use Rattle.lists.proofs.standing.Given as goal

-- the positions of the chain are gone through; the rows at those taken so far
abbrev pub invariant-loop-i : goal.invariant-loop-i
invariant-loop-i l =
    (has l.initial.i-iterator.left.bits ≡ cut_to (has l.fn.positions.bits) (first_rows (length l.chain))) × (q : ℕ → Bool) × Taken l.initial.i-iterator.left.bits l.i-iterator.left.bits q × (has l.set.bits ≡ (λ (i : ℕ). some 64 (λ k. q k && at_seat l.chain (eqb i) k)))
