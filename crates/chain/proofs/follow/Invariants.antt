use mathlib.Core.List.{List}
use Prim.Native.Nat.{ℕ, ◌-◌}
use Rattle.sets.specs.Sets.{has}
use Rattle.table.proofs.ChainLaws.{Walked}
use Rattle.chain.proofs.follow.Given as goal

abbrev pub invariant-loop-next : goal.invariant-loop-next
invariant-loop-next l = Walked l.t l.initial.order l.order (has l.seen.bits) l.low l.count l.next

abbrev pub decreases-loop-next : goal.decreases-loop-next
decreases-loop-next l = l.used - l.count

-- the walk goes on where the first loop left it, whatever array that was lent
abbrev pub invariant-loop-place : goal.invariant-loop-place
invariant-loop-place l =
    (lent : List ℕ) → Walked l.t lent l.initial.order (has l.initial.seen.bits) l.initial.low l.initial.place l.initial.next → Walked l.t lent l.order (has l.seen.bits) l.low l.place l.next
