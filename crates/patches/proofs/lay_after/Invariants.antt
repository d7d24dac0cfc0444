use Prim.Native.Nat.{◌-◌}
use Rattle.windows.specs.Visits.{window}
use Rattle.patches.proofs.LayLaws.{Laying}
use Rattle.patches.proofs.lay_after.Given as goal

abbrev pub invariant-loop-next : goal.invariant-loop-next
invariant-loop-next l = Laying (window l.w.oldest l.w.records.now) l.skip l.initial.contents l.contents l.count l.next

abbrev pub decreases-loop-next : goal.decreases-loop-next
decreases-loop-next l = 16 - l.count
