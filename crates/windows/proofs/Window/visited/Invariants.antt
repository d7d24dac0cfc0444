use Rattle.sets.specs.Sets.{has}
use Rattle.windows.specs.Visits.{window}
use Rattle.windows.proofs.WalkLaws.{Passed}
use Rattle.windows.proofs.Window.visited.Given as goal

abbrev pub invariant-loop-count : goal.invariant-loop-count
invariant-loop-count l = Passed (window l.self.oldest l.self.records.now) (has l.seen.bits) l.count l.next
