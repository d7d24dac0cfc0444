use Rattle.windows.specs.Visits.{window}
use Rattle.patches.proofs.EndLaws.{Ends}
use Rattle.patches.proofs.scan.Given as goal

abbrev pub invariant-loop-count : goal.invariant-loop-count
invariant-loop-count l = Ends (window l.w.oldest l.w.records.now) l.count l.last
