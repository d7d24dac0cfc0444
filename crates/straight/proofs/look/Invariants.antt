use Rattle.straight.proofs.PassLaws.{Passed}
use Rattle.straight.proofs.look.Given as goal

abbrev pub invariant-loop-k : goal.invariant-loop-k
invariant-loop-k l = Passed l.t l.sets l.k l.other l.low
