use Rattle.agreement.proofs.AgreeLaws.{Passed}
use Rattle.agreement.proofs.lists_right.Given as goal

abbrev pub invariant-loop-k : goal.invariant-loop-k
invariant-loop-k l = Passed l.t l.k l.run l.epoch l.list l.tall l.wide l.right
