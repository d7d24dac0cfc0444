use Rattle.lists.proofs.StraightLaws.{Right}
use Rattle.lists.proofs.straight.Given as goal

abbrev pub invariant-loop-k : goal.invariant-loop-k
invariant-loop-k l = Right l.order l.bits l.k
