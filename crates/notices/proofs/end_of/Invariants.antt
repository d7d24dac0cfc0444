use Rattle.notices.specs.Ends.{Behind}
use Rattle.notices.proofs.end_of.Given as goal

abbrev pub invariant-loop-n : goal.invariant-loop-n
invariant-loop-n l = Behind l.text l.n
