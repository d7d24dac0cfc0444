use Rattle.windows.proofs.ZeroLaws.{Quiet}
use Rattle.windows.proofs.four_zero.Given as goal

abbrev pub invariant-loop-k : goal.invariant-loop-k
invariant-loop-k l = Quiet l.r l.bits l.k
