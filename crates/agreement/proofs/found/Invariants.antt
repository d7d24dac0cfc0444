use Rattle.agreement.specs.Compared.{Apart}
use Rattle.agreement.proofs.found.Given as goal

abbrev pub invariant-loop-j : goal.invariant-loop-j
invariant-loop-j l = Apart l.t l.k l.epoch l.j
