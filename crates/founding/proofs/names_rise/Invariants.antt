use mathlib.Core.Path.{◌≡◌}
use mathlib.Core.Bool.{◌&&◌}
use lib.ListN.{drop}
use Rattle.protocol.specs.Calls.{names_in, names_rising}
use Rattle.founding.proofs.names_rise.Given as goal

abbrev pub invariant-loop-i : goal.invariant-loop-i
invariant-loop-i l = (l.ok && names_rising l.low (drop l.i (names_in l.names))) ≡ names_rising 0 (names_in l.names)
