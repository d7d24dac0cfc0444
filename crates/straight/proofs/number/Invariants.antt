use mathlib.Core.Path.{◌≡◌}
use Rattle.straight.specs.Straight.{numbered}
use Rattle.straight.proofs.number.Given as goal

abbrev pub invariant-loop-k : goal.invariant-loop-k
invariant-loop-k l = (l.next ≡ l.k) × (l.places ≡ numbered l.initial.places l.k)
