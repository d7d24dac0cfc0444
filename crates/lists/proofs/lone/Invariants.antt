use mathlib.Core.Path.{◌≡◌}
use lib.ListN.{length, take}
use Rattle.counties.specs.Levels.{seats}
use Rattle.sets.specs.Sets.{has}
use Rattle.lists.proofs.lone.Given as goal

-- no member stands among the first j
abbrev pub invariant-loop-j : goal.invariant-loop-j
invariant-loop-j l = length (seats (take l.j l.chain) (has l.members.bits)) ≡ 0
