use mathlib.Core.Path.{◌≡◌}
use mathlib.Core.List.{◌++◌}
use lib.ListN.{length, drop}
use Rattle.telling.specs.Text.{decimal}
use Rattle.notices.proofs.figures.Given as goal

abbrev pub invariant-loop-i : goal.invariant-loop-i
invariant-loop-i l = (length l.s ≡ length l.initial.s) × (decimal l.i l.left ++ drop l.i l.s ≡ decimal (length l.initial.s) l.v)
