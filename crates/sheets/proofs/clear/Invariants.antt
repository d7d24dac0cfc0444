use Rattle.sheets.proofs.CodeLaws.{cleared_to}
use mathlib.Core.Path.{◌≡◌}
use lib.ListN.{length}
use Rattle.sheets.proofs.clear.Given as goal

abbrev pub invariant-loop-x : goal.invariant-loop-x
invariant-loop-x l = (length l.s ≡ length l.initial.s) × (l.s ≡ cleared_to l.x l.initial.s)
