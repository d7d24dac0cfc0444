use Rattle.sheets.proofs.CodeLaws.{Added}
use Rattle.sheets.proofs.taken.Given as goal

abbrev pub invariant-loop-x : goal.invariant-loop-x
invariant-loop-x l = Added l.s l.x l.right l.taken
