use Rattle.surveys.proofs.SurveyLaws.{Seen}
use Rattle.surveys.proofs.look_through.Given as goal

abbrev pub invariant-loop-k : goal.invariant-loop-k
invariant-loop-k l = Seen l.t l.s.bits l.k l.files l.all
