use native.Mathlib.Omega.{arith}
use Rattle.surveys.proofs.SurveyLaws.{whole_in}
use Rattle.surveys.proofs.has_whole.Goals as goal

pub returns : goal.returns
returns c =
    whole_in c.args.list.members c.args.s.bits _ _ _ _ (omega arith) c.both.ensures c.is_empty.ensures c.is_empty-2.ensures c.outside.ensures
