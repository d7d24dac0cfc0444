use Rattle.protocol.specs.Calls.{answers}
use Rattle.verdicts.proofs.judged.Goals as goal

pub returns : goal.returns
unfolding answers
returns c = c.told.ensures _ c.gather.ensures
