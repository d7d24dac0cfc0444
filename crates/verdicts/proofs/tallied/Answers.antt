use Rattle.protocol.specs.Calls.{answers}
use Rattle.verdicts.proofs.tallied.Goals as goal

pub returns : goal.returns
unfolding answers
returns c = c.tally_of.ensures _ c.gather.ensures
