use Rattle.protocol.specs.Calls.{in_group}
use Rattle.questions.proofs.in_group.Goals as goal

pub returns : goal.returns
unfolding in_group
returns c = rw (c.between.ensures, c.files.ensures)
