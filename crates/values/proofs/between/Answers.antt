use Rattle.table.specs.WellFormed.{between}
use Rattle.values.proofs.between.Goals as goal

pub returns : goal.returns
unfolding between
returns c = c.both.ensures
