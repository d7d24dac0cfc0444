use Rattle.table.specs.WellFormed.{is_county}
use Rattle.values.proofs.is_county.Goals as goal

pub returns : goal.returns
unfolding is_county
returns c = c.between.ensures
