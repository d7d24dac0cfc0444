use Rattle.table.specs.WellFormed.{limit}
use Rattle.values.proofs.head_numbers.Goals as goal

pub returns : goal.returns
unfolding limit
returns c =
    rw (c.both.ensures, c.epoch.ensures, c.both-linked.ensures, c.link.ensures, c.between-named.ensures, c.name.ensures)
