use borrow.Author.Rules.{rules}
use Rattle.table.proofs.WellFormedLaws.{long}
use Rattle.table.proofs.row_of.Goals as goal

pub row_length-requires : goal.row_length-requires
row_length-requires c = let p = c.requires in (long p.0, p.0.header)
