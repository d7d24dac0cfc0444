use Rattle.admit.proofs.AdmitLaws.{block_back}
use Rattle.admit.proofs.add_row.Goals as goal

pub returns : goal.returns
returns c = let n = c.name_row in block_back _ _ _ _ _ c.requires.1 n.auto.row n.ensures
