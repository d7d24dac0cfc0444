use Rattle.moves.proofs.MoveLaws.{row_made}
use Rattle.moves.proofs.carry_row.Goals as goal

pub returns : goal.returns
returns c =
    row_made c.args.new.now c.args.row.now _ _ c.args.end c.requires.0 c.requires.1 c.requires.2 c.carry_front.ensures c.fill.ensures
