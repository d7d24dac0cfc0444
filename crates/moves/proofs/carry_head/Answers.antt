use Rattle.moves.proofs.MoveLaws.{head-made}
use Rattle.moves.proofs.carry_head.Goals as goal

pub returns : goal.returns
returns c =
    head-made c.args.dest.now c.args.t.now _ _ c.args.form c.requires.0 c.requires.1 c.copy.ensures c.store_at.ensures
