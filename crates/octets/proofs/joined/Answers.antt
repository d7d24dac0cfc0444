use Rattle.octets.proofs.CodeLaws.{or-zero}
use Rattle.octets.proofs.joined.Goals as goal

pub returns : goal.returns
returns c = or-zero c.args.a c.args.b
