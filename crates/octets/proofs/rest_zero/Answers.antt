use Rattle.octets.proofs.CodeLaws.{first_one}
use Rattle.octets.proofs.rest_zero.Goals as goal

pub returns : goal.returns
returns c = first_one c.args.at c.args.s.now c.requires c.u64_at.ensures c.u8_at.ensures
