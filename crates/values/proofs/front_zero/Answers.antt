use Rattle.octets.proofs.CodeLaws.{zero-numbers}
use Rattle.values.proofs.front_zero.Goals as goal

pub returns : goal.returns
returns c = rw (c.both.ensures, c.u8_at.ensures, c.u64_at.ensures) (zero-numbers 3 8 1 _)
