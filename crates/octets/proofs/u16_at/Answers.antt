use native.Mathlib.Omega.{arith}
use Rattle.octets.proofs.CodeLaws.{number-halves}
use Rattle.octets.proofs.u16_at.Goals as goal

pub returns : goal.returns
returns c = let a = c.args in number-halves 1 a.at a.s.now (omega arith) c.u8_at.ensures c.u8_at-2.ensures
