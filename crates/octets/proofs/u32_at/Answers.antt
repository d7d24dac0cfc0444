use native.Mathlib.Omega.{arith}
use Rattle.octets.proofs.CodeLaws.{number-halves}
use Rattle.octets.proofs.u32_at.Goals as goal

pub returns : goal.returns
returns c = let a = c.args in number-halves 2 a.at a.s.now (omega arith) c.u16_at.ensures c.u16_at-2.ensures
