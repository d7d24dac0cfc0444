use native.Mathlib.Omega.{arith}
use Rattle.octets.proofs.CodeLaws.{number-halves}
use Rattle.octets.proofs.u64_at.Goals as goal

pub returns : goal.returns
returns c = let a = c.args in number-halves 4 a.at a.s.now (omega arith) c.u32_at.ensures c.u32_at-2.ensures
