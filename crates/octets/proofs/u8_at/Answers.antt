use mathlib.Core.Path.{sym}
use Rattle.octets.proofs.CodeLaws.{number-one}
use Rattle.octets.proofs.u8_at.Goals as goal

pub returns : goal.returns
returns c = sym (number-one _ _)
