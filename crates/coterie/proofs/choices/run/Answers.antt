use native.Mathlib.Omega.{arith}
use Rattle.coterie.proofs.TurnLaws.{run_is}
use Rattle.coterie.proofs.choices.run.Goals as goal

pub returns : goal.returns
returns c = let a = c.args in run_is _ a.at a.n (omega arith) c.first-set.ensures
