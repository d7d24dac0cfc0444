use native.Mathlib.Omega.{arith}
use Rattle.sets.specs.Sets.{has}
use Rattle.sets.proofs.UptoLaws.{count-le}
use Rattle.settle.proofs.on_try.Goals as goal

pub overflow_cast-size : goal.overflow_cast-size
overflow_cast-size c = record { fits = omega (arith, c.size.ensures, count-le 64 (has c.args.chosen.bits)) }
