use mathlib.Core.Path.{refl}
use native.Mathlib.Omega.{arith}
use Rattle.straight.specs.Straight.{numbered}
use Rattle.straight.proofs.RowLaws.{numbered_more}
use Rattle.straight.proofs.number.Goals as goal

pub loop-k-init : goal.loop-k-init
unfolding numbered
loop-k-init c = (refl, refl)

pub loop-k-preserved : goal.loop-k-preserved
loop-k-preserved c = let l = c.loop-k in (omega (arith, l.invariant.0), numbered_more _ _ l.k _ l.invariant.1 (omega (arith, l.invariant.0)))
