use mathlib.Core.Path.{◌≡◌, ◌∙◌, ap₂}
use mathlib.Core.Bool.{Bool, ◌&&◌}
use lib.Dec.{eqb}
use Prim.Native.Nat.{ℕ}
use native.Mathlib.Omega.{arith}
use borrow.Author.Rules.{rules}
use Rattle.windows.specs.Visits.{Short}
use Rattle.windows.proofs.ZeroLaws.{quiet_none, quiet-turn, four-tails}
use Rattle.windows.proofs.four_zero.Goals as goal

abbrev both : ℕ → ℕ → Bool
both a b = eqb a 0 && eqb b 0

pub loop-k-init : goal.loop-k-init
loop-k-init c = quiet_none _

pub over-requires : goal.over-requires
unfolding Short
over-requires c = (c.requires.0, omega (arith, c.requires.1), c.requires.1, search rules, c.requires.2 0 (omega arith))

pub over-requires-in-loop-k : goal.over-requires-in-loop-k
unfolding Short
over-requires-in-loop-k c = (c.requires.0, omega (arith, c.requires.1), c.requires.1, search rules, c.requires.2 1 (omega arith))

pub over-requires-in-loop-k-2 : goal.over-requires-in-loop-k-2
unfolding Short
over-requires-in-loop-k-2 c = (c.requires.0, omega (arith, c.requires.1), c.requires.1, search rules, c.requires.2 2 (omega arith))

pub over-requires-in-loop-k-3 : goal.over-requires-in-loop-k-3
unfolding Short
over-requires-in-loop-k-3 c = (c.requires.0, omega (arith, c.requires.1), c.requires.1, search rules, c.requires.2 3 (omega arith))

pub loop-k-preserved : goal.loop-k-preserved
loop-k-preserved c =
    let l = c.loop-k in
    quiet-turn _ l.bits l.k c.joined-bits.result c.joined-low.result c.joined-high.result c.joined.result l.invariant (c.joined-low.ensures ∙ ap₂ both c.over.ensures c.over-in-loop-k.ensures) (c.joined-high.ensures ∙ ap₂ both c.over-in-loop-k-2.ensures c.over-in-loop-k-3.ensures)
    c.joined.ensures c.joined-bits.ensures

pub returns : goal.returns
returns c =
    let e : c.loop-k.k ≡ 32 = omega arith in
    four-tails _ c.loop-k.bits c.requires.1 (rw e at c.loop-k.invariant)
