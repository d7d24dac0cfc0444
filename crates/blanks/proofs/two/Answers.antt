use mathlib.Core.Path.{◌≡◌, ◌∙◌, ap}
use mathlib.Core.Bool.{◌&&◌}
use native.Mathlib.Omega.{arith}
use Prim.Native.Nat.{ℕ, ◌+◌, ◌*◌}
use lib.Dec.{eqb}
use lib.ListN.{get_or}
use Rattle.blanks.specs.Blanks.{blank}
use Rattle.blanks.proofs.two.Goals as goal

pub returns : goal.returns
unfolding blank
returns c =
    let a = c.args in
    let e : a.step + a.k ≡ 1 * a.step + a.k = omega arith in
    c.joined.ensures ∙ ap (λ (i : ℕ). eqb (get_or a.s.now a.k 0) 0 && eqb (get_or a.s.now i 0) 0) e
