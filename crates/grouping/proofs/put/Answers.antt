use mathlib.Core.Path.{◌∙◌, ap}
use Prim.Native.Nat.{ℕ, ◌+◌, ◌-◌}
use native.Mathlib.Nat.{mod-eq_of_lt}
use native.Mathlib.Omega.{arith}
use lib.ListN.{get_or}
use Rattle.sets.specs.Sets.{has, gaining}
use Rattle.grouping.proofs.GroupLaws.{one_more}
use Rattle.grouping.proofs.put.Goals as goal

pub returns-then-county-ne0 : goal.returns-then-county-ne0
returns-then-county-ne0 c =
    let some = c.if-county-ne0.true in
    let j = c.args.county - 1 in
    λ y here f. one_more y c.args.k _ f c.requires.0 j c.add-grown.result.bits (omega (arith, c.requires.1)) (here ∙ omega arith)
    (c.add-grown.ensures ∙ ap (λ (x : ℕ). gaining (has (get_or c.args.sets.now j 0)) (x + 1)) (mod-eq_of_lt c.requires.0))
