use mathlib.Core.Path.{◌≡◌, ap}
use Prim.Native.Nat.{ℕ, ◌+◌, ◌-◌}
use native.Mathlib.Omega.{arith}
use lib.ListN.{length, get_or}
use Rattle.grouping.proofs.GroupLaws.{none_filled, places-grouped}
use Rattle.grouping.proofs.of_places.Goals as goal

pub loop-k-init : goal.loop-k-init
loop-k-init c = none_filled _

pub loop-k-preserved : goal.loop-k-preserved
loop-k-preserved c =
    let k = c.loop-k.k in
    let back : k + 1 - 1 ≡ k = omega arith in
    c.put.ensures _ (ap (λ (x : ℕ). get_or c.args.places.now x 0) back) c.loop-k.invariant

pub returns : goal.returns
returns c =
    let l = c.loop-k in
    let e : l.k ≡ length c.args.places.now = omega (arith, l.auto.k-end, c.loop-k-test.false) in
    places-grouped _ _ c.requires.1 (rw e at l.invariant)
