use mathlib.Core.Logic.{inl, inr}
use native.Mathlib.Omega.{arith}
use borrow.Author.Tests.{le-leb, lt-leb}
use Prim.Native.Nat.{◌≤◌}
use Rattle.grid.specs.Sizes.{root, root_up, published, no_grid}
use Rattle.grid.proofs.published.Goals as goal

pub returns-then-length-eq0 : goal.returns-then-length-eq0
unfolding published no_grid root root_up
returns-then-length-eq0 c = elim c.then-length-eq0.either [ inl e ↦ rw e | inr h ↦ rw (lt-leb c.args.length 64 h.1) ]

pub returns : goal.returns
returns c =
    let n = c.args.length in
    let few : n ≤ 64 = omega arith in
    rw (le-leb n 64 few) c.entry.ensures
