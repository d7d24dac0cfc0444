use mathlib.Core.Bool.{Bool, true, cond}
use mathlib.Core.Path.{◌≡◌, sym, ◌∙◌, ap}
use native.Mathlib.Omega.{arith}
use borrow.Author.Tests.{leb-true}
use lib.Dec.{leb}
use Rattle.table.specs.WellFormed.{between}
use Rattle.bools.proofs.BoolLaws.{and_r}
use Rattle.turns.proofs.bytes_in.Goals as goal

pub returns-then-between : goal.returns-then-between
unfolding between
returns-then-between c =
    let a = c.args in
    let e : between 1 a.count 8 ≡ true = sym c.between.ensures ∙ c.if-between.true in
    (ap (λ (b : Bool). cond b a.count 0) (sym e), leb-true a.count 8 (and_r (leb 1 a.count) _ e))

pub returns-else-between : goal.returns-else-between
returns-else-between c = let a = c.args in (ap (λ (b : Bool). cond b a.count 0) (sym c.if-between.false ∙ c.between.ensures), omega arith)
