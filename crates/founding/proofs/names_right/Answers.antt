use mathlib.Core.Path.{◌≡◌, sym, ◌∙◌, ap}
use mathlib.Core.Bool.{◌&&◌}
use Prim.Native.Nat.{ℕ, ◌/◌, ◌%◌}
use native.Mathlib.Omega.{arith}
use borrow.Author.Tests.{eq-eqb, ne_eqb, eqb-true}
use lib.Dec.{eqb}
use lib.ListN.{length}
use Rattle.table.specs.WellFormed.{between}
use Rattle.protocol.specs.Calls.{names_in}
use Rattle.laying.proofs.NameLaws.{names-even}
use Rattle.founding.proofs.names_right.Goals.{Joined-names-eq0, then-names-eq0, else-names-eq0}
use Rattle.founding.proofs.names_right.Goals as goal

-- the tests of their number
counted : (c : Joined-names-eq0) → let names = c.args.names.now in c.if-names-eq0.value ≡ (eqb (length names % 2) 0 && between 1 (length (names_in names)) 64)
counted c =
    let names = c.args.names.now in
    elim c.if-names-eq0.branch [
      | then-names-eq0 w ↦
          let half : length names / 2 ≡ length (names_in names) = omega (arith, w.if-names-eq0.true, names-even names (omega arith)) in
          rw (eq-eqb (length names % 2) 0 w.if-names-eq0.true) (w.value-is ∙ w.between.ensures ∙ ap (λ (n : ℕ). between 1 n 64) half)
      | else-names-eq0 w ↦ let e = ne_eqb (length names % 2) 0 w.if-names-eq0.false in rw e (w.value-is ∙ e)
    ]

pub names_rise-requires : goal.names_rise-requires
names_rise-requires c =
    elim c.if-names-eq0.branch [
      | then-names-eq0 w ↦ names-even c.args.names.now (omega (arith, w.if-names-eq0.true))
      | else-names-eq0 w ↦ absurd (w.if-names-eq0.false (eqb-true (length c.args.names.now % 2) 0 (sym w.value-is ∙ c.if-between.true)))
    ]

pub returns-then-between : goal.returns-then-between
returns-then-between c = rw (sym (counted (goal.at.returns-then-between c).Joined-names-eq0) ∙ c.if-between.true) c.names_rise.ensures

pub returns-else-between : goal.returns-else-between
returns-else-between c = rw (sym (counted (goal.at.returns-else-between c).Joined-names-eq0) ∙ c.if-between.false) c.if-between.false
