use Rattle.windows.proofs.OrderLaws.{in_row, in-ring}
use Rattle.bools.proofs.BoolLaws.{and_l, and_r, clash}
use borrow.Author.Tests.{eqb-true}
use lib.Dec.{eqb}
use native.Mathlib.Omega.{arith}
use mathlib.Core.Bool.{true, ◌&&◌}
use mathlib.Core.Path.{◌≡◌, sym, ◌∙◌}
use Rattle.windows.proofs.Window.in_order.Goals as goal

pub returns-then-self-eq1 : goal.returns-then-self-eq1
returns-then-self-eq1 c t =
    let e : (eqb c.args.breaks 1 && eqb c.next_of-last.result 0) ≡ true = sym c.both.ensures ∙ t in
    in_row c.args.self.oldest c.args.k _ c.requires.1 c.if-self-eq1.true (sym c.requires.2 ∙ eqb-true _ 1 (and_l _ _ e)) (sym c.next_of-last.ensures ∙ eqb-true _ 0 (and_r (eqb c.args.breaks 1) _ e))

pub returns-then-k-self : goal.returns-then-k-self
returns-then-k-self c t = absurd (clash t)

pub returns : goal.returns
returns c t =
    let e : (eqb c.args.breaks 2 && c.both-ends.result) ≡ true = sym c.both-2.ensures ∙ t in
    let f : (eqb c.next_of-last.result 1 && eqb c.next_of.result 0) ≡ true = sym c.both-ends.ensures ∙ and_r (eqb c.args.breaks 2) _ e in
    in-ring c.args.self.oldest c.args.k _ c.requires.1 (omega (arith, c.requires.0, c.if-self-eq1.false)) (omega (arith, c.if-k-self.false)) (sym c.requires.2 ∙ eqb-true _ 2 (and_l _ _ e))
    (sym c.next_of-last.ensures ∙ eqb-true _ 1 (and_l _ _ f)) (sym c.next_of.ensures ∙ eqb-true _ 0 (and_r (eqb c.next_of-last.result 1) _ f))
