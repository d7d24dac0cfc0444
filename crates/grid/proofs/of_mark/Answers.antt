use mathlib.Core.Logic.{inl, inr}
use mathlib.Core.Path.{◌∙◌, ap}
use native.Mathlib.Omega.{arith}
use Rattle.grid.specs.Sizes.{new_five, exchanged}
use Rattle.grid.proofs.SizeLaws.{by-five, by-tall, by-published}
use Rattle.grid.proofs.of_mark.Goals.{in_default-via-in-1+else-length-eq5, in_default-via-in_default-1}
use Rattle.grid.proofs.of_mark.Goals as goal

pub returns-in-2 : goal.returns-in-2
returns-in-2 c = let a = c.args in c.exchanged.ensures ∙ ap exchanged c.published.ensures ∙ by-tall a.mark a.length c.in-2.is

pub returns-in-1 : goal.returns-in-1
unfolding new_five
returns-in-1 c = by-five c.args.mark c.args.length c.in-1.is c.if-length-eq5.true

pub returns-in_default : goal.returns-in_default
returns-in_default c =
    let a = c.args in
    c.published-in_default.ensures
    ∙ elim c.in_default.branch [
      | in_default-via-in-1+else-length-eq5 w ↦ by-published a.mark a.length (λ e. omega arith) (inr w.if-length-eq5.false)
      | in_default-via-in_default-1 w ↦ by-published a.mark a.length (λ e. omega arith) (inl (λ e. grind arith, λ e. grind arith))
    ]
