use Rattle.table.specs.WellFormed.{head_values, county_right, head_right}
use borrow.Author.Tests.{lt-leb}
use native.Mathlib.Omega.{arith}
use mathlib.Core.Path.{◌≡◌, sym, ◌∙◌}
use Rattle.values.proofs.former_head_right.Goals.{After-both}
use Rattle.values.proofs.former_head_right.Goals as goal

-- the values were tested together
values-are : (c : After-both) → let a = c.args in head_values a.form a.n a.row.now ≡ c.both.result
unfolding head_values
values-are c = rw (c.both.ensures, c.former_zero.ensures, c.head_numbers.ensures)

pub returns-then-not-both : goal.returns-then-not-both
unfolding head_right
returns-then-not-both c = rw (values-are (goal.at.returns-then-not-both c).After-both ∙ c.if-not-both.true)

pub returns-then-not-list_right : goal.returns-then-not-list_right
unfolding head_right
returns-then-not-list_right c =
    rw (values-are (goal.at.returns-then-not-list_right c).After-both ∙ c.if-not-both.false, sym c.list_right.ensures ∙ c.if-not-list_right.true)

-- no form before 5 has counties
pub returns : goal.returns
unfolding head_right county_right
returns c =
    rw (
      values-are (goal.at.returns c).After-both ∙ c.if-not-both.false,
      sym c.list_right.ensures ∙ c.if-not-list_right.false,
      lt-leb 5 c.args.form (omega (arith, c.requires.0)),
    ) c.plain_right.ensures
