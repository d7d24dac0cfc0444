use mathlib.Core.Path.{sym, ◌∙◌}
use Rattle.table.proofs.WellFormedLaws.{by_size, by_rows}
use Rattle.table.specs.Asked.{Sized}
use Rattle.wellformed.proofs.RowLaws.{sized-by}
use Rattle.wellformed.proofs.own_form.Goals.{Else-not-sized}
use Rattle.wellformed.proofs.own_form.Goals as goal

sized-here : (c : Else-not-sized) → Sized c.args.t.now
sized-here c = sized-by _ (sym c.sized.ensures ∙ c.if-not-sized.false)

pub returns-then-not-sized : goal.returns-then-not-sized
returns-then-not-sized c = by_size _ (sym c.sized.ensures ∙ c.if-not-sized.true)

pub returns-then-not-rows_right : goal.returns-then-not-rows_right
returns-then-not-rows_right c = by_rows _ (sized-here (goal.at.returns-then-not-rows_right c).Else-not-sized) (sym c.rows_right.ensures ∙ c.if-not-rows_right.true)
