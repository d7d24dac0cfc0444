use mathlib.Core.Path.{sym, ◌∙◌}
use Rattle.values.proofs.HeadLaws.{head-asked}
use Rattle.values.proofs.head_right.Goals as goal

pub returns-then-not-front_right : goal.returns-then-not-front_right
returns-then-not-front_right c = let a = c.args in sym (head-asked a.n a.i a.row.now ∙ rw (sym c.front_right.ensures ∙ c.if-not-front_right.true))

pub returns-then-not-list_right : goal.returns-then-not-list_right
returns-then-not-list_right c =
    let a = c.args in
    sym (head-asked a.n a.i a.row.now ∙ rw (sym c.front_right.ensures ∙ c.if-not-front_right.false, sym c.list_right.ensures ∙ c.if-not-list_right.true))

pub returns : goal.returns
returns c =
    let a = c.args in
    sym (head-asked a.n a.i a.row.now ∙ rw (sym c.front_right.ensures ∙ c.if-not-front_right.false, sym c.list_right.ensures ∙ c.if-not-list_right.false, ← c.back_right.ensures))
