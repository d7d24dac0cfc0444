use mathlib.Core.Path.{◌∙◌, ap}
use borrow.Author.Tests.{eq-eqb, ne_eqb}
use Rattle.fields.specs.Layout.{get, link, link_of}
use Rattle.linking.specs.Linking.{behind}
use Rattle.admit.proofs.row_behind.Goals as goal

pub returns-then-p-eq0 : goal.returns-then-p-eq0
unfolding behind
returns-then-p-eq0 c = rw (eq-eqb _ _ c.if-p-eq0.true)

pub returns : goal.returns
unfolding behind link_of
returns c = rw (ne_eqb _ _ c.if-p-eq0.false) (c.link.ensures ∙ ap (get link) c.row_of.ensures.0)
