use mathlib.Core.Path.{◌≡◌, sym, ◌∙◌, ap}
use Prim.Native.Nat.{◌+◌}
use native.Mathlib.Omega.{arith}
use Rattle.bools.proofs.BoolLaws.{clash}
use Rattle.fields.proofs.FieldLaws.{equal, equal-same}
use Rattle.fields.specs.Layout.{list, list_of, is_empty}
use Rattle.table.proofs.WellFormedLaws.{few-rows}
use Rattle.agreement.proofs.AgreeLaws.{join-like, join-listed}
use Rattle.agreement.proofs.joins.Goals.{After-list-last, After-list-own}
use Rattle.agreement.proofs.joins.Goals as goal

-- the lists of row k + 1 and row k
own : (c : After-list-own) → let a = c.args in c.list-own.result ≡ list_of a.t.now (a.k + 1)
unfolding list_of
own c = c.list-own.ensures ∙ ap list c.row_of.ensures.0

last : (c : After-list-last) → let a = c.args in c.list-last.result ≡ list_of a.t.now a.k
unfolding list_of
last c = c.list-last.ensures ∙ ap list c.row_of-then-like.ensures.0

pub overflow_add-k : goal.overflow_add-k
overflow_add-k c = omega (arith, few-rows c.requires.0)

pub returns-then-eq : goal.returns-then-eq
unfolding equal
returns-then-eq c all =
    let like = c.requires.3 c.if-like.true in
    join-like c.args.t.now c.args.k c.args.k (omega (arith, like.0)) like.1 all
    (sym (own (goal.at.returns-then-eq c).After-list-own) ∙ (equal-same _ _).0 (sym c.eq.ensures ∙ c.if-eq.true) ∙ last (goal.at.returns-then-eq c).After-list-last)

pub returns-then-not-is_empty : goal.returns-then-not-is_empty
unfolding equal
returns-then-not-is_empty c all =
    let like = c.requires.3 c.if-like.true in
    c.is_empty-then-not-is_empty.ensures ∙ ap is_empty (own (goal.at.returns-then-not-is_empty c).After-list-own)
    ∙ join-listed c.args.t.now c.args.k c.args.k (omega (arith, like.0)) like.1 all
    (ap is_empty (sym (last (goal.at.returns-then-not-is_empty c).After-list-last)) ∙ sym c.is_empty.ensures ∙ c.if-not-is_empty.true)
    (λ q. clash (sym c.if-eq.false ∙ c.eq.ensures ∙ (equal-same _ _).1 (own (goal.at.returns-then-not-is_empty c).After-list-own ∙ q ∙ sym (last (goal.at.returns-then-not-is_empty c).After-list-last))))
