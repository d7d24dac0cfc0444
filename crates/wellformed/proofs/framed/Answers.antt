use mathlib.Core.Bool.{true, ◌&&◌}
use mathlib.Core.Path.{◌≡◌, refl, sym, ◌∙◌}
use mathlib.Core.Logic.{inl, inr}
use Rattle.bools.proofs.BoolLaws.{clash}
use Rattle.table.proofs.WellFormedLaws.{by_chain, by-lists, by-unused}
use Rattle.table.specs.WellFormed.{visits_each, names_rise}
use Rattle.wellformed.proofs.framed.Goals.{Else-not-follow}
use Rattle.wellformed.proofs.framed.Goals as goal

-- the chain was found right
chain-right : (c : Else-not-follow) → let t = c.args.t.now in
    (visits_each t && names_rise t) ≡ true
chain-right c = sym c.follow.ensures.0 ∙ c.if-not-follow.false

pub returns-then-not-follow : goal.returns-then-not-follow
returns-then-not-follow c = (by_chain _ c.requires (sym c.follow.ensures.0 ∙ c.if-not-follow.true), λ e. absurd (clash e), c.follow.ensures.2, inr refl)

pub returns-then-not-lists_right : goal.returns-then-not-lists_right
returns-then-not-lists_right c =
    (by-lists _ c.requires (chain-right (goal.at.returns-then-not-lists_right c).Else-not-follow) (sym c.lists_right.ensures ∙ c.if-not-lists_right.true), λ z. absurd (clash z), c.follow.ensures.2, inl c.group.ensures)

pub returns : goal.returns
returns c = (
  c.unused_zero.ensures ∙ by-unused _ c.requires (chain-right (goal.at.returns c).Else-not-follow) (sym c.lists_right.ensures ∙ c.if-not-lists_right.false),
  λ _. (c.follow.ensures.1 (c.if-not-follow.false), c.group.ensures),
  c.follow.ensures.2,
  inl c.group.ensures,
)
