use mathlib.Core.Path.{sym, ◌∙◌}
use native.Mathlib.Omega.{arith}
use borrow.Author.Tests.{eqb-true}
use Rattle.fields.specs.Layout.{list}
use Rattle.straight.proofs.RowLaws.{mark-is, mark-rest}
use Rattle.straight.proofs.has_list.Goals as goal

pub returns : goal.returns
unfolding list
returns c =
    let row = c.args.row.now in
    λ e.
    let q = sym c.u16_at.ensures ∙ eqb-true _ _ e in (
      sym c.epoch.ensures ∙ c.if-epoch-since.false,
      (λ i. record { members = (sym c.members.ensures ∙ c.if-members-laid.false) i; mark = mark-is row _ c.requires (omega arith) q i }),
      mark-rest row _ c.requires (omega arith) q,
    )
