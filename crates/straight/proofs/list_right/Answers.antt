use mathlib.Core.Path.{sym, ◌∙◌, ap}
use native.Mathlib.Omega.{arith}
use Rattle.fields.specs.declared.Laid.{Laid}
use Rattle.fields.specs.Layout.{list}
use Rattle.counties.specs.Marks.{mark_right}
use Rattle.grouping.specs.Grouped.{county_by}
use Rattle.table.specs.WellFormed.{limit, only_rows}
use Rattle.straight.proofs.list_right.Goals as goal

pub returns : goal.returns
unfolding limit list
returns c =
    λ e. (
      omega (arith, c.epoch.ensures),
      ap (λ (x : Laid). only_rows c.args.n x.members) (sym c.list-own.ensures) ∙ sym c.only_rows.ensures ∙ c.if-not-only_rows.false,
      ap (mark_right (county_by c.args.counties.now)) (sym c.list-own.ensures) ∙ sym c.mark_right.ensures ∙ e,
    )
