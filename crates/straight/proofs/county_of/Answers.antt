use mathlib.Core.Path.{sym, ◌∙◌, ap}
use native.Mathlib.Omega.{arith}
use Prim.Native.Nat.{ℕ, ◌+◌, ◌-◌, ◌%◌}
use Rattle.sets.specs.Sets.{has}
use Rattle.fields.specs.Layout.{get, members}
use Rattle.straight.proofs.RowLaws.{place, county-is, county-few, county-rest}
use Rattle.straight.proofs.county_of.Goals as goal

pub overflow_cast-result : goal.overflow_cast-result
overflow_cast-result c =
    omega (arith, county-few c.args.row.now _ c.requires.2 c.u32_at-wide.ensures (sym c.u16_at-2.ensures ∙ c.if-u16_at-ne0-2.false) (sym c.is_county.ensures ∙ c.if-is_county.true), county-is c.args.row.now _ c.requires.2 c.u32_at-wide.ensures (sym c.u16_at-2.ensures ∙ c.if-u16_at-ne0-2.false) (sym c.is_county.ensures ∙ c.if-is_county.true))

pub returns-then-is_county : goal.returns-then-is_county
returns-then-is_county c =
    let z = sym c.u16_at-2.ensures ∙ c.if-u16_at-ne0-2.false in
    let y = sym c.is_county.ensures ∙ c.if-is_county.true in (
      record {
        link = c.leads_on.ensures (c.if-not-leads_on.false);
        gap = sym c.u16_at.ensures ∙ c.if-u16_at-ne0.false;
        own =
            ap (λ (i : ℕ). has (get members c.args.row.now) i) (sym (place c.args.i (omega arith)))
            ∙ ap (λ (b : ℕ). has b ((c.args.i - 1) % 64 + 1)) (sym c.members.ensures) ∙ sym c.at.ensures ∙ c.if-not-at.false;
        rest = county-rest c.args.row.now _ c.requires.2 c.u32_at-wide.ensures z y;
        placed = county-few c.args.row.now _ c.requires.2 c.u32_at-wide.ensures z y;
      },
      county-is c.args.row.now _ c.requires.2 c.u32_at-wide.ensures z y,
    )
