use mathlib.Core.Path.{sym, ◌∙◌}
use borrow.Author.Tests.{eq-eqb, ne_eqb}
use Rattle.values.proofs.HeadLaws.{back-asked}
use Rattle.values.proofs.back_right.Goals as goal

pub returns-then-u8_at-ne0 : goal.returns-then-u8_at-ne0
returns-then-u8_at-ne0 c =
    sym (back-asked c.args.row.now c.requires ∙ rw (← c.u8_at.ensures, ne_eqb c.u8_at.result 0 c.if-u8_at-ne0.true))

pub returns-then-u16_at-ne0 : goal.returns-then-u16_at-ne0
returns-then-u16_at-ne0 c =
    sym (back-asked c.args.row.now c.requires ∙ rw (← c.u8_at.ensures, eq-eqb c.u8_at.result 0 c.if-u8_at-ne0.false, ← c.u16_at.ensures, ne_eqb c.u16_at.result 0 c.if-u16_at-ne0.true))

pub returns : goal.returns
returns c =
    sym (back-asked c.args.row.now c.requires
    ∙ rw (← c.u8_at.ensures, eq-eqb c.u8_at.result 0 c.if-u8_at-ne0.false, ← c.u16_at.ensures, eq-eqb c.u16_at.result 0 c.if-u16_at-ne0.false, ← c.u32_at.ensures, ← c.is_county.ensures))
