use mathlib.Core.Path.{sym, ◌∙◌}
use borrow.Author.Tests.{le-leb, lt-leb, eq-eqb, ne_eqb}
use Rattle.values.proofs.HeadLaws.{front-asked}
use Rattle.table.specs.WellFormed.{limit}
use Rattle.values.proofs.front_right.Goals as goal

pub returns-then-n-u64_at : goal.returns-then-n-u64_at
returns-then-n-u64_at c =
    sym (front-asked c.args.n c.args.row.now c.requires.0 c.requires.1
    ∙ rw (← c.name.ensures, sym c.between.ensures ∙ c.if-not-between.false, ← c.u64_at.ensures, lt-leb c.u64_at.result c.args.n c.if-n-u64_at.true))

pub returns-then-u16_at-ne0 : goal.returns-then-u16_at-ne0
returns-then-u16_at-ne0 c =
    sym (front-asked c.args.n c.args.row.now c.requires.0 c.requires.1
    ∙ rw (← c.name.ensures, sym c.between.ensures ∙ c.if-not-between.false, ← c.u64_at.ensures, le-leb c.u64_at.result c.args.n c.if-n-u64_at.false, ← c.u16_at.ensures, ne_eqb c.u16_at.result 0 c.if-u16_at-ne0.true))

pub returns : goal.returns
unfolding limit
returns c =
    sym (front-asked c.args.n c.args.row.now c.requires.0 c.requires.1
    ∙ rw (← c.name.ensures, sym c.between.ensures ∙ c.if-not-between.false, ← c.u64_at.ensures, le-leb c.u64_at.result c.args.n c.if-n-u64_at.false, ← c.u16_at.ensures, eq-eqb c.u16_at.result 0 c.if-u16_at-ne0.false, ← c.epoch.ensures))
