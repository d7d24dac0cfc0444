use Rattle.sets.specs.Sets.{has}
use Rattle.sets.proofs.SetLaws.{has-shift}
use Rattle.columns.proofs.ColumnLaws.{first-row}
use Rattle.columns.proofs.with_first.Goals as goal

pub returns : goal.returns
returns c =
    let a = c.args in
    rw (
      c.outside-2.ensures,
      c.outside.ensures,
      c.joined-2.ensures,
      c.cut.ensures,
      c.joined.ensures,
      c.cut-row.ensures,
      c.cut-seats.ensures,
      c.first-2.ensures,
      c.first.ensures,
    )
    (first-row a.columns a.length (has a.set.bits) _ (has-shift a.set.bits a.columns) c.requires.0 c.requires.1 _ _ _ c.requires.2)
