use mathlib.Core.Path.{sym}
use Rattle.fields.proofs.FieldLaws.{list-is}
use Rattle.fields.proofs.list.Goals as goal

pub returns : goal.returns
returns c = sym (list-is _ _ (sym c.members.ensures) (sym c.grid_mark.ensures))
