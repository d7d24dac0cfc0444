use mathlib.Core.Path.{◌∙◌, ap}
use Rattle.protocol.specs.Rows.{enrolled_row}
use Rattle.enroll.proofs.check_row.Goals as goal

pub returns : goal.returns
returns c = c.enroll_row.ensures ∙ ap (enrolled_row _ _) c.mark_others.ensures
