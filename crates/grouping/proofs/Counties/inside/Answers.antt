use mathlib.Core.Path.{◌∙◌}
use Rattle.sets.specs.Sets.{has}
use Rattle.grouping.proofs.GroupLaws.{inside_is}
use Rattle.grouping.proofs.Counties.inside.Goals as goal

pub returns : goal.returns
returns c = rw (← c.self.view_is) (c.cut.ensures ∙ inside_is c.self.inside.sets.now (has c.args.members.bits) c.args.k c.requires c.self.invariant)
