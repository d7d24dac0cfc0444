use mathlib.Core.Path.{sym, ◌∙◌, ap}
use Rattle.sets.specs.Sets.{has}
use Rattle.grouping.proofs.GroupLaws.{all-inside}
use Rattle.grouping.proofs.Counties.in_one.Goals as goal

pub returns-then-there-members : goal.returns-then-there-members
returns-then-there-members c =
    λ e. all-inside c.args.self.now (has c.args.members.bits) c.loop-k.k c.loop-k-test.true (sym c.inside-there.ensures ∙ ap has c.if-there-members.true)
