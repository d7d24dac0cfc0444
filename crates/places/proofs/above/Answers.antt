use mathlib.Core.Path.{ap, ◌∙◌}
use lib.Dec.{ltb}
use Rattle.places.proofs.BestLaws.{above-is}
use Rattle.places.specs.Places.{placed}
use Rattle.sets.specs.Sets.{has}
use Rattle.places.proofs.above.Goals as goal

pub returns : goal.returns
returns c =
    let a = c.args in
    ap (ltb a.v) c.best.ensures.value ∙ above-is (has a.s.bits) (placed a.values.now) a.v
