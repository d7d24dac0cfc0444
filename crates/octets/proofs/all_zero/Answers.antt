use mathlib.Core.Bool.{Bool, ◌&&◌}
use mathlib.Core.Path.{refl, sym, ap, ◌∙◌}
use lib.Dec.{eqb}
use lib.ListN.{get_or}
use lib.Seq.{take_all}
use Rattle.octets.specs.Bytes.{all_zero}
use Rattle.octets.proofs.CodeLaws.{zero-next}
use Rattle.octets.proofs.all_zero.Goals as goal

pub loop-x-init : goal.loop-x-init
unfolding all_zero
loop-x-init c = refl

pub loop-x-preserved : goal.loop-x-preserved
loop-x-preserved c =
    let l = c.loop-x in
    c.joined-bits.ensures ∙ ap (λ (b : Bool). b && eqb (get_or c.args.s.now l.x-index 0) 0) l.invariant
    ∙ sym (zero-next c.args.s.now l.x-index c.loop-x-test.true)

pub returns : goal.returns
returns c =
    let s = c.args.s.now in
    c.loop-x.invariant ∙ ap all_zero (take_all c.loop-x.x-index s c.loop-x-test.false)
