use mathlib.Core.Path.{refl, ◌∙◌}
use native.Mathlib.Omega.{arith}
use Rattle.protocol.specs.Calls.{names_in}
use Rattle.laying.proofs.NameLaws.{name-at}
use Rattle.founding.proofs.FoundingLaws.{rise-turn, rise-end}
use Rattle.founding.proofs.names_rise.Goals as goal

pub loop-i-init : goal.loop-i-init
loop-i-init c = refl

pub u16_at-x-requires : goal.u16_at-x-requires
u16_at-x-requires c = omega arith

pub loop-i-preserved : goal.loop-i-preserved
loop-i-preserved c =
    let l = c.loop-i in
    let names = c.args.names.now in
    let x = c.u16_at-x in
    rise-turn (names_in names) l.i l.low l.ok l.invariant x.result c.both-ok.result (omega (arith, c.requires)) (x.ensures ∙ name-at l.i names (omega (arith, c.requires))) (omega arith) c.both-ok.ensures

pub returns : goal.returns
returns c =
    let l = c.loop-i in
    rise-end (names_in c.args.names.now) l.i l.low l.ok l.invariant (omega (arith, c.requires))
