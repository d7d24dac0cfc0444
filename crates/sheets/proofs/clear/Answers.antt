use Rattle.sheets.proofs.CodeLaws.{none-cleared, one-cleared, all-cleared}
use mathlib.Core.Path.{refl, ◌∙◌}
use native.Mathlib.Omega.{arith}
use Rattle.sheets.proofs.clear.Goals as goal

pub loop-x-init : goal.loop-x-init
loop-x-init c = (refl, none-cleared c.args.s.now)

pub loop-x-preserved : goal.loop-x-preserved
loop-x-preserved c =
    let l = c.loop-x in
    let w = c.store_at in (w.auto.s ∙ l.invariant.0, w.ensures ∙ one-cleared c.args.s.now l.s l.x (l.invariant.0 ∙ c.requires) c.loop-x-test.true l.invariant.1)

pub returns : goal.returns
returns c = let l = c.loop-x in all-cleared c.args.s.now l.s l.x (omega arith) l.invariant.1
