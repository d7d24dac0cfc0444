use Rattle.sheet.specs.Sheet.{all_assured, all_beyond}
use Rattle.sheets.proofs.CodeLaws.{none-added, one-added}
use mathlib.Core.Path.{◌≡◌, sym, ◌∙◌}
use native.Mathlib.Omega.{arith}
use Rattle.sheets.proofs.taken.Goals as goal

pub loop-x-init : goal.loop-x-init
loop-x-init c = none-added c.args.s.now

pub loop-x-preserved : goal.loop-x-preserved
loop-x-preserved c =
    let l = c.loop-x in
    one-added _ l.x l.right l.taken l.invariant _ _ _ _ _ _ c.u32_at.ensures c.u32_at-in-loop-x.ensures c.u32_at-ceiling.ensures (c.max-most.ensures ∙ omega arith) c.both.ensures c.both-right.ensures (omega arith)

pub returns-then-right : goal.returns-then-right
unfolding all_assured all_beyond
returns-then-right c =
    let l = c.loop-x in
    let e : l.x ≡ 16 = omega arith in
    let f = rw e at l.invariant in
    (sym f.right ∙ c.if-right.true, f.taken)
