use mathlib.Core.Path.{◌∙◌}
use native.Mathlib.Omega.{arith}
use Rattle.windows.proofs.HeadLaws.{by-none}
use Rattle.windows.proofs.window_right.Goals as goal

pub returns-then-oldest-eq0 : goal.returns-then-oldest-eq0
returns-then-oldest-eq0 c = c.all_zero.ensures ∙ by-none c.args.file c.args.version c.args.oldest c.args.records.now c.if-oldest-eq0.true

pub records_right-requires : goal.records_right-requires
records_right-requires c = omega (arith, c.if-oldest-eq0.false)

pub returns : goal.returns
returns c = c.records_right.ensures
