use Rattle.windows.proofs.HeadLaws.{field_at}
use Rattle.windows.specs.Visits.{head_right}
use Rattle.window.specs.Windows.{size, start}
use Rattle.blocks.specs.Blocks.{block}
use Rattle.fields.specs.Layout.{get}
use native.Mathlib.Omega.{arith}
use mathlib.Core.Path.{◌≡◌, ◌∙◌}
use Rattle.windows.proofs.Window.head_right.Goals as goal

pub returns : goal.returns
unfolding head_right get size start
returns c =
    let x = c.args.x in
    let records = c.args.self.records.now in
    let a : c.u8_at-size.result ≡ get size (block 0 36 x records) = c.u8_at-size.ensures ∙ field_at records x 1 1 c.requires.0 (omega arith) in
    let b : c.u16_at.result ≡ get start (block 0 36 x records) = c.u16_at.ensures ∙ field_at records x 2 2 c.requires.0 (omega arith) in
    rw (c.both.ensures, c.both-some.ensures, a, b)
