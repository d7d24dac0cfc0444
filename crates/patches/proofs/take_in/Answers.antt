use mathlib.Core.Path.{◌∙◌, ap}
use Rattle.blocks.specs.Blocks.{with_block}
use Rattle.window.specs.Windows.{record_with}
use Rattle.patches.proofs.take_in.Goals as goal

pub returns : goal.returns
returns c =
    c.enter.ensures ∙ ap (with_block 0 36 c.args.x (λ y. record_with (record { offset = c.args.patch.offset; bytes = c.args.patch.bytes.now }))) c.link.ensures
