use Rattle.sheets.proofs.CodeLaws.{counted_of}
use mathlib.Core.Path.{◌∙◌}
use Rattle.sheets.proofs.count_one.Goals as goal

pub returns : goal.returns
returns c =
    c.store_at.ensures ∙ counted_of c.args.s.now c.args.club c.u32_at-count.result c.requires.0 c.requires.1 c.u32_at-count.ensures
