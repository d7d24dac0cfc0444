use mathlib.Core.Path.{◌∙◌, ap}
use Prim.Native.Nat.{ℕ}
use native.Mathlib.Omega.{arith}
use Rattle.octets.proofs.CodeLaws.{part-back, part_length}
use Rattle.telling.specs.Text.{decimal}
use Rattle.telling.proofs.TextLaws.{length-decimal}
use Rattle.notices.proofs.say_number.Goals as goal

pub returns : goal.returns
returns c =
    let a = c.args in
    part-back a.at a.width a.buffer.now _ (decimal a.width a.v)
    (c.figures.ensures ∙ ap (λ (k : ℕ). decimal k a.v) (part_length a.at a.width a.buffer.now (omega arith)))
    (length-decimal a.width a.v)
