use mathlib.Core.Path.{◌∙◌, ap}
use Prim.Native.Nat.{ℕ}
use native.Mathlib.Omega.{arith}
use Rattle.octets.proofs.ByteLaws.{length-bytes}
use Rattle.octets.proofs.CodeLaws.{part_length, part-back}
use Rattle.octets.specs.Bytes.{bytes_of}
use Rattle.octets.proofs.store_at.Goals as goal

pub returns : goal.returns
returns c =
    let a = c.args in
    part-back a.at a.width a.s.now _ (bytes_of a.width a.v)
    (c.fill.ensures ∙ ap (λ (k : ℕ). bytes_of k a.v) (part_length a.at a.width a.s.now (omega arith)))
    (length-bytes a.width a.v)
