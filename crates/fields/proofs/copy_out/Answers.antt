use mathlib.Core.Path.{refl, sym, ◌∙◌}
use Prim.Native.Nat.{◌+◌, ◌-◌}
use native.Mathlib.Omega.{arith}
use lib.ListN.{length}
use Rattle.fields.specs.Layout.{contents}
use Rattle.octets.proofs.ByteLaws.{part-part}
use Rattle.octets.proofs.CodeLaws.{part-is}
use Rattle.fields.proofs.copy_out.Goals as goal

pub returns : goal.returns
unfolding contents
returns c =
    let a = c.args in
    c.copy.ensures ∙ part-is a.copy.now (12 + a.offset) (length a.to.now) (12 + a.offset) (length a.to.now) refl refl
    ∙ sym (part-part 12 (length a.copy.now - 588) a.offset (length a.to.now) a.copy.now (omega (arith, c.requires)))
