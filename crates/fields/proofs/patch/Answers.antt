use mathlib.Core.Path.{refl}
use Prim.Native.Nat.{◌+◌}
use lib.ListN.{length}
use Rattle.fields.specs.Layout.{store_contents}
use Rattle.octets.proofs.CodeLaws.{part-back}
use Rattle.fields.proofs.patch.Goals as goal

pub returns : goal.returns
unfolding store_contents
returns c =
    let a = c.args in
    part-back (12 + a.offset) (length a.bytes.now) a.copy.now _ a.bytes.now c.copy.ensures refl
