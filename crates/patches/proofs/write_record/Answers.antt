use mathlib.Core.Path.{refl, ◌∙◌, ap}
use Prim.Native.Nat.{ℕ}
use lib.ListN.{length}
use Rattle.octets.specs.Bytes.{bytes_of, put}
use Rattle.octets.proofs.CodeLaws.{part-back}
use Rattle.patches.proofs.RecordLaws.{record-made}
use Rattle.patches.proofs.write_record.Goals as goal

pub returns : goal.returns
returns c =
    part-back 4 (length c.args.patch.bytes.now) _ _ c.args.patch.bytes.now c.copy.ensures refl
    ∙ ap (put 4 c.args.patch.bytes.now) (c.store_at-2.ensures ∙ ap (put 2 (bytes_of 2 c.args.patch.offset)) (c.store_at.ensures
    ∙ ap (put 1 (bytes_of 1 (length c.args.patch.bytes.now))) (c.fill.ensures ∙ ap (λ (n : ℕ). bytes_of n 0) c.requires.0)))
    ∙ record-made c.args.patch.offset c.args.patch.bytes.now c.requires.1
