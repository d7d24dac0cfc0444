use mathlib.Core.Path.{◌∙◌, ap}
use Prim.Native.Nat.{◌-◌, ◌*◌}
use native.Mathlib.Omega.{arith}
use lib.ListN.{length}
use Rattle.octets.proofs.CodeLaws.{part_length}
use Rattle.window.specs.Windows.{width, record_with}
use Rattle.window.proofs.PatchLaws.{record-long}
use Rattle.patches.proofs.RecordLaws.{lent-record}
use Rattle.patches.proofs.enter.Goals as goal

pub write_record-requires : goal.write_record-requires
write_record-requires c = (part_length ((c.args.x - 1) * 36) 36 c.args.records.now (omega (arith, c.requires.0, c.requires.1)), c.requires.2)

pub returns : goal.returns
unfolding width
returns c =
    lent-record c.args.records.now _ c.args.x (λ y. record_with (record { offset = c.args.patch.offset; bytes = c.args.patch.bytes.now })) c.requires.1.0 c.write_record.ensures
    (ap length c.write_record.ensures ∙ record-long (record { offset = c.args.patch.offset; bytes = c.args.patch.bytes.now }) c.requires.2)
