use mathlib.Core.Path.{◌∙◌, ap}
use Prim.Native.Nat.{◌-◌, ◌*◌}
use native.Mathlib.Omega.{arith}
use lib.ListN.{length}
use Rattle.octets.proofs.CodeLaws.{part_length}
use Rattle.fields.specs.Layout.{store}
use Rattle.window.specs.Windows.{width, younger}
use Rattle.window.proofs.PatchLaws.{relinked-long}
use Rattle.patches.proofs.RecordLaws.{with_none, lent-record}
use Rattle.patches.proofs.link.Goals as goal

pub returns-then-l-eq0 : goal.returns-then-l-eq0
returns-then-l-eq0 c = with_none c.args.l _ _ c.if-l-eq0.true

pub relink-requires : goal.relink-requires
relink-requires c = part_length ((c.args.l - 1) * 36) 36 c.args.records.now (omega (arith, c.if-l-eq0.false, c.requires.0, c.requires.1))

pub returns : goal.returns
unfolding width
returns c =
    lent-record c.args.records.now _ c.args.l (store younger c.args.x) (omega (arith, c.if-l-eq0.false)) c.relink.ensures
    (ap length c.relink.ensures ∙ relinked-long c.args.x _ (part_length ((c.args.l - 1) * 36) 36 c.args.records.now (omega (arith, c.if-l-eq0.false, c.requires.0, c.requires.1))))
