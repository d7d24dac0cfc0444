use mathlib.Core.Path.{◌∙◌, ap}
use Prim.Native.Nat.{ℕ}
use native.Mathlib.Omega.{arith}
use lib.Dec.{eqb}
use Rattle.fields.specs.Layout.{get}
use Rattle.window.specs.Windows.{size}
use Rattle.windows.proofs.HeadLaws.{field_at}
use Rattle.patches.proofs.is_unused.Goals as goal

pub returns : goal.returns
unfolding get size
returns c = ap (λ (n : ℕ). eqb n 0) (c.u8_at.ensures ∙ field_at c.args.w.records.now c.args.x 1 1 c.requires.0 (omega arith))
