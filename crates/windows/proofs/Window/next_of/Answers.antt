use Rattle.windows.proofs.HeadLaws.{field_at}
use Prim.Native.Nat.{ℕ, ◌-◌, ◌*◌, ◌+◌}
use mathlib.Core.Path.{◌≡◌, ◌∙◌, ap}
use native.Mathlib.Omega.{arith}
use Rattle.octets.specs.Bytes.{number, part}
use Rattle.fields.specs.Layout.{get}
use Rattle.window.specs.Windows.{younger}
use Rattle.windows.proofs.Window.next_of.Goals as goal

pub returns : goal.returns
unfolding get younger
returns c =
    let e : (c.args.x - 1) * 36 ≡ (c.args.x - 1) * 36 + 0 = omega arith in
    c.u8_at.ensures ∙ ap (λ (a : ℕ). number (part a 1 c.args.self.records.now)) e ∙ field_at c.args.self.records.now c.args.x 0 1 c.requires.0 (omega arith)
