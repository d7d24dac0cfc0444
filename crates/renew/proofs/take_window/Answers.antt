use mathlib.Core.Path.{◌∙◌, ap}
use Prim.Native.Nat.{ℕ}
use Rattle.fields.specs.Layout.{store, oldest}
use Rattle.renew.proofs.SendLaws.{took-over}
use Rattle.renew.proofs.take_window.Goals as goal

pub returns : goal.returns
returns c =
    took-over c.args.copy.now c.args.source.now c.requires.0 c.requires.1 _ _ (c.set_oldest.ensures ∙ ap (λ (n : ℕ). store oldest n c.args.copy.now) c.oldest-oldest.ensures) c.copy.ensures
