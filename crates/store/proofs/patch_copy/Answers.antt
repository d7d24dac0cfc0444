use mathlib.Core.Path.{◌≡◌, sym, ◌∙◌, ap, ap₂, subst}
use mathlib.Core.Logic.{inr}
use mathlib.Core.List.{List}
use Prim.Native.Nat.{ℕ, ◌+◌, ◌≤◌}
use native.Mathlib.Omega.{arith}
use lib.ListN.{length}
use Rattle.fields.specs.Layout.{store, version, store_contents}
use Rattle.fields.proofs.FieldLaws.{length-store, length-contents}
use Rattle.window.specs.Windows.{Window, window_of, store_window, added}
use Rattle.window.proofs.CopyLaws.{window-store, window-contents}
use Rattle.windows.specs.Visits.{RightFor}
use Rattle.protocol.specs.Rows.{patched_copy}
use Rattle.store.proofs.patch_copy.Goals.{After-patch}
use Rattle.store.proofs.patch_copy.Goals as goal

-- neither the version nor the patch alters the window, or the length
module _ (copy new : List ℕ) (v offset : ℕ) (p : List ℕ) (room : 588 + offset + length p ≤ length copy) (e : new ≡ store_contents offset p (store version v copy)) where
  stored-long : length (store version v copy) ≡ length copy
  unfolding version
  stored-long = length-store version v copy (omega arith)

  new-long : length new ≡ length copy
  new-long = ap length e ∙ length-contents offset p (store version v copy) (omega (arith, stored-long)) ∙ stored-long

  new-window : window_of new ≡ window_of copy
  unfolding version
  new-window = ap window_of e ∙ window-contents offset p (store version v copy) (omega (arith, stored-long)) ∙ window-store version v copy (omega arith) (inr (omega arith)) (omega arith)

-- the copy as add finds it
found : (c : After-patch) → c.patch.new.copy ≡ store_contents c.args.patch.offset c.args.patch.bytes.now (store version c.args.version c.args.copy.now)
found c = c.patch.ensures ∙ ap (store_contents _ _) c.set_version.ensures

pub add-requires : goal.add-requires
add-requires c =
    let long = new-long c.args.copy.now _ c.args.version c.args.patch.offset c.args.patch.bytes.now c.requires.0 (found (goal.at.add-requires c).After-patch) in
    (omega (arith, long, c.requires.0), subst (λ (w : Window). (file : ℕ) × RightFor file w) (sym (new-window c.args.copy.now _ c.args.version c.args.patch.offset c.args.patch.bytes.now c.requires.0 (found (goal.at.add-requires c).After-patch))) c.requires.1)

pub returns : goal.returns
unfolding patched_copy
returns c =
    c.add.ensures ∙ ap₂ (λ (w : Window) (copy : List ℕ). store_window (added (record { offset = c.args.patch.offset; bytes = c.args.patch.bytes.now }) w) copy)
    (new-window c.args.copy.now _ c.args.version c.args.patch.offset c.args.patch.bytes.now c.requires.0 (found (goal.at.returns c).After-patch)) (found (goal.at.returns c).After-patch)
