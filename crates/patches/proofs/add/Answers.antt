use mathlib.Core.Path.{refl, sym, ◌∙◌, ap, subst}
use native.Mathlib.Omega.{arith}
use mathlib.Core.Path.{◌≡◌}
use mathlib.Core.List.{List}
use Prim.Native.Nat.{ℕ, ◌-◌, ◌<◌}
use lib.ListN.{length}
use Rattle.octets.proofs.CodeLaws.{tail-is}
use Rattle.window.specs.Windows.{Window, emptied, added, window_of, store_window}
use Rattle.window.proofs.AddLaws.{added-long}
use Rattle.windows.specs.Visits.{RightFor}
use Rattle.patches.specs.Places.{Placed}
use Rattle.patches.proofs.CopyLaws.{empty-stays, cut-window, took_in}
use Rattle.patches.proofs.add.Goals as goal

-- a patch that is longer than a record's empties the window
long : (copy : List ℕ) (offset : ℕ) (patch : List ℕ) → 32 < length patch → store_window emptied copy ≡ store_window (added (record { offset = offset; bytes = patch }) (window_of copy)) copy
long copy offset patch h = ap (λ (w : Window). store_window w copy) (sym (added-long (record { offset = offset; bytes = patch }) (window_of copy) h))

pub returns-then-oldest-eq0 : goal.returns-then-oldest-eq0
returns-then-oldest-eq0 c =
    empty-stays c.args.copy.now c.requires.0 c.requires.1 (sym c.oldest.ensures ∙ c.if-oldest-eq0.true) ∙ long c.args.copy.now c.args.patch.offset c.args.patch.bytes.now (omega (arith, c.if-patch-gt32.true))

pub returns-then-patch-gt32 : goal.returns-then-patch-gt32
returns-then-patch-gt32 c = c.clear.ensures ∙ long c.args.copy.now c.args.patch.offset c.args.patch.bytes.now (omega (arith, c.if-patch-gt32.true))

pub room_for-place-requires : goal.room_for-place-requires
room_for-place-requires c =
    subst (λ (w : Window). (file : ℕ) × RightFor file w) (sym (cut-window c.args.copy.now _ _ c.oldest-2.ensures (tail-is c.args.copy.now (length c.args.copy.now - 576) (length c.args.copy.now - 576) refl))) c.requires.1

pub returns : goal.returns
returns c =
    took_in c.args.copy.now _ _ c.requires.0 c.set_oldest.ensures (record { offset = c.args.patch.offset; bytes = c.args.patch.bytes.now }) (omega (arith, c.if-patch-gt32.false)) _ _
    (subst (λ (w : Window). Placed w c.room_for-place.result.taken c.room_for-place.result.youngest c.room_for-place.result.first) (cut-window c.args.copy.now _ _ c.oldest-2.ensures (tail-is c.args.copy.now (length c.args.copy.now - 576) (length c.args.copy.now - 576) refl)) c.room_for-place.ensures)
    _ c.take_in.ensures
