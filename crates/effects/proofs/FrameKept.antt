-- The frame of the table is that of the table after a write too.
use mathlib.Core.Path.{◌≡◌, ◌∙◌}
use mathlib.Core.List.{List}
use Prim.Native.Nat.{ℕ}
use Rattle.grouping.specs.declared.Frame.{Frame}
use Rattle.grouping.specs.Frames.{FrameOf}
use Rattle.protocol.specs.Calls.{Writing, write, outcome}
use Rattle.protocol.specs.Claims
use Rattle.protocol.specs.Claims.{StaysWellFormed, by_write}
use Rattle.protocol.proofs.Claimed.{stays-well-formed}
use Rattle.protocol.proofs.FrameLaws.{same-frame}
use Rattle.protocol.proofs.FrameKept.{call-frame}
use Rattle.effects.proofs.WriteLaws.{same-order}

pub write-frame : {t : List ℕ} {f : Frame} (a : Writing) → FrameOf t f → FrameOf (outcome t (write a)).table f
unfolding StaysWellFormed
write-frame {t} a f =
    let s = same-order t _ (same-frame (call-frame t (write a) a.r by_write)) in record {
      formed = stays-well-formed t (write a) Claims.a_write f.formed;
      order = f.order ∙ s.0;
      grouped = record { apart = f.grouped.apart; county = f.grouped.county ∙ s.1 };
    }
