-- The arrays that question 1 fills make the frame of the table.
use mathlib.Core.Path.{◌≡◌}
use mathlib.Core.List.{List}
use Prim.Native.Nat.{ℕ}
use lib.ListN.{take}
use Rattle.fields.specs.Layout.{used_of}
use Rattle.table.specs.Asked.{Listed}
use Rattle.grouping.specs.Grouped.{Framed}
use Rattle.grouping.specs.Frames.{FrameOf}

pub listed-of : {t order sets : List ℕ} {n : ℕ} → Framed t order sets → n ≡ used_of t → Listed n order n
listed-of f e = rw e f.ordered.listed

pub frame-of : {t order sets : List ℕ} {n : ℕ} → Framed t order sets → n ≡ used_of t → FrameOf t (record { chain = take n order; counties = sets })
frame-of f e = record { formed = f.formed; order = rw e f.ordered.order; grouped = f.grouped }
