-- The frame of a table, as the calls hand it on.
use Rattle.std.specs.Prelude.{◌≡◌, true, List, ℕ}
use Rattle.table.specs.Chain.{order_of}
use Rattle.table.specs.WellFormed.{well_formed}
use Rattle.grouping.specs.Grouped.{Grouped}
use Rattle.grouping.specs.declared.Frame.{Frame}

-- what question 1 hands on where it is yes: the frame of a well-formed table
pub record FrameOf (t : List ℕ) (f : Frame) : Type 0 where
  pub formed : well_formed t ≡ true
  pub order : f.chain ≡ order_of t
  pub grouped : Grouped t f.counties
