use mathlib.Core.Path.{◌≡◌}
use mathlib.Core.List.{List}
use Prim.Native.Nat.{ℕ, ◌+◌, ◌*◌, ◌^◌}
use lib.ListN.{length}
use Rattle.octets.specs.Bytes.{put}
use Rattle.charting.specs.Charts.{in_places}
use Rattle.charts.specs.Drawn.{chart_to}
use Rattle.charts.proofs.draw_row.Given as goal

abbrev pub invariant-loop-set : goal.invariant-loop-set
invariant-loop-set l = (l.end ≡ l.start + 2 ^ l.g.cols) × (length l.list ≡ length l.initial.list)
    × (l.at ≡ 2 * length (chart_to l.g l.members l.set)) × ((xs : List ℕ) → l.initial.list ≡ put 0 (in_places (chart_to l.g l.members l.start)) xs → l.list ≡ put 0 (in_places (chart_to l.g l.members l.set)) xs)
