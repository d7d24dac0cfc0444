use mathlib.Core.Path.{◌≡◌}
use Prim.Native.Nat.{◌*◌, ◌^◌}
use lib.ListN.{length}
use Rattle.octets.specs.Bytes.{put}
use Rattle.charting.specs.Charts.{in_places}
use Rattle.charts.specs.Drawn.{chart_to}
use Rattle.charts.proofs.draw.Given as goal

abbrev pub invariant-loop-row : goal.invariant-loop-row
invariant-loop-row l = (l.end ≡ 2 ^ l.members) × (l.step ≡ 2 ^ l.g.cols) × (length l.list ≡ length l.initial.list)
    × (l.at ≡ 2 * length (chart_to l.g l.members (l.row * l.step))) × (l.list ≡ put 0 (in_places (chart_to l.g l.members (l.row * l.step))) l.initial.list)
