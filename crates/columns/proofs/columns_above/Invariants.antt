use Prim.Native.Nat.{◌+◌, ◌-◌, ◌*◌, ◌/◌, ◌^◌, ◌≤◌, ◌<◌}
use Rattle.sets.specs.Sets.{has}
use Rattle.columns.specs.Columns.{ColumnsOf}
use Rattle.columns.proofs.columns_above.Given as goal

abbrev pub invariant-loop-row : goal.invariant-loop-row
invariant-loop-row l = (1 ≤ l.row) × (l.row * l.columns < l.length + l.columns)
    × ColumnsOf (has l.c.touched.bits) (has l.c.twice.bits) (has l.c.whole.bits) l.columns (l.length - l.row * l.columns) (has (l.set / 2 ^ (l.row * l.columns)))
