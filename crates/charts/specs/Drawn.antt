-- What is drawn so far.
use Rattle.std.specs.Prelude.{List, ℕ}
use Rattle.sets.specs.Upto.{upward, keep}
use Rattle.sets.specs.Sets.{has}
use Rattle.grid.specs.declared.Grid.{Grid}
use Rattle.charting.specs.Charts.{smallest}

-- the chart as far as the numbers below n
unfoldable pub chart_to : Grid → ℕ → ℕ → List ℕ
chart_to g N n = keep (λ x. smallest g N (has x)) (upward n 0)
