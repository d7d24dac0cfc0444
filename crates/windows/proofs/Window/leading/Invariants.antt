use mathlib.Core.Path.{◌≡◌}
use mathlib.Core.Bool.{true}
use Rattle.sets.specs.Upto.{every, count}
use Rattle.blocks.specs.Blocks.{block}
use Rattle.windows.specs.Visits.{broken, head_right}
use Rattle.windows.proofs.Window.leading.Given as goal

abbrev pub invariant-loop-k : goal.invariant-loop-k
invariant-loop-k l = (every l.k (λ x. head_right l.file (block 0 36 x l.self.records.now)) ≡ true) × (l.breaks ≡ count l.k (broken l.self.records.now))
