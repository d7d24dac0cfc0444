use lib.ListN.{drop}
use Rattle.table.specs.Chain.{order_of}
use Rattle.joins.proofs.PlaceLaws.{Left}
use Rattle.joins.proofs.place_of.Given as goal

abbrev pub invariant-loop-k : goal.invariant-loop-k
invariant-loop-k l = Left l.t l.name l.before (drop l.k (order_of l.t))
