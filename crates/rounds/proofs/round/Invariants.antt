use Rattle.std.proofs.Common.{◌≡◌, drop}
use Rattle.ordering.specs.Rounds.{round_of}
use Rattle.orders.proofs.OrderLaws.{run}
use Rattle.opening.specs.Standings.{Stands}
use Rattle.rounds.proofs.RoundLaws.{after, told}
use Rattle.rounds.proofs.round.Given as goal

-- the orders from place o on, made from where the round stands, come to the round
abbrev pub invariant-loop-o : goal.invariant-loop-o
invariant-loop-o l = record {
  so_far : after l.r (run l.s.turn.done l.t l.sheet) (drop l.o-index l.list) ≡ told (round_of l.fn.t l.fn.sheet l.r l.list);
  ready : Stands l.t l.sheet l.s;
}
