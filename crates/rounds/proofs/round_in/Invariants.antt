use mathlib.Core.Path.{◌≡◌}
use lib.ListN.{length}
use Rattle.orders.specs.Turns.{Opened}
use Rattle.rounds.proofs.ByteRounds.{Left}
use Rattle.rounds.proofs.round_in.Given as goal

-- the orders from place k on, made from where the round stands, come to the round
abbrev pub invariant-loop-k : goal.invariant-loop-k
invariant-loop-k l = record {
  table : length l.t ≡ length l.initial.t;
  sheet : length l.sheet ≡ length l.initial.sheet;
  ready : Opened l.t l.sheet l.order l.sets l.turn l.choices;
  so_far : Left l.initial.t l.initial.sheet l.r l.list l.n l.k l.turn.done l.t l.sheet;
}
