use mathlib.Core.Path.{◌≡◌}
use mathlib.Core.List.{◌++◌}
use Prim.Native.Nat.{◌+◌, ◌*◌}
use lib.ListN.{length, take}
use Rattle.octets.specs.Bytes.{bytes_of, part}
use Rattle.blocks.specs.Blocks.{in_turn}
use Rattle.carrying.proofs.CarryLaws.{row_to}
use Rattle.moves.proofs.carry_table.Given as goal

abbrev pub invariant-loop-k : goal.invariant-loop-k
invariant-loop-k l =
    (length l.dest ≡ length l.initial.dest) × (take (16 + l.k * l.width) l.dest ≡ (bytes_of 1 l.form ++ part 1 15 l.t) ++ in_turn l.k (row_to l.form l.t))
