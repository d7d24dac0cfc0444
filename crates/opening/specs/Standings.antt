-- A round between two orders, as the code hands it on.
use Rattle.std.specs.Prelude.{List, ℕ}
use Rattle.orders.specs.Turns.{Opened}
use Rattle.opening.specs.declared.Standing.{Standing}

-- the arrays of a round hold the frame of the table, and its next order may come
abbrev pub Stands : List ℕ → List ℕ → Standing → Type 0
Stands t s x = Opened t s x.order x.sets x.turn x.choices
