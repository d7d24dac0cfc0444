-- A relay over a list of calls: each row stays on its own machine, and a call is decided on the table put together from the rows that answered.
use Rattle.std.specs.Prelude.{◌≡◌, List, [], ◌∷◌, ℕ}
use Rattle.sets.specs.Sets.{has}
use Rattle.fields.specs.Layout.{used_of, row_bytes, with_rows}
use Rattle.protocol.specs.Calls.{Call, founding, join, read, write, send, check, carry, Outcome, outcome}
use Rattle.history.specs.Book.{Book}
use Rattle.history.specs.Claims.{table_after, Reached}
use Rattle.relaying.specs.Relaying.{blanked}

-- the rows of R shipped back to their machines: each used row of R is as in u, every other byte as in t
unfoldable pub shipped : ℕ → List ℕ → List ℕ → List ℕ
shipped r u t = with_rows t (has r) (λ i row. row_bytes u i) (used_of t)

-- a call with the answering set R: decided on the table put together, whose rows of R are then shipped
unfoldable pub relayed_by : ℕ → List ℕ → Call → Outcome
relayed_by r t k = let o = outcome (blanked r t) k in record { refusal = o.refusal; value = o.value; table = shipped r o.table t; buffer = o.buffer; called = o.called; sheet = o.sheet }

-- what a relay does of a call; founding and joining alter header, names and links, which every machine has: they are made on the whole table, and so
-- is a move, which has no answering set
unfoldable pub relayed : List ℕ → Call → Outcome
relayed t (founding a) = outcome t (founding a)
relayed t (join a) = outcome t (join a)
relayed t (read a) = relayed_by a.r t (read a)
relayed t (write a) = relayed_by a.r t (write a)
relayed t (send a) = relayed_by a.r t (send a)
relayed t (check a) = relayed_by a.r t (check a)
relayed t (carry a) = outcome t (carry a)

-- the rows on their machines after a list of calls, each made by a relay; as one table
unfoldable pub relayed_after : List ℕ → List Call → List ℕ
relayed_after t [] = t
relayed_after t (k ∷ ks) = relayed_after (relayed t k).table ks

-- "sees exactly the answers of the one table": in a founded history, after any list of calls, the next call leaves the same result, buffer, byte and rows
unfoldable pub RelaySees : Type 0
RelaySees = (t : List ℕ) (b : ℕ → Book) → Reached t b → (ks : List Call) (k : Call) → relayed (relayed_after t ks) k ≡ outcome (table_after t ks) k
