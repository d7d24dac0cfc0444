-- A relay of the library's calls: whatever the interleaving, its calls are a list of calls made one at a time on one table, with the results that demand 3 gives them.
use Rattle.std.specs.Prelude.{◌≡◌, Bool, true, false, cond, List, [], ◌∷◌, ◌++◌, ℕ, zero, suc, ◌^◌}
use Rattle.std.specs.Int.Bits.{bit_or}
use Rattle.sets.specs.Upto.{Within}
use Rattle.fields.specs.Layout.{used_of, row_bytes, with_rows}
use Rattle.protocol.specs.Calls.{Reading, Writing, Sending, Checking, Call, read, write, send, check, Outcome, outcome}
use Rattle.protocol.specs.Claims.{SameFor}
use Rattle.history.specs.Book.{Book}
use Rattle.history.specs.Demand3.{Right}
use Rattle.history.specs.Claims.{table_after, book_after}
use Rattle.history.specs.Claims as History
use Rattle.relaying.specs.Relaying.{blanked}
use Rattle.commit.specs.Steps.{Shown, none, some, shown, Decision, State, Runs, Reached, Later}
use Rattle.commit.specs.Atomic.{Entry, calls, current, Ended, Ledger}

-- ---- a call decided by the library
-- what a caller asks for; who answers is not known yet, and the set in its arguments counts for nothing
pub data Request : Type 0 where
  to_read : Reading → Request
  to_write : Writing → Request
  to_send : Sending → Request
  to_check : Checking → Request

-- the call, with the answering set R
unfoldable pub asked : Request → ℕ → Call
asked (to_read a) r = read (record { c = a.c; r = r; offset = a.offset; count = a.count; buffer = a.buffer; called = a.called; file = a.file })
asked (to_write a) r = write (record { c = a.c; r = r; offset = a.offset; patch = a.patch; called = a.called; file = a.file; sheet = a.sheet; club = a.club })
asked (to_send a) r = send (record { f = a.f; t = a.t; r = r; file = a.file })
asked (to_check a) r = check (record { c = a.c; r = r; sheet = a.sheet })

unfoldable pub is_shown : Shown → Bool
is_shown none = false
is_shown (some r) = true

unfoldable pub row_of : Shown → List ℕ
row_of none = []
row_of (some r) = r

-- R: those of the machines 1 to n that answered
unfoldable pub set_of : (ℕ → Shown) → ℕ → ℕ
set_of rows zero = 0
set_of rows (suc k) = cond (is_shown (rows (suc k))) (bit_or (set_of rows k) (2 ^ k)) (set_of rows k)

-- "assemble: frame + rows": t's header, names and links, the rows that answered, and every other used row zero
unfoldable pub assembled : List ℕ → (ℕ → Shown) → List ℕ
assembled t rows = with_rows (blanked 0 t) (λ i. is_shown (rows i)) (λ i x. row_of (rows i)) (used_of t)

-- what the coordinator gets of the library
unfoldable pub decided_on : List ℕ → Request → (ℕ → Shown) → Outcome
decided_on t q rows = outcome (assembled t rows) (asked q (set_of rows (used_of t)))

-- what it ships
unfoldable pub by_library : List ℕ → (ℕ → Request) → Decision
by_library t request n rows i = row_bytes (decided_on t (request n) rows).table i

-- ---- the claim
-- a call of the relay as a call of the library
unfoldable pub call_of : List ℕ → (ℕ → Request) → Entry → Call
call_of t request e = asked (request e.call) (set_of (shown e.heard) (used_of t))

-- the list of calls, the oldest first
unfoldable pub calls_of : List ℕ → (ℕ → Request) → List Entry → List Call
calls_of t request [] = []
calls_of t request (e ∷ es) = calls_of t request es ++ (call_of t request e ∷ [])

-- what the relay tells of the call e, after the calls es, is what the one table gives: result, read bytes, byte and rows of R. So it is what demand 3 says of it, in each file's book
pub record Told (t : List ℕ) (b : ℕ → Book) (request : ℕ → Request) (e : Entry) (es : List Entry) : Type 0 where
  pub same : SameFor (set_of (shown e.heard) (used_of t)) (outcome (table_after t (calls_of t request es)) (call_of t request e)) (decided_on t (request e.call) (shown e.heard))
  pub right : (q : ℕ) → Right q (table_after t (calls_of t request es)) (book_after q t (b q) (calls_of t request es)) (call_of t request e) (decided_on t (request e.call) (shown e.heard))

unfoldable pub AllTold : List ℕ → (ℕ → Book) → (ℕ → Request) → List Entry → Type 0
AllTold t b request [] = Unit {0}
AllTold t b request (e ∷ es) = Told t b request e es × AllTold t b request es

pub record OneAtATime (t : List ℕ) (b : ℕ → Book) (request : ℕ → Request) (s : State) : Type 0 where
  -- each call that has ended is in the list, once, and no other is (and by `in-real-time` between its begin and its end)
  pub listed : Ledger s
  pub told : AllTold t b request (calls s)
  -- and the machines' rows are those of the table after the list
  pub rows : (i : ℕ) → Within (used_of t) i → current s i ≡ row_bytes (table_after t (calls_of t request (calls s))) i

-- from any table that a founding and a list of calls left, whatever the callers ask for, whatever is lost, late or doubled, whoever crashes
unfoldable pub EveryInterleaving : Type 0
EveryInterleaving = (t : List ℕ) (b : ℕ → Book) → History.Reached t b → (request : ℕ → Request) (s : State) → Reached (by_library t request) (row_bytes t) s → OneAtATime t b request s

-- it is met with: two writes run at once, a machine crashes in doubt, messages come twice; both writes are done, in this order, and a read after them gives the later one's byte
pub record OverlapMet : Type 0 where
  pub table : List ℕ
  pub books : ℕ → Book
  pub history : History.Reached table books
  pub request : ℕ → Request
  pub during : State
  pub reached : Reached (by_library table request) (row_bytes table) during
  pub both_run : Runs (during.phase 1) × Runs (during.phase 2)
  pub end : State
  pub from : Later (by_library table request) during end
  pub both-ended : Ended (end.phase 1) × Ended (end.phase 2)
  pub one : Writing
  pub other : Writing
  pub list : calls_of table request (calls end) ≡ write one ∷ write other ∷ []
  pub one-done : (outcome table (write one)).refusal ≡ 0
  pub other-done : (outcome (table_after table (write one ∷ [])) (write other)).refusal ≡ 0
  pub then-read : Reading
  pub read_done : (outcome (table_after table (write one ∷ write other ∷ [])) (read then-read)).refusal ≡ 0
  pub gives : (outcome (table_after table (write one ∷ write other ∷ [])) (read then-read)).buffer ≡ other.patch
