-- Demand 3: a single claim about a whole list of calls after one done founding.
use Rattle.std.specs.Prelude.{◌≡◌, cond, List, [], ◌∷◌, ℕ, ◌<◌, eqb}
use Rattle.sets.specs.Sets.{has}
use Rattle.quorums.specs.declared.Kind.{Kind}
use Rattle.quorums.specs.declared.Kind.TheVariants.{Read, Write}
use Rattle.octets.specs.Bytes.{part}
use Rattle.asking.specs.Asking.{first_no, before}
use Rattle.sheet.specs.Sheet.{by_club}
use Rattle.protocol.specs.Calls.{Founding, Reading, Call, founding, join, read, write, send, check, carry, Outcome, questions, outcome}
use Rattle.history.specs.Book.{Book, opened, holds_quorum, some_has_all, entered}

-- "The refusals in demand 3 are by 6 where the quorum is wanting, and by 7 where it is held and no row of R has every done write."
unfoldable pub verdict : Book → Kind → ℕ → ℕ
verdict b kind r = cond (holds_quorum b kind (has r)) (cond (some_has_all b (has r)) 0 7) 6

-- "Demand 3's write refusals gain these two grounds": the first no among 18 and 19 that a write meets, by the sheet that it is lent; no other call meets one
unfoldable pub share_no : Call → ℕ
share_no (founding a) = 0
share_no (join a) = 0
share_no (read a) = 0
share_no (write a) = first_no (by_club a.sheet a.club [])
share_no (send a) = 0
share_no (check a) = 0
share_no (carry a) = 0

-- the refusal that a read or a write k is due, 0 where it is to be done
unfoldable pub due : Book → Call → Kind → ℕ → ℕ
due b k kind r = let n = verdict b kind r in cond (eqb n 0) (share_no k) n

-- "every done read in the list gives exactly its range of .. and its value is how many those are"
pub record ReadGives (b : Book) (a : Reading) (o : Outcome) : Type 0 where
  pub value : o.value ≡ b.writes
  pub bytes : o.buffer ≡ part a.offset a.count b.file

-- "After fewer than 1,000,000 done writes, a read (write) that passes document 01's questions 1 to 5 is refused exactly when .."; "for reads and writes that pass 16 too"
unfoldable pub RefusedRight : List ℕ → Book → Call → Kind → ℕ → Outcome → Type 0
RefusedRight t b k kind r o = first_no (before 6 (questions t k)) ≡ 0 → b.writes < 1_000_000 → o.refusal ≡ due b k kind r

-- what is claimed of one call, made on the table t with the book b of file q
unfoldable pub Right : ℕ → List ℕ → Book → Call → Outcome → Type 0
Right q t b (read a) o = a.file ≡ q → (o.refusal ≡ 0 → ReadGives b a o) × RefusedRight t b (read a) Read a.r o
Right q t b (write a) o = a.file ≡ q → RefusedRight t b (write a) Write a.r o
Right q t b (founding a) o = Unit {0}
Right q t b (join a) o = Unit {0}
Right q t b (send a) o = Unit {0}
Right q t b (check a) o = Unit {0}
Right q t b (carry a) o = Unit {0}

-- and of a list of calls, each getting the table as the last one left it; the book is fed the call and whether it was done
unfoldable pub AllRight : ℕ → List ℕ → Book → List Call → Type 0
AllRight q t b [] = Unit {0}
AllRight q t b (k ∷ ks) =
    let o = outcome t k in
    Right q t b k o × AllRight q o.table (entered q b k (eqb o.refusal 0)) ks

-- "Demand 3 is stated file by file." "Demand 3's list of calls may contain joinings." Further foundings may stand in it too: a done one opens the book
-- anew.
unfoldable pub Demand3 : Type 0
Demand3 = (t : List ℕ) (a : Founding) (ks : List Call)
    → let o = outcome t (founding a) in
    o.refusal ≡ 0 → (q : ℕ) → AllRight q o.table (opened a) ks
