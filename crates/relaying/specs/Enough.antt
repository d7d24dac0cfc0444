-- Whom to call: the coordinator's own row tells, and a choice that answers whole is enough.
use Rattle.std.specs.Prelude.{◌≡◌, true, false, List, ℕ, ◌<◌}
use Rattle.sets.specs.Sets.{has}
use Rattle.quorums.specs.declared.Kind.{Kind}
use Rattle.quorums.specs.declared.Kind.TheVariants.{Read, Write}
use Rattle.table.specs.WellFormed.{well_formed}
use Rattle.asking.specs.Asking.{first_no, before}
use Rattle.protocol.specs.Calls.{Reading, Writing, Call, read, write, questions, outcome, work_set}
use Rattle.history.specs.Book.{Book, some_has_all}
use Rattle.history.specs.Demand3.{share_no}
use Rattle.history.specs.Claims.{Reached}
use Rattle.choosing.specs.Choosing.{first_called, chosen}
use Rattle.relaying.specs.Relaying.{blanked}

-- a coordinator that answers itself asks whom to call of the table put together: its own row is enough for that
unfoldable pub ChosenAlike : Type 0
ChosenAlike = (t : List ℕ) (r c kind : ℕ) (set : List ℕ) → well_formed t ≡ true → has r c ≡ true → chosen (blanked r t) c kind set ≡ chosen t c kind set

-- k is a read or a write of file q by c, with the answering set R
pub data By : Call → Kind → ℕ → ℕ → ℕ → Type 0 where
  a_read : {a : Reading} → By (read a) Read a.file a.c a.r
  a_write : {a : Writing} → By (write a) Write a.file a.c a.r

-- c's own list is the list in force, all of c's choice answers, and some row of it has every done write of the file; the questions before 6 are passed
pub record AnswersWhole (t : List ℕ) (b : Book) (k : Call) (kind : Kind) (c r : ℕ) : Type 0 where
  pub own : b.own c ≡ b.in_force
  pub answers : (i : ℕ) → first_called kind t c i ≡ true → has r i ≡ true
  pub current : some_has_all b (first_called kind t c) ≡ true
  pub passes : first_no (before 6 (questions t k)) ≡ 0

-- it passes 6 and 7, works on that choice alone, and below the limit of writes is done, but for what the sheet says to a write
pub record StaysWithChoice (t : List ℕ) (b : Book) (k : Call) (kind : Kind) (q c r : ℕ) : Type 0 where
  pub passes : first_no (before 18 (questions t k)) ≡ 0
  pub alone : work_set kind t q c r ≡ first_called kind t c
  pub done : b.writes < 1_000_000 → (outcome t k).refusal ≡ share_no k

-- so a relay that calls its choice, and itself, calls enough
unfoldable pub ChoiceEnough : Type 0
ChoiceEnough = (t : List ℕ) (b : ℕ → Book) → Reached t b → (k : Call) (kind : Kind) (q c r : ℕ) → By k kind q c r → AnswersWhole t (b q) k kind c r → StaysWithChoice t (b q) k kind q c r

-- it is met with, for reads and for writes, where some member x of the list in force does not answer
unfoldable pub ChoiceEnoughMet : Type 0
ChoiceEnoughMet = (kind : Kind) → (t : List ℕ) × (b : ℕ → Book) × (k : Call) × (q : ℕ) × (c : ℕ) × (r : ℕ) × (x : ℕ)
    × Reached t b × By k kind q c r × AnswersWhole t (b q) k kind c r × (has (b q).in_force.members x ≡ true) × (has r x ≡ false)
