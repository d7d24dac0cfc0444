-- Beyond demand 3: what else is claimed of every founded history.
use Rattle.std.specs.Prelude.{◌≡◌, Bool, true, false, cond, ◌||◌, List, [], ◌∷◌, ℕ, ◌+◌, ◌≤◌, ◌<◌, eqb, leb, length}
use Rattle.sets.specs.Upto.{Within, every, count}
use Rattle.sets.specs.Sets.{has, losing}
use Rattle.quorums.specs.declared.Kind.{Kind}
use Rattle.quorums.specs.declared.Kind.TheVariants.{Read, Write}
use Rattle.fields.specs.Layout.{used_of, files_of, list_of, copy_bytes, stale_of, version_of, desired_of, contents_of}
use Rattle.counties.specs.Counties.{several}
use Rattle.counties.specs.Claims.{InOne}
use Rattle.window.specs.Windows.{Kept, patches, window_of}
use Rattle.table.specs.WellFormed.{well_formed}
use Rattle.sheet.specs.Sheet.{sheet_right}
use Rattle.asking.specs.Asking.{first_no, before}
use Rattle.protocol.specs.Calls.{Founding, Reading, Writing, Sending, Checking, Call, founding, read, write, send, check, questions, outcome}
use Rattle.history.specs.Book.{Book, county_in, opened, holds_quorum, some_has_all, entered}
use Rattle.history.specs.Demand3.{verdict, due, Right}

-- the table after a list of calls, and the book of file q after it
unfoldable pub table_after : List ℕ → List Call → List ℕ
table_after t [] = t
table_after t (k ∷ ks) = table_after (outcome t k).table ks

unfoldable pub book_after : ℕ → List ℕ → Book → List Call → Book
book_after q t b [] = b
book_after q t b (k ∷ ks) = book_after q (outcome t k).table (entered q b k (eqb (outcome t k).refusal 0)) ks

-- a table, and the book of each file, after a done founding and any list of calls
pub data Reached : List ℕ → (ℕ → Book) → Type 0 where
  after : (t : List ℕ) (a : Founding) (ks : List Call) → (outcome t (founding a)).refusal ≡ 0
      → Reached (table_after (outcome t (founding a)).table ks) (λ q. book_after q (outcome t (founding a)).table (opened a) ks)

-- "after a founding this never happens": question 1 turns no table down
unfoldable pub AlwaysWellFormed : Type 0
AlwaysWellFormed = (t : List ℕ) (b : ℕ → Book) → Reached t b → well_formed t ≡ true

-- for each file a row of s has every done write
unfoldable pub each_has_all : ℕ → (ℕ → Book) → (ℕ → Bool) → Bool
each_has_all files b s = every files (λ q. some_has_all (b q) s)

-- a check that passes 1 to 3 meets 6 and 7 by the books: a write quorum of the list in force, the same in all; R that list, or for each file a row of R
-- with every done write
unfoldable pub ChecksByBook : Type 0
ChecksByBook = (t : List ℕ) (b : ℕ → Book) → Reached t b → (a : Checking) → first_no (before 6 (questions t (check a))) ≡ 0
    → first_no (before 8 (questions t (check a)))
    ≡ cond (holds_quorum (b 1) Write (has a.r)) (cond (eqb a.r (b 1).in_force.members || each_has_all (files_of t) b (has a.r)) 0 7) 6

-- "Done check: R becomes the list in force, and the own list of each row of R", in each file's book and in the table; also where R was the list in force
-- and nothing changes
pub record Agreed (t : List ℕ) (b : Book) (r : ℕ) : Type 0 where
  pub members : b.in_force.members ≡ r
  pub own : (i : ℕ) → has r i ≡ true → b.own i ≡ b.in_force
  pub rows : (i : ℕ) → has r i ≡ true → list_of t i ≡ b.in_force

unfoldable pub CheckAgrees : Type 0
CheckAgrees = (t : List ℕ) (b : ℕ → Book) → Reached t b → (a : Checking) → (outcome t (check a)).refusal ≡ 0 → (q : ℕ) → Within (files_of t) q
    → Agreed (outcome t (check a)).table (entered q (b q) (check a) true) a.r

-- ---- "Send the last results only"
-- what row i keeps of file q: contents and window
unfoldable pub kept_of : List ℕ → ℕ → ℕ → Kept
kept_of t q i = record { contents = contents_of t q i; window = window_of (copy_bytes t q i) }

-- u is t after a send of the whole contents
pub record WholeSend (t u : List ℕ) (a : Sending) : Type 0 where
  pub contents : contents_of u a.file a.t ≡ contents_of t a.file a.f
  pub version : version_of u a.file a.t ≡ version_of t a.file a.f
  pub mark : stale_of u a.file a.t ≡ false
  pub desired : desired_of u a.file a.t ≡ 0

-- "In a founded history, contents, version and marks come out as from a whole send"
unfoldable pub SendsAreWhole : Type 0
SendsAreWhole = (t : List ℕ) (b : ℕ → Book) → Reached t b → (a : Sending) → (outcome t (send a)).refusal ≡ 0 → WholeSend t (outcome t (send a)).table a

-- there, rows of one version of a file keep the same of it, window bytes and all
unfoldable pub KeptByVersion : Type 0
KeptByVersion = (t : List ℕ) (b : ℕ → Book) → Reached t b → (q : ℕ) → Within (files_of t) q → (i j : ℕ) → Within (used_of t) i → Within (used_of t) j
    → version_of t q i ≡ version_of t q j → kept_of t q i ≡ kept_of t q j

-- both ways are met with: a done send to a row n versions behind, and whether the sender's window reaches back so far
pub record SendBehind (n : ℕ) (reaches : Bool) : Type 0 where
  pub table : List ℕ
  pub books : ℕ → Book
  pub reached : Reached table books
  pub call : Sending
  pub behind : version_of table call.file call.t + n ≡ version_of table call.file call.f
  pub done : (outcome table (send call)).refusal ≡ 0
  pub way : leb n (length (patches (window_of (copy_bytes table call.file call.f)))) ≡ reaches

unfoldable pub BothWaysMet : Type 0
BothWaysMet = SendBehind 16 true × SendBehind 17 false

-- ---- "One machine lost"
-- "a list of four or more .. in force", "within one county", "a check by all its members but one"; "each file needs some one machine having all its done writes": x is not
-- there; the coordinator answers, and the sheet is right
pub record AllButOneCheck (t : List ℕ) (b : ℕ → Book) (x : ℕ) (a : Checking) : Type 0 where
  pub four : 4 ≤ count 64 (has (b 1).in_force.members)
  pub county : InOne (county_in (b 1)) (has (b 1).in_force.members)
  pub others : has a.r ≡ losing (has (b 1).in_force.members) x
  pub current : (q : ℕ) → Within (files_of t) q → some_has_all (b q) (has a.r) ≡ true
  pub coordinator : has a.r a.c ≡ true
  pub sheet : sheet_right a.sheet ≡ true

-- it "is not refused by 6 or 7", nor before. "so laid" is no premise: in a founded history every list in force was laid by its founding or by a check
unfoldable pub OneLost : Type 0
OneLost = (t : List ℕ) (b : ℕ → Book) → Reached t b → (x : ℕ) (a : Checking) → AllButOneCheck t b x a → first_no (before 8 (questions t (check a))) ≡ 0

-- it is met with, in a group of two files: there is such a history, such a check, and a member that is not there
unfoldable pub OneLostMet : Type 0
OneLostMet = (t : List ℕ) × (b : ℕ → Book) × (x : ℕ) × (a : Checking) × Reached t b × AllButOneCheck t b x a × (has (b 1).in_force.members x ≡ true) × (files_of t ≡ 2)

-- ---- counties
-- a founded history of several counties is met with: a write and a check were done, the check laid the list in force, of fewer machines and of several
-- counties, and a read by it is done
pub record SeveralMet : Type 0 where
  pub table : List ℕ
  pub books : ℕ → Book
  pub reached : Reached table books
  pub writes : (books 1).writes ≡ 1
  pub fewer : count 64 (has (books 1).in_force.members) < used_of table
  pub counties : several (county_in (books 1)) (has (books 1).in_force.members) ≡ true
  pub mark : (books 1).in_force.mark ≡ 3
  pub call : Reading
  pub done : (outcome table (read call)).refusal ≡ 0

-- ---- 1,000,000 from both sides, of one file's writes
-- k is a read or a write of file q, with the answering set R
pub data Asks : Call → Kind → ℕ → ℕ → Type 0 where
  a_read : {a : Reading} → Asks (read a) Read a.file a.r
  a_write : {a : Writing} → Asks (write a) Write a.file a.r

-- "After fewer than 1,000,000 done writes": after 999,999 too, reads and writes are refused by the book and the sheet
unfoldable pub BelowTheLimit : Type 0
BelowTheLimit = (t : List ℕ) (b : ℕ → Book) → Reached t b → (k : Call) (kind : Kind) (q r : ℕ) → Asks k kind q r → (b q).writes ≡ 999_999
    → first_no (before 6 (questions t k)) ≡ 0 → (outcome t k).refusal ≡ due (b q) k kind r

-- after 1,000,000 a write that passes all before 8 is refused by it, while reads are refused by the book and give the file
pub record Full (q : ℕ) (t : List ℕ) (b : Book) : Type 0 where
  pub writes : (k : Call) (r : ℕ) → Asks k Write q r → first_no (before 8 (questions t k)) ≡ 0 → (outcome t k).refusal ≡ 8
  pub reads : (k : Call) (r : ℕ) → Asks k Read q r → first_no (before 6 (questions t k)) ≡ 0 → (outcome t k).refusal ≡ verdict b Read r
  pub gives : (k : Call) → Right q t b k (outcome t k)

unfoldable pub AtTheLimit : Type 0
AtTheLimit = (t : List ℕ) (b : ℕ → Book) → Reached t b → (q : ℕ) → (b q).writes ≡ 1_000_000 → Full q t (b q)

-- both are met with: there is a history with n done writes of a file, after which a write of it that passes all before 8 is answered by the refusal x
pub record WithWrites (n x : ℕ) : Type 0 where
  pub table : List ℕ
  pub books : ℕ → Book
  pub reached : Reached table books
  pub file : ℕ
  pub writes : (books file).writes ≡ n
  pub call : Call
  pub rows : ℕ
  pub asks : Asks call Write file rows
  pub passes : first_no (before 8 (questions table call)) ≡ 0
  pub answer : (outcome table call).refusal ≡ x

unfoldable pub LimitReached : Type 0
LimitReached = WithWrites 999_999 0 × WithWrites 1_000_000 8
