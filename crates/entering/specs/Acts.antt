-- "Demand 3's list of calls may contain rounds, each standing for those writes, the refused one included."
use Rattle.std.specs.Prelude.{◌≡◌, cond, List, [], ◌∷◌, ◌++◌, ℕ, suc, eqb}
use Rattle.protocol.specs.Calls.{Call, write, outcome}
use Rattle.history.specs.Book.{Book}
use Rattle.history.specs.Demand3.{AllRight}
use Rattle.history.specs.Claims.{book_after}
use Rattle.sharing.specs.Shares.{LentIt, sheet_after}
use Rattle.ordering.specs.declared.Order.{Order}
use Rattle.ordering.specs.Rounds.{writing, round_of}

-- one of a list: a call by itself, or a round with the sheet lent to it, its answering set and its orders
pub data Act : Type 0 where
  single : Call → Act
  round : (sheet : List ℕ) (r : ℕ) (orders : List Order) → Act

-- ---- "those writes"
-- what the orders after n done ones stand for, on the table t and the sheet s that those left: "the writes made singly in that order, up to the first refusal",
-- the refused one included; a 65th order is unread, and stands for none
unfoldable pub writes_from : List ℕ → List ℕ → ℕ → ℕ → List Order → List Call
writes_from t s r n [] = []
writes_from t s r n (o ∷ os) =
    let k = write (writing r s o) in
    cond (eqb n 64) [] (k ∷ cond (eqb (outcome t k).refusal 0) (writes_from (outcome t k).table (outcome t k).sheet r (suc n) os) [])

-- what an act stands for
unfoldable pub stands_for : List ℕ → Act → List Call
stands_for t (single k) = k ∷ []
stands_for t (round s r os) = writes_from t s r 0 os

-- the table after it
unfoldable pub table_by : List ℕ → Act → List ℕ
table_by t (single k) = (outcome t k).table
table_by t (round s r os) = (round_of t s r os).table

-- the calls that a list of acts stands for, each act getting the table as the last one left it; and the table after them
unfoldable pub calls_of : List ℕ → List Act → List Call
calls_of t [] = []
calls_of t (x ∷ xs) = stands_for t x ++ calls_of (table_by t x) xs

unfoldable pub table_after_acts : List ℕ → List Act → List ℕ
table_after_acts t [] = t
table_after_acts t (x ∷ xs) = table_after_acts (table_by t x) xs

-- ---- demand 3, of a list of acts: what each stands for is right by the book of file q, which is fed these calls
unfoldable pub ActsRight : ℕ → List ℕ → Book → List Act → Type 0
ActsRight q t b [] = Unit {0}
ActsRight q t b (x ∷ xs) = AllRight q t b (stands_for t x) × ActsRight q (table_by t x) (book_after q t b (stands_for t x)) xs

-- ---- fair use: "A sheet, lent to writes, rounds and checks"
-- "every such call since was lent this one sheet"
unfoldable pub LentTo : List ℕ → Act → Type 0
LentTo s (single k) = LentIt s k
LentTo s (round sheet r os) = sheet ≡ s

-- "which nothing else touched": the sheet after an act
unfoldable pub sheet_by : List ℕ → List ℕ → Act → List ℕ
sheet_by t s (single k) = sheet_after t s k
sheet_by t s (round sheet r os) = (round_of t sheet r os).sheet

-- a list of acts in which each is lent the sheet as the last one left it; and how the last one leaves it
unfoldable pub OneSheetActs : List ℕ → List ℕ → List Act → Type 0
OneSheetActs t s [] = Unit {0}
OneSheetActs t s (x ∷ xs) = LentTo s x × OneSheetActs (table_by t x) (sheet_by t s x) xs

unfoldable pub last_sheet_acts : List ℕ → List ℕ → List Act → List ℕ
last_sheet_acts t s [] = s
last_sheet_acts t s (x ∷ xs) = last_sheet_acts (table_by t x) (sheet_by t s x) xs
