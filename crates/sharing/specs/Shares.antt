-- Fair use: what is claimed of a call that is lent a sheet, and of a history with one sheet.
use Rattle.std.specs.Prelude.{◌≡◌, Bool, true, false, cond, List, [], ◌∷◌, ℕ, ◌+◌, ◌<◌, eqb}
use Rattle.sets.specs.Upto.{Within}
use Rattle.sheet.specs.Sheet.{sum, assured_of, count_of, sheet_right, is_club}
use Rattle.protocol.specs.Calls.{Founding, Writing, Checking, Call, founding, join, read, write, send, check, carry, outcome, lent_sheet}
use Rattle.history.specs.Book.{Book, opened, entered}

-- "A write by a club below its assured number is never turned down for others' use", whatever the other lines hold
unfoldable pub AssuredNeverTurnedDown : Type 0
AssuredNeverTurnedDown = (t : List ℕ) (a : Writing) → sheet_right a.sheet ≡ true → is_club a.club ≡ true → count_of a.sheet a.club < assured_of a.sheet a.club
    → ((outcome t (write a)).refusal ≡ 18 → ⊥) × ((outcome t (write a)).refusal ≡ 19 → ⊥)

-- "A sheet, lent to writes .. and checks"
pub data Lent : Call → Type 0 where
  to_write : {a : Writing} → Lent (write a)
  to_check : {a : Checking} → Lent (check a)

-- done or refused, they leave a right sheet right
unfoldable pub SheetStaysRight : Type 0
SheetStaysRight = (t : List ℕ) (k : Call) → Lent k → sheet_right (lent_sheet k) ≡ true → sheet_right (outcome t k).sheet ≡ true

-- ---- "The clubs' counts sum to the writes done since that check, read from the history"
-- "every such call since was lent this one sheet": k is lent s, if it is lent any. A founding would begin the count anew, and is lent none
unfoldable pub LentIt : List ℕ → Call → Type 0
LentIt s (founding a) = ⊥
LentIt s (join a) = Unit {0}
LentIt s (read a) = Unit {0}
LentIt s (write a) = a.sheet ≡ s
LentIt s (send a) = Unit {0}
LentIt s (check a) = a.sheet ≡ s
LentIt s (carry a) = Unit {0}

-- "which nothing else touched": the sheet after k
unfoldable pub sheet_after : List ℕ → List ℕ → Call → List ℕ
sheet_after t s (founding a) = s
sheet_after t s (join a) = s
sheet_after t s (read a) = s
sheet_after t s (write a) = (outcome t (write a)).sheet
sheet_after t s (send a) = s
sheet_after t s (check a) = (outcome t (check a)).sheet
sheet_after t s (carry a) = s

-- a list of calls in which each is lent the sheet as the last one left it; and how the last one leaves it
unfoldable pub OneSheet : List ℕ → List ℕ → List Call → Type 0
OneSheet t s [] = Unit {0}
OneSheet t s (k ∷ ks) = LentIt s k × OneSheet (outcome t k).table (sheet_after t s k) ks

unfoldable pub last_sheet : List ℕ → List ℕ → List Call → List ℕ
last_sheet t s [] = s
last_sheet t s (k ∷ ks) = last_sheet (outcome t k).table (sheet_after t s k) ks

-- "the writes done since that check", n before call k and whether it was done; a check changes where R is not the list in force, which the books of all
-- files share
unfoldable pub since : ℕ → Book → Call → Bool → ℕ
since n b k false = n
since n b (founding a) true = 0
since n b (join a) true = n
since n b (read a) true = n
since n b (write a) true = n + 1
since n b (send a) true = n
since n b (check a) true = cond (eqb a.r b.in_force.members) n 0
since n b (carry a) true = n

unfoldable pub done_since : ℕ → List ℕ → Book → List Call → ℕ
done_since n t b [] = n
done_since n t b (k ∷ ks) = let d = eqb (outcome t k).refusal 0 in done_since (since n b k d) (outcome t k).table (entered 1 b k d) ks

-- "if they were 0 at founding"
unfoldable pub CountsSum : Type 0
CountsSum = (t : List ℕ) (a : Founding) (s : List ℕ) (ks : List Call)
    → let o = outcome t (founding a) in
    o.refusal ≡ 0 → ((x : ℕ) → Within 16 x → count_of s x ≡ 0) → OneSheet o.table s ks
    → sum 16 (count_of (last_sheet o.table s ks)) ≡ done_since 0 o.table (opened a) ks

-- it is met with: a founding, a write, a changing check and two more writes, each lent the sheet as the last one left it
unfoldable pub CountsSumMet : Type 0
CountsSumMet = (t : List ℕ) × (a : Founding) × (s : List ℕ) × (ks : List Call)
    × ((outcome t (founding a)).refusal ≡ 0) × ((x : ℕ) → Within 16 x → count_of s x ≡ 0) × OneSheet (outcome t (founding a)).table s ks
    × (done_since 0 (outcome t (founding a)).table (opened a) ks ≡ 2)
