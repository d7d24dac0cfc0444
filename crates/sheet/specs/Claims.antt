-- What is claimed of sheets; the proofs are in proofs/.
use Rattle.std.specs.Prelude.{◌≡◌, true, cond, ◌≢◌, List, [], ℕ, ◌+◌, ◌≤◌, ◌<◌, ltb}
use Rattle.sets.specs.Upto.{Within}
use Rattle.asking.specs.Asking.{first_no}
use Rattle.sheet.specs.Sheet.{sum, line_of, assured_of, ceiling_of, count_of, total_of, remainder, all_beyond, sheet_right, is_club, by_club, counted, cleared}

-- "A write by a club below its assured number is never turned down for others' use": by a right sheet, whatever its other lines hold
unfoldable pub AssuredNeverRefused : Type 0
AssuredNeverRefused = (s : List ℕ) (x : ℕ) → sheet_right s ≡ true → is_club x ≡ true → count_of s x < assured_of s x → first_no (by_club s x []) ≡ 0

-- u is s with one more done write of club x
pub record OneCounted (s u : List ℕ) (x : ℕ) : Type 0 where
  pub right : sheet_right u ≡ true
  -- "adds one there"
  pub count : count_of u x ≡ count_of s x + 1
  pub others : (i : ℕ) → i ≢ x → line_of u i ≡ line_of s i
  pub assured : (i : ℕ) → assured_of u i ≡ assured_of s i
  pub ceiling : (i : ℕ) → ceiling_of u i ≡ ceiling_of s i
  pub total : total_of u ≡ total_of s
  -- "Above it, the write takes one from what the total leaves beyond all assured numbers"
  pub remainder : remainder u ≡ remainder s
  pub beyond : all_beyond u ≡ all_beyond s + cond (ltb (count_of s x) (assured_of s x)) 0 1
  pub sum : sum 16 (count_of u) ≡ sum 16 (count_of s) + 1

-- a write that 18 and 19 let pass keeps the sheet right
unfoldable pub CountsOne : Type 0
CountsOne = (s : List ℕ) (x : ℕ) → sheet_right s ≡ true → first_no (by_club s x []) ≡ 0 → OneCounted s (counted s x) x

-- u is s with every count 0
pub record AllCleared (s u : List ℕ) : Type 0 where
  pub right : sheet_right u ≡ true
  pub counts : (i : ℕ) → Within 16 i → count_of u i ≡ 0
  pub assured : (i : ℕ) → Within 16 i → assured_of u i ≡ assured_of s i
  pub ceiling : (i : ℕ) → Within 16 i → ceiling_of u i ≡ ceiling_of s i
  pub total : total_of u ≡ total_of s
  pub sum : sum 16 (count_of u) ≡ 0

unfoldable pub ClearsAll : Type 0
ClearsAll = (s : List ℕ) → sheet_right s ≡ true → AllCleared s (cleared s)

-- no right sheet has counted more than its total
unfoldable pub TotalHolds : Type 0
TotalHolds = (s : List ℕ) → sheet_right s ≡ true → sum 16 (count_of s) ≤ total_of s
