-- What is claimed of lists with rounds, and of a round by the writes that it stands for; the proofs are in proofs/.
use Rattle.std.specs.Prelude.{◌≡◌, true, cond, List, [], ◌∷◌, map, ℕ, ◌+◌, ◌≤◌, ◌<◌, eqb, length, drop}
use Rattle.sets.specs.Upto.{Within}
use Rattle.asking.specs.Asking.{first_no}
use Rattle.sheet.specs.Sheet.{sum, assured_of, count_of, sheet_right, is_club}
use Rattle.protocol.specs.Calls.{Founding, Call, founding, outcome}
use Rattle.history.specs.Book.{opened}
use Rattle.history.specs.Claims.{table_after, book_after, Reached}
use Rattle.sharing.specs.Shares.{last_sheet, done_since}
use Rattle.ordering.specs.declared.Order.{Order}
use Rattle.ordering.specs.Rounds.{Round, empty_questions, round_of}
use Rattle.entering.specs.Acts.{Act, single, round, writes_from, calls_of, table_after_acts, ActsRight, OneSheetActs, last_sheet_acts}

-- ---- a round is its writes
-- how many of a list of calls, made one after another, are done; and the refusal of the last, 0 where there is none
unfoldable pub done_in : List ℕ → List Call → ℕ
done_in t [] = 0
done_in t (k ∷ ks) = cond (eqb (outcome t k).refusal 0) 1 0 + done_in (outcome t k).table ks

unfoldable pub last_refusal : List ℕ → List Call → ℕ
last_refusal t [] = 0
last_refusal t (k ∷ []) = (outcome t k).refusal
last_refusal t (k ∷ l ∷ ks) = last_refusal (outcome t k).table (l ∷ ks)

-- "that refusal": the last write's; a round's own are an empty list's, and 4 for a 65th order
pub data Refused (t s : List ℕ) (r : ℕ) (os : List Order) (x : Round) : Type 0 where
  by_last : 0 < length os → x.refusal ≡ last_refusal t (writes_from t s r 0 os) → Refused t s r os x
  by_none : os ≡ [] → x.refusal ≡ first_no (empty_questions t s r true) → Refused t s r os x
  by65th : 64 < length os → x.value ≡ 64 → x.refusal ≡ 4 → Refused t s r os x

-- "The table after it equals that of the writes made singly in that order, up to the first refusal. .. The result holds that refusal and, as value, the number done"
pub record ItsWrites (t s : List ℕ) (r : ℕ) (os : List Order) (x : Round) : Type 0 where
  pub table : x.table ≡ table_after t (writes_from t s r 0 os)
  pub sheet : x.sheet ≡ last_sheet t s (writes_from t s r 0 os)
  pub value : x.value ≡ done_in t (writes_from t s r 0 os)
  pub refusal : Refused t s r os x

unfoldable pub RoundIsItsWrites : Type 0
RoundIsItsWrites = (t s : List ℕ) (r : ℕ) (os : List Order) → ItsWrites t s r os (round_of t s r os)

-- so the refusal of up to 64 orders is the last write's, and that of none is an empty list's
unfoldable pub RefusedByWrites : Type 0
RefusedByWrites = (t s : List ℕ) (r : ℕ) (os : List Order)
    → (length os ≡ 0 → (round_of t s r os).refusal ≡ first_no (empty_questions t s r true))
    × (0 < length os → length os ≤ 64 → (round_of t s r os).refusal ≡ last_refusal t (writes_from t s r 0 os))

-- question 1 turns down no order but the first
unfoldable pub OneComesFirst : Type 0
OneComesFirst = (t s : List ℕ) (r : ℕ) (os : List Order) → (round_of t s r os).refusal ≡ 1 → (round_of t s r os).value ≡ 0

-- ---- lists
-- a list of acts leaves the table of the calls that it stands for
unfoldable pub ActsAreCalls : Type 0
ActsAreCalls = (t : List ℕ) (xs : List Act) → table_after_acts t xs ≡ table_after t (calls_of t xs)

-- so what is claimed of every table that a founded history reaches holds after rounds too
unfoldable pub ActsReach : Type 0
ActsReach = (t : List ℕ) (a : Founding) (xs : List Act)
    → let o = outcome t (founding a) in
    o.refusal ≡ 0 → Reached (table_after_acts o.table xs) (λ q. book_after q o.table (opened a) (calls_of o.table xs))

-- "Demand 3's list of calls may contain rounds"
unfoldable pub Demand3WithRounds : Type 0
Demand3WithRounds = (t : List ℕ) (a : Founding) (xs : List Act)
    → let o = outcome t (founding a) in
    o.refusal ≡ 0 → (q : ℕ) → ActsRight q o.table (opened a) xs

-- ---- fair use
-- a round leaves a right sheet right
unfoldable pub RoundStaysRight : Type 0
RoundStaysRight = (t s : List ℕ) (r : ℕ) (os : List Order) → sheet_right s ≡ true → sheet_right (round_of t s r os).sheet ≡ true

-- "A write by a club below its assured number is never turned down for others' use": o is the first order that was not done, and below it by the sheet as the
-- done ones left it
unfoldable pub AssuredInRound : Type 0
AssuredInRound = (t s : List ℕ) (r : ℕ) (os rest : List Order) (o : Order) → sheet_right s ≡ true
    → let x = round_of t s r os in
    drop x.value os ≡ o ∷ rest → is_club o.club ≡ true → count_of x.sheet o.club < assured_of x.sheet o.club
    → (x.refusal ≡ 18 → ⊥) × (x.refusal ≡ 19 → ⊥)

-- "The clubs' counts sum to the writes done since that check", a round's writes among them
unfoldable pub CountsSumWithRounds : Type 0
CountsSumWithRounds = (t : List ℕ) (a : Founding) (s : List ℕ) (xs : List Act)
    → let o = outcome t (founding a) in
    o.refusal ≡ 0 → ((x : ℕ) → Within 16 x → count_of s x ≡ 0) → OneSheetActs o.table s xs
    → sum 16 (count_of (last_sheet_acts o.table s xs)) ≡ done_since 0 o.table (opened a) (calls_of o.table xs)

-- it is met with, by a list in which rounds of one order and of three stand: how many orders each act has
unfoldable pub orders_of : Act → ℕ
orders_of (single k) = 0
orders_of (round sheet r os) = length os

-- a founding, a round, a joining, a changing check and a round of which two are done and the third is refused, each lent the sheet as the last one left it
unfoldable pub CountsWithRoundsMet : Type 0
CountsWithRoundsMet = (t : List ℕ) × (a : Founding) × (s : List ℕ) × (xs : List Act)
    × ((outcome t (founding a)).refusal ≡ 0) × ((x : ℕ) → Within 16 x → count_of s x ≡ 0) × OneSheetActs (outcome t (founding a)).table s xs
    × (map orders_of xs ≡ 1 ∷ 0 ∷ 0 ∷ 3 ∷ [])
    × (done_since 0 (outcome t (founding a)).table (opened a) (calls_of (outcome t (founding a)).table xs) ≡ 2)
