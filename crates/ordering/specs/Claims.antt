-- What is claimed of rounds; the proofs are in proofs/.
use Rattle.std.specs.Prelude.{◌≡◌, Bool, true, ◌≢◌, List, [], ◌∷◌, ◌++◌, ℕ, ◌≤◌, length, take}
use Rattle.sets.specs.Upto.{Within}
use Rattle.sets.specs.Sets.{has}
use Rattle.quorums.specs.Starred.{Each}
use Rattle.fields.specs.Layout.{used_of, row_bytes, copy_bytes}
use Rattle.table.specs.WellFormed.{well_formed}
use Rattle.protocol.specs.Calls.{write, outcome}
use Rattle.protocol.specs.Claims.{OnlyRowsOf, EqualIn}
use Rattle.ordering.specs.declared.Order.{Order}
use Rattle.ordering.specs.Rounds.{patch_of, writing, Round, round_of, order_in}

-- an order's write is a single write, whatever the byte holds that is lent to this for the size of the set called: the same refusal, table and sheet
unfoldable pub AnyByte : Type 0
AnyByte = (t s : List ℕ) (r x : ℕ) (o : Order)
    → let a = outcome t (write (writing r s o)) in
    let b = outcome t (write (record { c = o.coordinator; r = r; offset = o.offset; patch = patch_of o; called = x ∷ []; file = o.file; sheet = s; club = o.club })) in
    (a.refusal ≡ b.refusal) × (a.table ≡ b.table) × (a.sheet ≡ b.sheet)

-- demand 1 with its exception, "those stay": done or refused, a round alters only rows of machines that answered
unfoldable pub RoundAltersOnly : Type 0
RoundAltersOnly = (t s : List ℕ) (r : ℕ) (os : List Order) → OnlyRowsOf r t (round_of t s r os).table

-- a well-formed table stays so
unfoldable pub RoundStaysFormed : Type 0
RoundStaysFormed = (t s : List ℕ) (r : ℕ) (os : List Order) → well_formed t ≡ true → well_formed (round_of t s r os).table ≡ true

-- "A write leaves other files' parts byte for byte": a round leaves those that none of its orders names, and every row's head
pub record FilesStay (os : List Order) (t u : List ℕ) : Type 0 where
  pub heads : (i : ℕ) → Within (used_of t) i → take 32 (row_bytes u i) ≡ take 32 (row_bytes t i)
  pub copies : (i q : ℕ) → Within (used_of t) i → Each (λ o. o.file ≢ q) os → copy_bytes u q i ≡ copy_bytes t q i

unfoldable pub RoundFilesStay : Type 0
RoundFilesStay = (t s : List ℕ) (r : ℕ) (os : List Order) → FilesStay os t (round_of t s r os).table

-- rows of machines that did not answer have no part in a round: the same result, sheet and rows in R
pub record SameRound (r : ℕ) (x y : Round) : Type 0 where
  pub refusal : x.refusal ≡ y.refusal
  pub value : x.value ≡ y.value
  pub sheet : x.sheet ≡ y.sheet
  pub rows : (i : ℕ) → has r i ≡ true → row_bytes x.table i ≡ row_bytes y.table i

unfoldable pub UnansweredInRound : Type 0
UnansweredInRound = (t u s : List ℕ) (r : ℕ) (os : List Order) → EqualIn r t u → SameRound r (round_of t s r os) (round_of u s r os)

-- nor have files that no order names, as in a write: "two well-formed groups that differ only within other files" than those of p give a round the same result,
-- sheet and copies of the files of p
pub record EqualInFiles (p : ℕ → Bool) (t u : List ℕ) : Type 0 where
  pub formed : well_formed t ≡ true
  pub formed-too : well_formed u ≡ true
  pub header : take 16 t ≡ take 16 u
  pub heads : (i : ℕ) → Within (used_of t) i → take 32 (row_bytes t i) ≡ take 32 (row_bytes u i)
  pub copies : (i q : ℕ) → Within (used_of t) i → p q ≡ true → copy_bytes t q i ≡ copy_bytes u q i

pub record SameInFiles (p : ℕ → Bool) (t : List ℕ) (x y : Round) : Type 0 where
  pub refusal : x.refusal ≡ y.refusal
  pub value : x.value ≡ y.value
  pub sheet : x.sheet ≡ y.sheet
  pub copies : (i q : ℕ) → Within (used_of t) i → p q ≡ true → copy_bytes x.table q i ≡ copy_bytes y.table q i

unfoldable pub OtherFilesInRound : Type 0
OtherFilesInRound = (p : ℕ → Bool) (t u s : List ℕ) (r : ℕ) (os : List Order) → Each (λ o. p o.file ≡ true) os → EqualInFiles p t u
    → SameInFiles p t (round_of t s r os) (round_of u s r os)

-- "up to 64 orders": no more are done, and no more than there are
unfoldable pub AtMost64 : Type 0
AtMost64 = (t s : List ℕ) (r : ℕ) (os : List Order) → ((round_of t s r os).value ≤ 64) × ((round_of t s r os).value ≤ length os)

-- a done round has done all its orders
unfoldable pub AllDone : Type 0
AllDone = (t s : List ℕ) (r : ℕ) (os : List Order) → (round_of t s r os).refusal ≡ 0 → (round_of t s r os).value ≡ length os

-- "a 65th order, after the 64, by 4": where 64 are done, one more is refused by 4, and the 64 stay
unfoldable pub SixtyFifth : Type 0
SixtyFifth = (t s : List ℕ) (r : ℕ) (os ps : List Order) (p : Order) → length os ≡ 64 → (round_of t s r os).refusal ≡ 0
    → round_of t s r (os ++ (p ∷ ps)) ≡ record { refusal = 4; value = 64; table = (round_of t s r os).table; sheet = (round_of t s r os).sheet }

-- "unread": it, and what stands behind it, may be any orders
unfoldable pub Unread : Type 0
Unread = (t s : List ℕ) (r : ℕ) (os ps qs : List Order) (p q : Order) → length os ≡ 64 → round_of t s r (os ++ (p ∷ ps)) ≡ round_of t s r (os ++ (q ∷ qs))

-- an order's bytes 14 and 15 are unread
unfoldable pub TwoUnread : Type 0
TwoUnread = (xs ys : List ℕ) → take 14 xs ≡ take 14 ys → order_in xs ≡ order_in ys
