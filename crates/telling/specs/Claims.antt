-- What is claimed of notices, as statements; the proofs are in proofs/.
use Rattle.std.specs.Prelude.{◌≡◌, List, [], ◌⊎◌, ℕ, ◌-◌, ◌^◌, ◌≤◌, ◌<◌, length, take, drop, replicate}
use Rattle.sets.specs.Upto.{Within}
use Rattle.telling.specs.Text.{in_bytes, spaces, last_of}
use Rattle.telling.specs.Notices.{shown_name, no_reason, reason, sentence, figures_in, Noticed, noticed}

-- ---- what a sentence tells
-- "Call, name and number can be read off the sentence again": off the buffer as the call left it, whatever call, name and number were given
unfoldable pub ReadsOff : Type 0
ReadsOff = (call name number : ℕ) (buffer : List ℕ) → Within 10 call → name < 65_536 → number < 2 ^ 32 → length buffer ≡ 160
    → figures_in (noticed call name number buffer).buffer ≡ record { call = call; name = shown_name call name; number = number }

-- "all but read, write, check and round show name 0, even if another is given": calls 1 to 10
unfoldable pub NamesShown : Type 0
NamesShown = (name : ℕ) → (shown_name 1 name ≡ 0)
    × (shown_name 2 name ≡ name)
    × (shown_name 3 name ≡ name)
    × (shown_name 4 name ≡ 0)
    × (shown_name 5 name ≡ name)
    × (shown_name 6 name ≡ 0)
    × (shown_name 7 name ≡ name)
    × (shown_name 8 name ≡ 0)
    × (shown_name 9 name ≡ 0)
    × (shown_name 10 name ≡ 0)

-- "the refused number's own reason": no other number has it
unfoldable pub OwnReasons : Type 0
OwnReasons = (m n : ℕ) → Within 20 m → reason n ≡ reason m → n ≡ m

-- "a number with no refusal behind it": 0, and from 21 on
unfoldable pub OthersHaveNone : Type 0
OthersHaveNone = (n : ℕ) → (n ≡ 0) ⊎ (20 < n) → reason n ≡ no_reason

-- ---- where it stands
-- "a lent buffer of 160 bytes": no sentence is longer, whatever the numbers
unfoldable pub SentenceFits : Type 0
SentenceFits = (call name number : ℕ) → length (sentence call name number) ≤ 160

-- the buffer holds the sentence, "the rest spaces. .. The value is the sentence's length"; a full stop ends it
pub record Tells (s : List ℕ) (o : Noticed) : Type 0 where
  pub done : o.refusal ≡ 0
  pub value : o.value ≡ length s
  pub long : length o.buffer ≡ 160
  pub text : take o.value o.buffer ≡ s
  pub rest : drop o.value o.buffer ≡ spaces (160 - o.value)
  pub stop : last_of s ≡ 46

unfoldable pub SentenceTold : Type 0
SentenceTold = (call name number : ℕ) (buffer : List ℕ) → Within 10 call → length buffer ≡ 160 → Tells (sentence call name number) (noticed call name number buffer)

-- a refusal has value 0 and leaves the buffer as it was lent
unfoldable pub RefusalLeaves : Type 0
RefusalLeaves = (call name number : ℕ) (buffer : List ℕ) → 1 ≤ (noticed call name number buffer).refusal
    → ((noticed call name number buffer).value ≡ 0) × ((noticed call name number buffer).buffer ≡ buffer)

-- ---- computed
-- whole sentences: with a name, a send's without, a joining's, and numbers with no refusal behind them
unfoldable pub SentencesShown : Type 0
SentencesShown = (sentence 3 17 6 ≡ in_bytes "Call 03 by machine 00017, number 0000000006: write refused: too few machines answered, or not the right ones; switch on more of them and try again.")
    × (sentence 4 17 9 ≡ in_bytes "Call 04 by machine 00000, number 0000000009: send refused: the machine that should send is itself behind and waits for results; send from another one.")
    × (sentence 6 40 13 ≡ in_bytes "Call 06 by machine 00000, number 0000000013: joining refused: the new machine's name is 0, or another machine has it; give it a name of its own.")
    × (sentence 7 65_535 0 ≡ in_bytes "Call 07 by machine 65535, number 0000000000: round: no refusal has this number; 0 stands for a call that was done.")
    × (sentence 10 1 4_294_967_295 ≡ in_bytes "Call 10 by machine 00000, number 4294967295: notice: no refusal has this number; 0 stands for a call that was done.")

-- a whole buffer that held 9s; the longest sentence, which leaves no space; and what is read off one
unfoldable pub NoticesShown : Type 0
NoticesShown =
    (noticed 2 17 16 (replicate 160 9)
    ≡ record { refusal = 0; value = 132; buffer = in_bytes "Call 02 by machine 00017, number 0000000016: read refused: the tournament has no file of that number; its files are numbered from 1.                            " })
    × (noticed 1 0 10 (replicate 160 9)
    ≡ record { refusal = 0; value = 160; buffer = in_bytes "Call 01 by machine 00000, number 0000000010: founding refused: the receiver waits for no results, or for newer ones than the sender has: then send from another." })
    × (figures_in (in_bytes "Call 07 by machine 65535, number 4294967295: round: no refusal has this number; 0 stands for a call that was done.")
    ≡ record { call = 7; name = 65_535; number = 4_294_967_295 })

-- refused calls: the numbers beside 1 to 10 and one of more than 32 bits, the lengths beside 160 and none, and 4 before 5
unfoldable pub RefusalsShown : Type 0
RefusalsShown = (noticed 0 17 6 (replicate 160 9) ≡ record { refusal = 4; value = 0; buffer = replicate 160 9 })
    × (noticed 11 17 6 (replicate 160 9) ≡ record { refusal = 4; value = 0; buffer = replicate 160 9 })
    × (noticed 4_294_967_298 17 6 (replicate 160 9) ≡ record { refusal = 4; value = 0; buffer = replicate 160 9 })
    × (noticed 11 17 6 (replicate 159 9) ≡ record { refusal = 4; value = 0; buffer = replicate 159 9 })
    × (noticed 10 17 6 (replicate 159 9) ≡ record { refusal = 5; value = 0; buffer = replicate 159 9 })
    × (noticed 1 17 6 (replicate 161 9) ≡ record { refusal = 5; value = 0; buffer = replicate 161 9 })
    × (noticed 2 17 21 [] ≡ record { refusal = 5; value = 0; buffer = [] })
