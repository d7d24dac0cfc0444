-- What the code finds out of a window: where its chain leads, and what stands in its records.
use Rattle.std.specs.Prelude.{◌≡◌, Bool, true, false, not, ◌&&◌, List, ℕ, suc, ◌+◌, ◌-◌, ◌*◌, ◌≤◌, ◌<◌, min, eqb, leb, length, get_or, drop}
use Rattle.sets.specs.Upto.{every, among}
use Rattle.octets.specs.Bytes.{all_zero}
use Rattle.blocks.specs.Blocks.{block}
use Rattle.fields.specs.Layout.{get}
use Rattle.window.specs.Windows.{Window, younger, size, start, path, window_right}

-- a window by its two parts
unfoldable pub window : ℕ → List ℕ → Window
window oldest records = record { oldest = oldest; records = records }

-- it is right, for a file of so many bytes and some version
pub record RightFor (file : ℕ) (w : Window) : Type 0 where
  pub version : ℕ
  pub right : window_right file version w ≡ true

-- "the chain visits records 1 to k once each"
unfoldable pub visits : Window → Bool
visits w = leb (length (path w)) 16 && every (length (path w)) (among (path w))

-- record x of these is not followed by the one behind it
unfoldable pub broken : List ℕ → ℕ → Bool
broken records x = not (eqb (get younger (block 0 36 x records)) (suc x))

-- "each patch has 1 to 32 bytes within L", by the head of its record
unfoldable pub head_right : ℕ → List ℕ → Bool
head_right file r = (leb 1 (get size r) && leb (get size r) 32) && leb (get start r + get size r) file

-- zeros behind the patch of a record
unfoldable pub tail_zero : List ℕ → Bool
tail_zero r = all_zero (drop (4 + get size r) r)

-- byte n of the 32 of a record that starts at a place, cut down to how far it is behind the patch
unfoldable pub over : List ℕ → ℕ → ℕ → ℕ
over r at n = min (get_or r (at + 3 + n) 0) (n - get_or r (at + 1) 0)

-- entry j is j - 31
unfoldable pub Distances : List ℕ → Type 0
Distances table = (j : ℕ) → j < 64 → get_or table j 0 ≡ j - 31

-- the first n of these records have at most 32 bytes each
unfoldable pub Short : ℕ → List ℕ → Type 0
Short n records = (x : ℕ) → x < n → get_or records (x * 36 + 1) 0 ≤ 32

-- 1 to n pass, and the one behind them, if it is one of the 16, does not
pub record Leads (p : ℕ → Bool) (n : ℕ) : Type 0 where
  pub few : n ≤ 16
  pub each : every n p ≡ true
  pub ends : n < 16 → p (suc n) ≡ false
