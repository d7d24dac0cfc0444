-- What is asked before the first order of a round: its first no.
use mathlib.Core.Path.{◌≡◌, refl}
use mathlib.Core.Bool.{Bool, true, false, cond}
use mathlib.Core.List.{List}
use Prim.Native.Nat.{ℕ, ◌≤◌, ◌<◌, ◌-◌}
use native.Mathlib.Omega.{arith}
use borrow.Author.Tests.{lt-ltb, le-ltb}
use lib.ListN.{replicate}
use Rattle.fields.specs.Layout.{used_of}
use Rattle.table.specs.WellFormed.{only_rows, well_formed}
use Rattle.asking.specs.Asking.{first_no}
use Rattle.grouping.specs.Grouped.{Framed}
use Rattle.grouping.proofs.FrameLaws.{frame-of}
use Rattle.sheet.specs.Sheet.{remainder, all_beyond, sheet_right}
use Rattle.orders.specs.Turns.{first_questions, Opened}
use Rattle.orders.proofs.OrderLaws.{kept-none}

-- ---- what is asked before the first order
module _ (t s : List ℕ) (r n : ℕ) where
  pub asks-sheet : sheet_right s ≡ false → 1 ≡ first_no (first_questions t s r n)
  unfolding first_questions first_no
  asks-sheet e = rw e

  pub asks-table : sheet_right s ≡ true → well_formed t ≡ false → 1 ≡ first_no (first_questions t s r n)
  unfolding first_questions first_no
  asks-table e f = rw (e, f)

  pub asks-no-more : sheet_right s ≡ true → well_formed t ≡ true → 0 < n → 0 ≡ first_no (first_questions t s r n)
  unfolding first_questions first_no
  asks-no-more e f h = rw (e, f, lt-ltb 0 n h)

  pub asks-rows : (b : Bool) → sheet_right s ≡ true → well_formed t ≡ true → n ≤ 0 → only_rows (used_of t) r ≡ b → cond b 0 2 ≡ first_no (first_questions t s r n)
  unfolding first_questions first_no
  asks-rows b e f h d = rw (e, f, le-ltb 0 n h, d)

-- ---- what it hands on
pub opened : {t s order sets : List ℕ} (left : ℕ) → Framed t order sets → sheet_right s ≡ true → left ≡ remainder s - all_beyond s
    → Opened t s order sets (record { done = 0; left = left }) (replicate 16 0)
opened left f right e = record { framed = f; ready = record { framed = frame-of f refl; right = right; few = omega arith; spare = e; kept = kept-none _ } }
