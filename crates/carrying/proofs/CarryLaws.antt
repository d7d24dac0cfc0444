-- A table carried over: its header, its rows; carried twice; and what it is where nothing is to be left out.
use mathlib.Core.Path.{◌≡◌, sym, ◌∙◌, ap, ap₂}
use mathlib.Core.List.{List, ◌++◌, append_assoc}
use Prim.Native.Nat.{ℕ, ◌+◌, ◌*◌, ◌≤◌, ◌<◌}
use native.Mathlib.Omega.{arith}
use lib.ListN.{length, take, length-append}
use lib.Seq.{take_all, take_at, take-add}
use Rattle.sets.specs.Upto.{Within}
use Rattle.octets.specs.Bytes.{number, bytes_of, part}
use Rattle.octets.proofs.ByteLaws.{length-bytes, number-bytes, length_part, part-front, part-back, part-part}
use Rattle.blocks.specs.Blocks.{block, in_turn}
use Rattle.blocks.proofs.BlockLaws.{in-turn-ext, length-in-turn, block-in-turn, rebuilt-to}
use Rattle.fields.specs.Layout.{get, form, capacity, used, first, file_length, stride_in, form_of, capacity_of, used_of, first_of, file_length_of, files_of, row_length, rows_end, row_bytes}
use Rattle.fields.proofs.FieldLaws.{body-in, files-former}
use Rattle.table.specs.Asked.{Sized}
use Rattle.table.proofs.TableLaws.{row-long}
use Rattle.table.proofs.WellFormedLaws.{long, rows_in}
use Rattle.carrying.specs.Moves.{carried_row, carried, carried_length}
use Rattle.carrying.proofs.RowLaws.{carried-row-long, row-twice}

-- row i of t carried over
abbrev pub row_to : ℕ → List ℕ → ℕ → List ℕ
row_to to t i = carried_row to (file_length_of t) (row_bytes t i)

-- a table from before form 4
module _ {t : List ℕ} (s : Sized t) (former : form_of t < 4) where
  pub room : (i : ℕ) → Within (capacity_of t) i → length (row_bytes t i) ≡ stride_in (form_of t) 1 (file_length_of t)
  unfolding row_length
  room i w = row-long t (capacity_of t) (rows_in s (capacity_of t) (omega arith)) i w ∙ rw (files-former t former)

  pub wide : (i : ℕ) → Within (capacity_of t) i → 32 + file_length_of t ≤ length (row_bytes t i)
  unfolding stride_in
  wide i w = omega (arith, room i w, body-in (form_of t) 1 (file_length_of t) former)

module _ {t : List ℕ} (s : Sized t) (former : form_of t < 4) (to : ℕ) (low : to < 4) where
  pub row-to-long : (i : ℕ) → Within (capacity_of t) i → length (row_to to t i) ≡ stride_in to 1 (file_length_of t)
  row-to-long i w = carried-row-long to (file_length_of t) (row_bytes t i) low (wide s former i w)

  -- ---- the header
  unfoldable pub head : List ℕ
  head = bytes_of 1 to ++ part 1 15 t

  pub head-long : length head ≡ 16
  unfolding head
  head-long = length-append (bytes_of 1 to) (part 1 15 t) ∙ omega (arith, length-bytes 1 to, length_part 1 15 t (omega (arith, long s)))

  pub carried-is : carried to t ≡ head ++ in_turn (capacity_of t) (row_to to t)
  unfolding carried head
  carried-is = sym (append_assoc (bytes_of 1 to) (part 1 15 t) (in_turn (capacity_of t) (row_to to t)))

  pub carried-size : length (carried to t) ≡ carried_length to t
  unfolding carried_length
  carried-size =
      ap length carried-is ∙ length-append head (in_turn (capacity_of t) (row_to to t))
      ∙ omega (arith, head-long, length-in-turn (stride_in to 1 (file_length_of t)) (capacity_of t) (row_to to t) row-to-long)

  -- but for byte 0 it stays
  pub carried-header : (k n : ℕ) → k + n ≤ 15 → part (1 + k) n (carried to t) ≡ part (1 + k) n t
  unfolding head
  carried-header k n h =
      ap (part (1 + k) n) carried-is ∙ part-front (1 + k) n head (in_turn (capacity_of t) (row_to to t)) (omega (arith, head-long))
      ∙ part-back 1 k n (bytes_of 1 to) (part 1 15 t) (length-bytes 1 to) ∙ part-part 1 15 k n t h

  pub carried-form : form_of (carried to t) ≡ to
  unfolding form_of get form carried part
  carried-form = ap number (take_at (bytes_of 1 to) (part 1 15 t ++ in_turn (capacity_of t) (row_to to t)) 1 (length-bytes 1 to)) ∙ number-bytes 1 to (omega arith)

  pub carried-files : files_of (carried to t) ≡ 1
  carried-files = files-former (carried to t) (rw carried-form low)

  pub carried-capacity : capacity_of (carried to t) ≡ capacity_of t
  unfolding capacity_of get capacity
  carried-capacity = ap number (carried-header 0 1 (omega arith))

  pub carried-used : used_of (carried to t) ≡ used_of t
  unfolding used_of get used
  carried-used = ap number (carried-header 1 1 (omega arith))

  pub carried_first : first_of (carried to t) ≡ first_of t
  unfolding first_of get first
  carried_first = ap number (carried-header 2 1 (omega arith))

  pub carried-file : file_length_of (carried to t) ≡ file_length_of t
  unfolding file_length_of get file_length
  carried-file = ap number (carried-header 3 2 (omega arith))

  -- ---- the rows
  pub carried-length : row_length (carried to t) ≡ stride_in to 1 (file_length_of t)
  unfolding row_length
  carried-length = rw (carried-form, carried-files, carried-file)

  pub carried_row_lem : (i : ℕ) → Within (capacity_of t) i → row_bytes (carried to t) i ≡ row_to to t i
  unfolding row_bytes
  carried_row_lem i w =
      ap₂ (λ (n : ℕ) (xs : List ℕ). block 16 n i xs) carried-length carried-is
      ∙ block-in-turn 16 (stride_in to 1 (file_length_of t)) head head-long (row_to to t) (capacity_of t) row-to-long i w

  -- carried twice is carried once
  pub twice : (f : ℕ) → carried f (carried to t) ≡ carried f t
  unfolding carried
  twice f =
      ap₂ (λ (x y : List ℕ). bytes_of 1 f ++ (x ++ y)) (carried-header 0 15 (omega arith))
      (ap (λ (n : ℕ). in_turn n (row_to f (carried to t))) carried-capacity
      ∙ in-turn-ext (capacity_of t) (row_to f (carried to t)) (row_to f t)
      (λ i w. ap₂ (carried_row f) carried-file (carried_row_lem i w) ∙ row-twice to (file_length_of t) (row_bytes t i) low (wide s former i w) f))

-- a table with the header of t but for the form, and row i carried from row i of t, for every i, is t carried over
pub carried-to : {t : List ℕ} (s : Sized t) (u : List ℕ) (f : ℕ) → part 0 1 u ≡ bytes_of 1 f → part 1 15 u ≡ part 1 15 t → length u ≡ rows_end u (capacity_of t)
    → ((i : ℕ) → Within (capacity_of t) i → row_to f t i ≡ row_bytes u i) → carried f t ≡ u
unfolding carried part rows_end row_bytes
carried-to {t} s u f e q l r =
    let rows = in_turn (capacity_of t) (λ i. block 16 (row_length u) i u) in
    ap₂ (λ (x y : List ℕ). bytes_of 1 f ++ (x ++ y)) (sym q) (in-turn-ext (capacity_of t) (row_to f t) (λ i. block 16 (row_length u) i u) r)
    ∙ ap (λ (x : List ℕ). x ++ (part 1 15 u ++ rows)) (sym e)
    ∙ sym (append_assoc (take 1 u) (part 1 15 u) rows)
    ∙ ap (λ (x : List ℕ). x ++ rows) (sym (take-add 1 15 u))
    ∙ sym (rebuilt-to 16 (row_length u) u (capacity_of t))
    ∙ take_all (16 + capacity_of t * row_length u) u (omega arith)
