-- Up and down, down and up: the claims of specs/Claims.antt, proved.
use mathlib.Core.Path.{◌≡◌, refl, sym, ◌∙◌, ap, subst}
use mathlib.Core.Bool.{true, ◌||◌}
use mathlib.Core.List.{List, [], ◌∷◌}
use Prim.Native.Nat.{ℕ, zero, suc, ◌+◌, ◌-◌, ◌*◌, ◌%◌, ◌≤◌, ◌<◌}
use native.Mathlib.Decide.{dec_le}
use native.Mathlib.Omega.{arith}
use lib.Dec.{eqb, leb}
use lib.ListN.{length, take, drop, length-drop}
use lib.Seq.{drop-drop}
use borrow.Author.Tests.{lt-leb}
use Rattle.bools.proofs.BoolLaws.{and_l, and_r}
use Rattle.sets.specs.Upto.{Within}
use Rattle.octets.specs.Bytes.{number, bytes_of, part, zeros, all_zero}
use Rattle.octets.proofs.ByteLaws.{length_part, length-zeros, zeros-are, zeros-zero, first-zeros, zero-drop}
use Rattle.octets.proofs.CodeLaws.{zero_number}
use Rattle.blocks.specs.Blocks.{block}
use Rattle.fields.specs.Layout.{get, form, form_value, grid_mark, former_oldest, reserved_in, stride_in, form_of, capacity_of, used_of, file_length_of, row_length, rows_end, row_bytes, with_rows}
use Rattle.fields.proofs.FieldLaws.{head-room, stride-third}
use Rattle.table.specs.Asked.{Sized}
use Rattle.table.specs.WellFormed.{own_form, unused_zero}
use Rattle.table.proofs.TableLaws.{row-long, Changed, many-rows, like-end}
use Rattle.table.proofs.FormLaws.{reserved-split, row-head, row-reserved}
use Rattle.table.proofs.WellFormedLaws.{own-sized, own-linked, row-right, header, long, length-is, rows_in}
use Rattle.carrying.specs.Claims.{UpDown, emptied_row, DownUp}
use Rattle.carrying.proofs.RowLaws.{early-row, emptied-long, late-row}
use Rattle.carrying.proofs.CarryLaws.{room, wide, twice, carried-to}

-- ---- an unused row is zero
pub unused-row : {t : List ℕ} (s : Sized t) → unused_zero t ≡ true → (i : ℕ) → Within (capacity_of t) i → used_of t < i → row_bytes t i ≡ zeros (row_length t)
unfolding unused_zero row_bytes block part rows_end
unused-row s z zero w h = absurd (omega arith)
unused-row {t} s z (suc k) w h =
    let d : 16 + used_of t * row_length t + (k - used_of t) * row_length t ≡ 16 + k * row_length t =
    let e : used_of t + (k - used_of t) ≡ k = omega arith in omega (arith, ap (λ (n : ℕ). n * row_length t) e) in
    let rest : drop ((k - used_of t) * row_length t) (drop (16 + used_of t * row_length t) t) ≡ drop (16 + k * row_length t) t =
    drop-drop ((k - used_of t) * row_length t) (16 + used_of t * row_length t) t ∙ ap (λ (n : ℕ). drop n t) d in
    let y : all_zero (drop (16 + k * row_length t) t) ≡ true = subst (λ (l : List ℕ). all_zero l ≡ true) rest (zero-drop ((k - used_of t) * row_length t) (drop (16 + used_of t * row_length t) t) z) in
    let r = rows_in s (suc k) (omega arith) in
    let long-enough : row_length t ≤ length (drop (16 + k * row_length t) t) = omega (arith, r, length-drop (16 + k * row_length t) t) in
    ap (take (row_length t)) (zeros-are (drop (16 + k * row_length t) t) y) ∙ first-zeros (row_length t) (length (drop (16 + k * row_length t) t)) long-enough

-- ---- before form 3 no row has an oldest record
none-early : (f : ℕ) (row : List ℕ) → Within 2 f → 32 ≤ length row → all_zero (reserved_in f row) ≡ true → part 25 1 row ≡ zeros 1
unfolding get former_oldest
none-early f row w h z =
    let all = sym (reserved-split f row (omega arith)) ∙ z in
    let old : (leb 3 f || eqb (get former_oldest row) 0) ≡ true = and_l _ _ (and_r (leb 2 f || eqb (get grid_mark row) 0) _ all) in
    let none : eqb (number (part 25 1 row)) 0 ≡ true = rw (lt-leb 3 f (omega arith)) at old in
    zeros-are (part 25 1 row) (sym (zero_number (part 25 1 row)) ∙ none) ∙ ap zeros (length_part 25 1 row (omega arith))

pub byte_of : (row : List ℕ) → all_zero row ≡ true → 32 ≤ length row → part 25 1 row ≡ zeros 1
unfolding part
byte_of row z h =
    let y = zeros-are (drop 25 row) (zero-drop 25 row z) in
    ap (take 1) y ∙ first-zeros 1 (length (drop 25 row)) (omega (arith, length-drop 25 row))

zero-byte : (row : List ℕ) (n : ℕ) → row ≡ zeros n → 32 ≤ n → part 25 1 row ≡ zeros 1
zero-byte row n e h =
    let z : all_zero row ≡ true = ap all_zero e ∙ zeros-zero n in
    let l : length row ≡ n = ap length e ∙ length-zeros n in
    byte_of row z (omega arith)

module _ (t : List ℕ) (e : own_form t ≡ true) where
  s : Sized t
  s = own-sized e

  pub own-zero : unused_zero t ≡ true
  unfolding own_form
  own-zero = search (and_l, and_r)

  row-none : Within 2 (form_of t) → (i : ℕ) → Within (capacity_of t) i → part 25 1 (row_bytes t i) ≡ zeros 1
  row-none w i v = go (dec_le i (used_of t))
    where
      go : Dec (i ≤ used_of t) → part 25 1 (row_bytes t i) ≡ zeros 1
      go (yes h) = none-early (form_of t) (row_bytes t i) w (omega (arith, wide s (omega arith) i v)) (row-reserved (form_of t) (used_of t) i (row_bytes t i) (row-head t i (row-right (own-linked e) i (omega arith))))
      go (no h) = zero-byte (row_bytes t i) (row_length t) (unused-row s own-zero i v (omega arith)) (head-room t)

-- a byte that is small is the bytes of its number
byte-back : (xs : List ℕ) (v : ℕ) → length xs ≡ 1 → number xs ≡ v → v < 256 → xs ≡ bytes_of 1 v
unfolding number bytes_of
byte-back [] v l e h = absurd (omega arith)
byte-back (x ∷ []) v l e h = let q : x ≡ v % 256 = omega arith in ap (λ (y : ℕ). y ∷ []) q
byte-back (x ∷ y ∷ zs) v l e h = absurd (omega arith)

small-form : (t : List ℕ) → Sized t → number (part 0 1 t) < 256
unfolding form_of get form form_value
small-form t s = let h = (header s.header).form in omega (arith, h)

form-byte : {t : List ℕ} → Sized t → part 0 1 t ≡ bytes_of 1 (form_of t)
unfolding form_of get form
form-byte {t} s = byte-back (part 0 1 t) (number (part 0 1 t)) (length_part 0 1 t (omega (arith, long s))) refl (small-form t s)

row-size-late : (t : List ℕ) (s : Sized t) → form_of t ≡ 3 → (i : ℕ) → Within (capacity_of t) i → length (row_bytes t i) ≡ 608 + file_length_of t
row-size-late t s f i v = room s (omega arith) i v ∙ ap (λ (g : ℕ). stride_in g 1 (file_length_of t)) f ∙ stride-third 1 (file_length_of t)

emptied-rows : (t : List ℕ) (s : Sized t) → form_of t ≡ 3 → Changed t (with_rows t (λ i. true) (λ i. emptied_row) (capacity_of t)) (capacity_of t) (λ i. true) (λ i. emptied_row)
emptied-rows t s f = many-rows t (λ i. true) (λ i. emptied_row) (capacity_of t) (rows_in s (capacity_of t) (omega arith))
    (λ i v m. emptied-long (row_bytes t i) (omega (arith, row-size-late t s f i v)) ∙ row-long t (capacity_of t) (rows_in s (capacity_of t) (omega arith)) i v)

pub up-down : UpDown
unfolding UpDown
up-down t e w =
    let s = own-sized e in
    twice s (omega arith) 3 (omega arith) (form_of t)
    ∙ carried-to s t (form_of t) (form-byte s) refl (length-is s)
    (λ i v. early-row (form_of t) (file_length_of t) (row_bytes t i) (omega arith) (room s (omega arith) i v) (row-none t e w i v))

pub down-up : DownUp
unfolding DownUp
down-up t to e f w =
    let s = own-sized e in
    let c = emptied-rows t s f in
    twice s (omega arith) to (omega arith) 3
    ∙ carried-to s _ 3 (c.like.header 0 1 (omega arith) ∙ form-byte s ∙ ap (bytes_of 1) f) (c.like.header 1 15 (omega arith)) (c.like.long ∙ length-is s ∙ sym (like-end c.like (capacity_of t)))
    (λ i v. late-row (file_length_of t) (row_bytes t i) (row-size-late t s f i v) ∙ sym (c.rows i v))
