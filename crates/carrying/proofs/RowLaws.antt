-- One row carried over.
use mathlib.Core.Path.{◌≡◌, sym, ◌∙◌, ap}
use mathlib.Core.Logic.{◌⊎◌, inl}
use mathlib.Core.List.{List, ◌++◌, append-nil}
use Prim.Native.Nat.{ℕ, ◌+◌, ◌-◌, ◌≤◌, ◌<◌}
use native.Mathlib.Omega.{arith}
use lib.ListN.{length, take, drop, length-append}
use lib.Seq.{drop-length, take_at}
use Rattle.octets.specs.Bytes.{number, bytes_of, part, put, zeros}
use Rattle.octets.proofs.ByteLaws.{length-bytes, length_part, part-front, part-whole, part-part, part-put-in, put_same, length-zeros}
use Rattle.fields.specs.Layout.{Field, get, store, former_oldest, store_records, body_in, stride_in}
use Rattle.fields.proofs.FieldLaws.{Ends, length-store, stored_bytes, part-store, length-records, body-in, stride-early}
use Rattle.window.specs.Windows.{places, width, emptied}
use Rattle.window.proofs.AddLaws.{emptied-whole}
use Rattle.carrying.specs.Moves.{carried_row}
use Rattle.carrying.specs.Claims.{emptied_row}

-- a row that has no oldest record
pub oldest-none : (row : List ℕ) → 32 ≤ length row → part 25 1 row ≡ zeros 1 → store former_oldest 0 row ≡ row
unfolding store former_oldest bytes_of zeros
oldest-none row h e = ap (λ (p : List ℕ). put 25 p row) (sym e) ∙ put_same 25 1 row (omega arith)

module _ (xs : List ℕ) (h : 32 ≤ length xs) where
  pub cleared-long : length (store former_oldest 0 xs) ≡ length xs
  unfolding former_oldest
  cleared-long = length-store former_oldest 0 xs (omega arith)

  pub cleared-byte : part 25 1 (store former_oldest 0 xs) ≡ zeros 1
  unfolding former_oldest bytes_of zeros
  cleared-byte = stored_bytes former_oldest 0 xs (omega arith)

  pub cleared-part : (a n : ℕ) → (a + n ≤ 25) ⊎ (26 ≤ a) → part a n (store former_oldest 0 xs) ≡ part a n xs
  unfolding former_oldest
  cleared-part a n q = part-store former_oldest 0 xs (omega arith) a n q

  cleared-twice : store former_oldest 0 (store former_oldest 0 xs) ≡ store former_oldest 0 xs
  cleared-twice = oldest-none (store former_oldest 0 xs) (omega (arith, cleared-long)) cleared-byte

module _ (to file : ℕ) (row : List ℕ) (low : to < 4) (h : 32 + file ≤ length row) where
  kept-long : length (part 0 (32 + file) row) ≡ 32 + file
  kept-long = length_part 0 (32 + file) row (omega arith)

  pub front_long : length (store former_oldest 0 (part 0 (32 + file) row)) ≡ 32 + file
  front_long = cleared-long (part 0 (32 + file) row) (omega (arith, kept-long)) ∙ kept-long

  pub carried-row-long : length (carried_row to file row) ≡ stride_in to 1 file
  unfolding carried_row stride_in
  carried-row-long = length-append (store former_oldest 0 (part 0 (32 + file) row)) (zeros (body_in to 1 file - file)) ∙ omega (arith, front_long, length-zeros (body_in to 1 file - file), body-in to 1 file low)

  front-part : (a n : ℕ) → a + n ≤ 32 + file → part a n (carried_row to file row) ≡ part a n (store former_oldest 0 (part 0 (32 + file) row))
  unfolding carried_row
  front-part a n q = part-front a n (store former_oldest 0 (part 0 (32 + file) row)) (zeros (body_in to 1 file - file)) (omega (arith, front_long))

  -- but for the oldest record head and contents stay
  pub carried-part : (a n : ℕ) → (a + n ≤ 25) ⊎ (26 ≤ a) → a + n ≤ 32 + file → part a n (carried_row to file row) ≡ part a n row
  carried-part a n side q = front-part a n q ∙ cleared-part (part 0 (32 + file) row) (omega (arith, kept-long)) a n side ∙ part-part 0 (32 + file) a n row q ∙ ap (λ (k : ℕ). part k n row) (omega arith)

  pub carried-byte : part 25 1 (carried_row to file row) ≡ zeros 1
  carried-byte = front-part 25 1 (omega arith) ∙ cleared-byte (part 0 (32 + file) row) (omega (arith, kept-long))

  pub carried-get : (g : Field) → Ends g 25 → get g (carried_row to file row) ≡ get g row
  unfolding get
  carried-get g q = ap number (carried-part g.place g.width (inl q) (omega arith))

  -- carried twice is carried once
  pub row-twice : (f : ℕ) → carried_row f file (carried_row to file row) ≡ carried_row f file row
  unfolding carried_row part
  row-twice f =
      ap (λ (xs : List ℕ). store former_oldest 0 xs ++ zeros (body_in f 1 file - file))
      (take_at (store former_oldest 0 (part 0 (32 + file) row)) (zeros (body_in to 1 file - file)) (32 + file) front_long)
      ∙ ap (λ (xs : List ℕ). xs ++ zeros (body_in f 1 file - file)) (cleared-twice (part 0 (32 + file) row) (omega (arith, kept-long)))

-- before form 3 a row without oldest record stays
pub early-row : (f file : ℕ) (row : List ℕ) → f < 3 → length row ≡ stride_in f 1 file → part 25 1 row ≡ zeros 1 → carried_row f file row ≡ row
unfolding carried_row stride_in zeros
early-row f file row h l e =
    let s : 32 + body_in f 1 file ≡ 32 + file = stride-early f 1 file h in
    let n : body_in f 1 file - file ≡ 0 = omega arith in
    let m : length row ≡ 32 + file = omega arith in
    ap (λ (k : ℕ). store former_oldest 0 (part 0 (32 + file) row) ++ zeros k) n
    ∙ append-nil (store former_oldest 0 (part 0 (32 + file) row))
    ∙ ap (store former_oldest 0) (part-whole (32 + file) row m)
    ∙ oldest-none row (omega arith) e

cut-first : (file : ℕ) (row : List ℕ) → 32 + file ≤ length row → part 0 (32 + file) (store former_oldest 0 row) ≡ store former_oldest 0 (part 0 (32 + file) row)
unfolding store former_oldest
cut-first file row h = part-put-in 0 (32 + file) 25 (bytes_of 1 0) row (rw (length-bytes 1 0) (omega arith)) (omega arith)

pub emptied-long : (row : List ℕ) → 608 ≤ length row → length (emptied_row row) ≡ length row
unfolding emptied_row emptied
emptied-long row h = length-records emptied.records (store former_oldest 0 row) emptied-whole (omega (arith, cleared-long row (omega arith))) ∙ cleared-long row (omega arith)

-- the last 576 bytes made zero
filled : (xs : List ℕ) (m : ℕ) → length xs ≡ m + 576 → put (length xs - 576) (zeros 576) xs ≡ part 0 m xs ++ zeros 576
unfolding put part
filled xs m e =
    let n : length xs - 576 ≡ m = omega arith in
    let k : m + length (zeros 576) ≡ length xs = omega (arith, length-zeros 576) in
    ap (λ (j : ℕ). take j xs ++ (zeros 576 ++ drop (j + length (zeros 576)) xs)) n
    ∙ ap (λ (j : ℕ). take m xs ++ (zeros 576 ++ drop j xs)) k
    ∙ ap (λ (ys : List ℕ). take m xs ++ (zeros 576 ++ ys)) (drop-length xs)
    ∙ ap (λ (ys : List ℕ). take m xs ++ ys) (append-nil (zeros 576))

-- in form 3 it is left without a window
pub late-row : (file : ℕ) (row : List ℕ) → length row ≡ 608 + file → carried_row 3 file row ≡ emptied_row row
unfolding carried_row body_in emptied_row emptied places width store_records
late-row file row l =
    let n : file + 576 - file ≡ 576 = omega arith in
    let s : length (store former_oldest 0 row) ≡ 608 + file = cleared-long row (omega arith) ∙ l in
    ap (λ (k : ℕ). store former_oldest 0 (part 0 (32 + file) row) ++ zeros k) n ∙ ap (λ (xs : List ℕ). xs ++ zeros 576) (sym (cut-first file row (omega arith))) ∙ sym (filled (store former_oldest 0 row) (32 + file) (omega arith))
