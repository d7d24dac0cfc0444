-- One record: what is written in it is read; another next index alters nothing else of it.
use mathlib.Core.Path.{◌≡◌, refl, sym, ◌∙◌, ap}
use mathlib.Core.Bool.{true, false}
use mathlib.Core.Logic.{inr}
use mathlib.Core.List.{List, ◌++◌}
use Prim.Native.Nat.{ℕ, zero, suc, ◌+◌, ◌-◌, ◌≤◌, ◌<◌}
use native.Mathlib.Omega.{arith}
use lib.ListN.{length, drop, length-append}
use lib.Seq.{take_at, drop_at, drop-drop}
use borrow.Author.Tests.{leb-true, le-leb}
use Rattle.bools.proofs.BoolLaws.{and_l, clash, same_test}
use Rattle.octets.specs.Bytes.{number, bytes_of, part, zeros, all_zero}
use Rattle.octets.proofs.ByteLaws.{length-bytes, length-zeros, zeros-zero, zeros-are, drop-put-after}
use Rattle.fields.specs.Layout.{get, store}
use Rattle.fields.proofs.FieldLaws.{length-store, get-store, get_other, part-store}
use Rattle.window.specs.Windows.{Patch, width, younger, size, start, patch_in, record_with, record_right}
use Rattle.window.specs.Claims.{Fits}

-- ---- a record written
module _ (p : Patch) (short : length p.bytes ≤ 32) where
  tail : List ℕ
  tail = p.bytes ++ zeros (32 - length p.bytes)

  pub record-long : length (record_with p) ≡ width
  unfolding record_with bytes_of width
  record-long = ap (λ (n : ℕ). suc (suc (suc (suc n)))) (length-append p.bytes (zeros (32 - length p.bytes))) ∙ omega (arith, length-zeros (32 - length p.bytes))

  pub record-last : get younger (record_with p) ≡ 0
  unfolding record_with bytes_of get younger number part
  record-last = refl

  pub record-size : get size (record_with p) ≡ length p.bytes
  unfolding record_with bytes_of get size number part
  record-size = omega arith

  pub record-start : p.offset < 65_536 → get start (record_with p) ≡ p.offset
  unfolding record_with bytes_of get start number part
  record-start h = omega arith

  pub record-bytes : part 4 (length p.bytes) (record_with p) ≡ p.bytes
  unfolding record_with bytes_of part
  record-bytes = take_at p.bytes (zeros (32 - length p.bytes)) (length p.bytes) refl

  record-rest : drop (4 + length p.bytes) (record_with p) ≡ zeros (32 - length p.bytes)
  unfolding record_with bytes_of
  record-rest = sym (drop-drop (length p.bytes) 4 (record_with p)) ∙ drop_at p.bytes (zeros (32 - length p.bytes)) (length p.bytes) refl

  pub record-patch : p.offset < 65_536 → patch_in (record_with p) ≡ p
  unfolding patch_in
  record-patch h = λ i. record {
    offset = record-start h i;
    bytes = (ap (λ (n : ℕ). part 4 n (record_with p)) record-size ∙ record-bytes) i;
  }

  pub record-right : (file : ℕ) → file < 65_536 → Fits file p → record_right file (record_with p) ≡ true
  unfolding record_right
  record-right file h f = rw (
    record-size,
    record-start (omega (arith, f.inside)),
    le-leb 1 (length p.bytes) f.some,
    le-leb (length p.bytes) 32 short,
    le-leb (p.offset + length p.bytes) file f.inside,
    record-rest,
  ) (zeros-zero (32 - length p.bytes))

-- ---- a record with another next index
module _ (x : ℕ) (r : List ℕ) (long : length r ≡ width) where
  room : younger.place + younger.width ≤ length r
  unfolding younger width
  room = omega (arith, long)

  pub relinked-long : length (store younger x r) ≡ width
  relinked-long = length-store younger x r room ∙ long

  pub relinked-next : x < 256 → get younger (store younger x r) ≡ x
  unfolding younger
  relinked-next h = get-store younger x r room (omega arith)

  pub relinked-patch : patch_in (store younger x r) ≡ patch_in r
  unfolding patch_in younger size start
  relinked-patch = λ i. record {
    offset = get_other younger x r room start (inr (omega arith)) i;
    bytes = (ap (λ (n : ℕ). part 4 n (store younger x r)) (get_other younger x r room size (inr (omega arith))) ∙ part-store younger x r room 4 (get size r) (inr (omega arith))) i;
  }

  pub relinked-right : (file : ℕ) → record_right file (store younger x r) ≡ record_right file r
  unfolding record_right younger size start store
  relinked-right file = rw (
    get_other younger x r room size (inr (omega arith)),
    get_other younger x r room start (inr (omega arith)),
    drop-put-after r 0 (bytes_of 1 x) (omega (arith, room, length-bytes 1 x)) (4 + get size r) (omega (arith, length-bytes 1 x)),
  )

-- ---- a record that holds a patch is not all zero
pub zero-size : (r : List ℕ) → length r ≡ width → all_zero r ≡ true → get size r ≡ 0
unfolding width size get number part zeros
zero-size r long z = ap (get size) (zeros-are r z ∙ ap zeros long)

pub used-record : (file : ℕ) (r : List ℕ) → length r ≡ width → record_right file r ≡ true → all_zero r ≡ false
unfolding record_right
used-record file r long e =
    same_test (all_zero r) false (λ z. absurd (omega (arith, leb-true 1 (get size r) (and_l _ _ e), zero-size r long z))) (λ z. absurd (clash z))
