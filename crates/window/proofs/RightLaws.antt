-- What a right window is, as facts; and which record is free in it.
use mathlib.Core.Path.{◌≡◌, refl}
use mathlib.Core.Bool.{true, false}
use mathlib.Core.List.{List, [], ◌∷◌}
use Prim.Native.Nat.{ℕ, zero, suc, ◌+◌, ◌-◌, ◌*◌, ◌≤◌, ◌<◌}
use native.Mathlib.Omega.{arith}
use lib.Dec.{eqb, leb}
use lib.ListN.{length, take, drop}
use lib.Seq.{drop-drop}
use borrow.Author.Tests.{leb-true, le-leb}
use Rattle.bools.proofs.BoolLaws.{and_l, and_r, and_i}
use Rattle.sets.specs.Upto.{Within, every, lowest, among}
use Rattle.sets.proofs.UptoLaws.{every-at, every_of, lowest-is, lowest-none}
use Rattle.octets.specs.Bytes.{part, all_zero}
use Rattle.octets.proofs.ByteLaws.{zero-drop}
use Rattle.blocks.specs.Blocks.{block}
use Rattle.blocks.proofs.BlockLaws.{length-block}
use Rattle.linking.specs.Linking.{behind}
use Rattle.linking.proofs.PathLaws.{Path, path-of}
use Rattle.sets.proofs.EachLaws.{only-those}
use Rattle.window.specs.Windows.{Window, places, width, record_of, next, path, record_right, window_right, free}
use Rattle.window.specs.Claims.{Whole}
use Rattle.window.proofs.PatchLaws.{used-record}

-- "the chain visits records 1 to k once each, k is at most the version, the rest are zero, and each patch has 1 to 32 bytes within L"
pub record Right (file version : ℕ) (w : Window) : Type 0 where
  pub few : length (path w) ≤ 16
  pub each : (x : ℕ) → Within (length (path w)) x → among (path w) x ≡ true
  pub young : length (path w) ≤ version
  pub rest : all_zero (drop (length (path w) * 36) w.records) ≡ true
  pub used : (x : ℕ) → Within (length (path w)) x → record_right file (record_of w x) ≡ true

pub right_is : (file version : ℕ) (w : Window) → window_right file version w ≡ true → Right file version w
unfolding window_right places width
right_is file version w e =
    let k = length (path w) in
    let e1 = and_r (leb k 16) _ e in
    let e2 = and_r (every k (among (path w))) _ e1 in
    let e3 = and_r (leb k version) _ e2 in
    record {
      few = leb-true _ _ (and_l _ _ e);
      each = every-at k _ (and_l _ _ e1);
      young = leb-true _ _ (and_l _ _ e2);
      rest = and_l _ _ e3;
      used = every-at k _ (and_r (all_zero (drop (k * 36) w.records)) _ e3);
    }

pub is_right : (file version : ℕ) (w : Window) → Right file version w → window_right file version w ≡ true
unfolding window_right places width
is_right file version w r = rw (
  le-leb (length (path w)) 16 r.few,
  every_of (length (path w)) (among (path w)) r.each,
  le-leb (length (path w)) version r.young,
  r.rest,
) (every_of (length (path w)) _ r.used)

pub record-long : (w : Window) → Whole w → (x : ℕ) → Within 16 x → length (record_of w x) ≡ 36
unfolding record_of width
record-long w long x v = length-block 0 36 w.records 16 (omega (arith, long)) x v

-- the first of bytes that are all zero
zero-take : (n : ℕ) (xs : List ℕ) → all_zero xs ≡ true → all_zero (take n xs) ≡ true
unfolding all_zero
zero-take zero xs e = refl
zero-take (suc n) [] e = e
zero-take (suc n) (x ∷ xs) e = and_i (eqb x 0) _ (and_l _ _ e) (zero-take n xs (and_r (eqb x 0) _ e))

-- behind zeros from record k on, each record is all zero
pub zero-behind : (k : ℕ) (records : List ℕ) → all_zero (drop (k * 36) records) ≡ true → (x : ℕ) → k < x → all_zero (block 0 36 x records) ≡ true
unfolding block part
zero-behind k records z zero h = absurd (omega arith)
zero-behind k records z (suc y) h =
    let n : k * 36 + (y - k) * 36 ≡ 0 + y * 36 = omega arith in
    zero-take 36 (drop (0 + y * 36) records) (rw (← n, ← drop-drop ((y - k) * 36) (k * 36) records) (zero-drop ((y - k) * 36) _ z))

module _ {file version : ℕ} (w : Window) (long : Whole w) (r : Right file version w) where
  -- its chain ends, has records 1 to k and no other
  pub right-path : Path (behind w.oldest (next w)) 0 (path w)
  unfolding path
  right-path = path-of w.oldest (next w) 16 r.few

  pub right-within : (x : ℕ) → among (path w) x ≡ true → Within (length (path w)) x
  right-within = only-those (length (path w)) (path w) refl r.each

  rest-zero : (x : ℕ) → length (path w) < x → all_zero (record_of w x) ≡ true
  unfolding record_of width
  rest-zero = zero-behind (length (path w)) w.records r.rest

  used-not : (x : ℕ) → Within (length (path w)) x → all_zero (record_of w x) ≡ false
  unfolding width
  used-not x v = used-record file (record_of w x) (record-long w long x (omega (arith, r.few))) (r.used x v)

  -- "the lowest all-zero record"
  pub free-next : length (path w) < 16 → free w ≡ suc (length (path w))
  unfolding free places
  free-next h = lowest-is 16 _ (suc (length (path w))) (omega arith) (rest-zero (suc (length (path w))) (omega arith)) (λ i p q. used-not i (omega arith))

  pub free-none : length (path w) ≡ 16 → free w ≡ 0
  unfolding free places
  free-none h = lowest-none 16 _ (λ i v. used-not i (omega arith))
