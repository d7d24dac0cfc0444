-- A copy that the code takes out of a row, to be read or to be written: the part from byte 32 + (q − 1) × w on, w bytes long, is block q behind the head.
use mathlib.Core.Path.{◌≡◌, refl, ◌∙◌, ap}
use mathlib.Core.List.{List, ◌++◌}
use Prim.Native.Nat.{ℕ, zero, suc, ◌+◌, ◌-◌, ◌*◌, ◌≤◌}
use native.Mathlib.Nat.{suc-mul}
use native.Mathlib.Omega.{arith}
use lib.ListN.{length, take, drop}
use Rattle.octets.specs.Bytes.{put}
use Rattle.octets.proofs.CodeLaws.{part-is, part-back, part_length}
use Rattle.blocks.specs.Blocks.{block, with_block}

-- it ends within the row
pub copy-inside : (xs : List ℕ) (w q : ℕ) → 1 ≤ q → 32 + q * w ≤ length xs → 32 + (q - 1) * w + w ≤ length xs
copy-inside xs w q h r = let e : suc (q - 1) ≡ q = omega arith in omega (arith, r, suc-mul (q - 1) w, ap (λ (k : ℕ). k * w) e)

module _ (xs : List ℕ) (w q : ℕ) (h : 1 ≤ q) (r : 32 + (q - 1) * w + w ≤ length xs) where
  -- the bytes that are lent
  abbrev pub lent_copy : List ℕ
  lent_copy = take ((32 + (q - 1) * w + w) - (32 + (q - 1) * w)) (drop (32 + (q - 1) * w) xs)

  pub copy-lent : lent_copy ≡ block 32 w q xs
  unfolding block
  copy-lent = go q h
    where
      go : (p : ℕ) → 1 ≤ p → take ((32 + (p - 1) * w + w) - (32 + (p - 1) * w)) (drop (32 + (p - 1) * w) xs) ≡ block 32 w p xs
      go zero l = absurd (omega arith)
      go (suc k) l = let z : suc k - 1 ≡ k = omega arith in part-is xs (32 + (suc k - 1) * w) w (32 + k * w) w (ap (λ (m : ℕ). 32 + m * w) z) refl

  pub copy-long : length lent_copy ≡ w
  copy-long = part_length (32 + (q - 1) * w) w xs r

  -- and what comes back, changed by f
  pub copy-back : (f : List ℕ → List ℕ) (x : List ℕ) → length x ≡ length lent_copy → x ≡ f lent_copy
      → take (32 + (q - 1) * w) xs ++ (x ++ drop ((32 + (q - 1) * w + w) - (32 + (q - 1) * w)) (drop (32 + (q - 1) * w) xs)) ≡ with_block 32 w q f xs
  unfolding with_block
  copy-back f x l made = part-back (32 + (q - 1) * w) w xs x x refl (l ∙ copy-long) ∙ ap (λ (y : List ℕ). put (32 + (q - 1) * w) y xs) (made ∙ ap f copy-lent) ∙ go q h
    where
      go : (p : ℕ) → 1 ≤ p → put (32 + (p - 1) * w) (f (block 32 w p xs)) xs ≡ with_block 32 w p f xs
      go zero b = absurd (omega arith)
      go (suc k) b = let z : suc k - 1 ≡ k = omega arith in ap (λ (m : ℕ). put (32 + m * w) (f (block 32 w (suc k) xs)) xs) z
