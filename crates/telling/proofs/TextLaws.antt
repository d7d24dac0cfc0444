-- Figures written and read, and texts with spaces behind them.
use mathlib.Core.Path.{◌≡◌, refl, sym, ◌∙◌, ap}
use mathlib.Core.List.{List, [], ◌∷◌, ◌++◌}
use Prim.Native.Nat.{ℕ, zero, suc, ◌+◌, ◌-◌, ◌*◌, ◌/◌, ◌%◌, ◌^◌, ◌≤◌, ◌<◌}
use native.Mathlib.Nat.{sub-zero, pow-suc}
use native.Mathlib.Omega.{arith}
use lib.ListN.{length, get_or, take, drop, length-append, length-replicate}
use lib.Seq.{take_at, drop_at, get_or-append-add}
use Rattle.telling.specs.Text.{decimal, shown, spaces, padded, last_of}

-- ---- figures
pub length-decimal : (k v : ℕ) → length (decimal k v) ≡ k
unfolding decimal
length-decimal zero v = refl
length-decimal (suc k) v = length-append (decimal k (v / 10)) _ ∙ omega (arith, length-decimal k (v / 10))

shown-last : (n x : ℕ) (xs : List ℕ) → shown n (xs ++ (x ∷ [])) ≡ shown n xs * 10 + (x - 48)
unfolding shown
shown-last n x [] = refl
shown-last n x (y ∷ ys) = shown-last (n * 10 + (y - 48)) x ys

-- what is written is read
pub shown-decimal : (k v : ℕ) → v < 10 ^ k → shown 0 (decimal k v) ≡ v
unfolding decimal shown
shown-decimal zero v h = omega arith
shown-decimal (suc k) v h =
    let high : shown 0 (decimal k (v / 10)) ≡ v / 10 = shown-decimal k (v / 10) (omega (arith, pow-suc 10 k)) in
    shown-last 0 (48 + v % 10) (decimal k (v / 10)) ∙ omega (arith, high)

-- ---- spaces
pub length-spaces : (n : ℕ) → length (spaces n) ≡ n
unfolding spaces
length-spaces n = length-replicate {A = ℕ} n 32

pub drop-spaces : (n k : ℕ) → drop k (spaces n) ≡ spaces (n - k)
unfolding spaces
drop-spaces n zero = ap spaces (sym (sub-zero n))
drop-spaces zero (suc k) = let z : 0 - suc k ≡ 0 = omega arith in rw z
drop-spaces (suc n) (suc k) = let z : suc n - suc k ≡ n - k = omega arith in rw z (drop-spaces n k)

module _ (n : ℕ) (s : List ℕ) where
  pub length-padded : length s ≤ n → length (padded n s) ≡ n
  unfolding padded
  length-padded h = length-append s (spaces (n - length s)) ∙ omega (arith, length-spaces (n - length s))

  -- the text, and what is behind it
  pub take-padded : take (length s) (padded n s) ≡ s
  unfolding padded
  take-padded = take_at s (spaces (n - length s)) (length s) refl

  pub drop-padded : drop (length s) (padded n s) ≡ spaces (n - length s)
  unfolding padded
  drop-padded = drop_at s (spaces (n - length s)) (length s) refl

-- ---- the last byte of a text
-- a text whose last byte is not 0 is not empty
pub has_last : (s : List ℕ) → (last_of s ≡ 0 → ⊥) → 1 ≤ length s
unfolding last_of
has_last [] d = absurd (d refl)
has_last (x ∷ s) d = omega arith

-- of two texts it is that of the second
pub last-behind : (p q : List ℕ) → 1 ≤ length q → last_of (p ++ q) ≡ last_of q
unfolding last_of
last-behind p q h =
    let e : length (p ++ q) - 1 ≡ length p + (length q - 1) = omega (arith, length-append p q) in
    ap (λ (n : ℕ). get_or (p ++ q) n 0) e ∙ get_or-append-add p q (length q - 1) 0
