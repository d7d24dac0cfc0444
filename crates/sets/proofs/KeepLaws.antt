-- The part of a list that passes a test.
use mathlib.Core.Path.{◌≡◌, refl}
use mathlib.Core.Bool.{Bool, true, false, cond}
use mathlib.Core.List.{List, [], ◌∷◌, ◌++◌}
use Prim.Native.Nat.{ℕ, zero, suc, ◌≤◌, ◌<◌}
use native.Mathlib.Nat.{le_of_suc-le-suc, not-suc-le-zero}
use native.Mathlib.Omega.{arith}
use lib.ListN.{length, get_or}
use Rattle.sets.specs.Upto.{keep}

-- what is kept passes
pub kept : (p : ℕ → Bool) (xs : List ℕ) (k : ℕ) → k < length (keep p xs) → p (get_or (keep p xs) k 0) ≡ true
unfolding keep
kept p [] k h = absurd (not-suc-le-zero h)
kept p (x ∷ xs) k h = go (p x) refl k h (kept p xs)
  where
    go : (b : Bool) → p x ≡ b → (k : ℕ) → k < length (cond b (x ∷ keep p xs) (keep p xs)) → ((k : ℕ) → k < length (keep p xs) → p (get_or (keep p xs) k 0) ≡ true)
        → p (get_or (cond b (x ∷ keep p xs) (keep p xs)) k 0) ≡ true
    go true e zero h ih = e
    go true e (suc k) h ih = ih k (le_of_suc-le-suc h)
    go false e k h ih = ih k h

-- one number more
pub keep-more : (p : ℕ → Bool) (xs : List ℕ) (x : ℕ) → keep p (xs ++ (x ∷ [])) ≡ cond (p x) (keep p xs ++ (x ∷ [])) (keep p xs)
unfolding keep
keep-more p [] x = refl
keep-more p (a ∷ xs) x = rw (keep-more p xs x) (go (p a) (p x))
  where
    go : (b c : Bool) → cond b (a ∷ cond c (keep p xs ++ (x ∷ [])) (keep p xs)) (cond c (keep p xs ++ (x ∷ [])) (keep p xs))
        ≡ cond c (cond b (a ∷ keep p xs) (keep p xs) ++ (x ∷ [])) (cond b (a ∷ keep p xs) (keep p xs))
    go true true = refl
    go true false = refl
    go false true = refl
    go false false = refl

pub keep-length : (p : ℕ → Bool) (xs : List ℕ) → length (keep p xs) ≤ length xs
unfolding keep
keep-length p [] = omega arith
keep-length p (a ∷ xs) = go (p a) (keep-length p xs)
  where
    go : (b : Bool) → length (keep p xs) ≤ length xs → length (cond b (a ∷ keep p xs) (keep p xs)) ≤ suc (length xs)
    go true h = omega arith
    go false h = omega arith

-- where all pass, all are kept
pub keep_all : (p : ℕ → Bool) (xs : List ℕ) → ((k : ℕ) → k < length xs → p (get_or xs k 0) ≡ true) → keep p xs ≡ xs
unfolding keep
keep_all p [] each = refl
keep_all p (x ∷ xs) each = rw (each 0 (omega arith), keep_all p xs (λ k h. each (suc k) (omega arith)))
