-- What an arm of a match on numbers says, over plain variables.
use mathlib.Core.Path.{◌≡◌, sym, ap}
use mathlib.Core.Logic.{◌⊎◌, inl, inr}
use Prim.Native.Nat.{ℕ, ◌<◌}
use Prim.Native.String.{String}
use Rattle.telling.specs.Text.{in_bytes, padded}
use Rattle.telling.specs.Notices.{words, word, no_reason, reason}
use Rattle.telling.specs.Claims.{OthersHaveNone}
use Rattle.telling.proofs.Computed.{others-have-none, no_word}

-- an arm for one number
pub word-by : {n k : ℕ} → n ≡ k → padded 8 (in_bytes (word k)) ≡ padded 8 (in_bytes (word n))
word-by e = ap (λ (x : ℕ). padded 8 (in_bytes (word x))) (sym e)

pub reason-by : {n k : ℕ} → n ≡ k → padded 107 (in_bytes (reason k)) ≡ padded 107 (in_bytes (reason n))
reason-by e = ap (λ (x : ℕ). padded 107 (in_bytes (reason x))) (sym e)

-- the last arm: 0, and what is above them all
pub other_word : (n : ℕ) → (n ≡ 0) ⊎ (10 < n) → padded 8 (in_bytes "") ≡ padded 8 (in_bytes (word n))
unfolding word words
other_word n (inl e) = word-by e
other_word n (inr h) = ap (λ (s : String). padded 8 (in_bytes s)) (sym (no_word n h))

pub other-reason : (n : ℕ) → (n ≡ 0) ⊎ (20 < n) → padded 107 (in_bytes no_reason) ≡ padded 107 (in_bytes (reason n))
unfolding OthersHaveNone
other-reason n h = ap (λ (s : String). padded 107 (in_bytes s)) (sym (others-have-none n h))
