-- Where a text ends that has spaces behind it.
use Rattle.std.specs.Prelude.{◌≡◌, List, ℕ, ◌-◌, ◌≤◌, ◌<◌, length, get_or}

-- behind the first n bytes are spaces
abbrev pub Behind : List ℕ → ℕ → Type 0
Behind text n = (i : ℕ) → n ≤ i → i < length text → get_or text i 0 ≡ 32

-- and the last of these n is none
pub record Ends (text : List ℕ) (n : ℕ) : Type 0 where
  pub within : n ≤ length text
  pub behind : Behind text n
  pub last : 1 ≤ n → get_or text (n - 1) 0 ≡ 32 → ⊥
