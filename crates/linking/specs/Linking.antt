-- A chain of links, and one put in: what stands in a row by links from one to the next.
use Rattle.std.specs.Prelude.{Bool, cond, List, [], ◌∷◌, ℕ, zero, suc, eqb, ltb}

-- those from i on along the links, at most n of them; 0 ends the chain
unfoldable pub chain : (ℕ → ℕ) → ℕ → ℕ → List ℕ
chain next zero i = []
chain next (suc n) zero = []
chain next (suc n) (suc k) = suc k ∷ chain next n (next (suc k))

-- the last of the list that passes; a where none does
unfoldable pub last_of : (ℕ → Bool) → ℕ → List ℕ → ℕ
last_of p a [] = a
last_of p a (i ∷ l) = last_of p (cond (p i) i a) l

-- what follows p: the first of the chain where p is 0
unfoldable pub behind : ℕ → (ℕ → ℕ) → ℕ → ℕ
behind first next p = cond (eqb p 0) first (next p)

-- the list with w put in before the first whose name f is not below x
unfoldable pub inserted : (ℕ → ℕ) → ℕ → ℕ → List ℕ → List ℕ
inserted f x w [] = w ∷ []
inserted f x w (i ∷ l) = cond (ltb (f i) x) (i ∷ inserted f x w l) (w ∷ i ∷ l)

-- 1 to n in the order of their names f
unfoldable pub by_name : (ℕ → ℕ) → ℕ → List ℕ
by_name f zero = []
by_name f (suc n) = inserted f (f (suc n)) (suc n) (by_name f n)
