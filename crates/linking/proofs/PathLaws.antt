-- Chains as paths.
use mathlib.Core.Path.{◌≡◌, refl, sym, ◌∙◌, ap}
use mathlib.Core.Bool.{Bool, true, ◌&&◌}
use mathlib.Core.Logic.{⊎_elim}
use mathlib.Core.List.{List, [], ◌∷◌}
use Prim.Native.Nat.{ℕ, zero, suc, ◌≤◌}
use native.Mathlib.Omega.{arith}
use lib.Dec.{ltb}
use lib.ListN.{length}
use borrow.Author.Tests.{ne_eqb}
use Rattle.bools.proofs.BoolLaws.{clash}
use Rattle.sets.specs.Upto.{among, rises_from}
use Rattle.sets.proofs.RisingLaws.{among-head, among-tail, among-e}
use Rattle.linking.specs.Linking.{chain, behind}

-- it goes by the names of the rows on the list alone
pub rises-same : (f g : ℕ → ℕ) (a : ℕ) (xs : List ℕ) → ((j : ℕ) → among xs j ≡ true → g j ≡ f j) → rises_from a g xs ≡ rises_from a f xs
unfolding rises_from
rises-same f g a [] e = refl
rises-same f g a (x ∷ xs) e = rw (e x (among-head x xs)) (ap (λ (b : Bool). ltb a (f x) && b) (rises-same f g (f x) xs (λ j m. e j (among-tail x xs j m))))

pub chain-zero : (next : ℕ → ℕ) (m : ℕ) → chain next m 0 ≡ []
unfolding chain
chain-zero next zero = refl
chain-zero next (suc m) = refl

pub chain-suc : (next : ℕ → ℕ) (m i : ℕ) → 1 ≤ i → chain next (suc m) i ≡ i ∷ chain next m (next i)
unfolding chain
chain-suc next m zero h = absurd (omega arith)
chain-suc next m (suc i) h = refl

-- ---- paths: along `step`, xs is all that follows a
unfoldable pub Path : (ℕ → ℕ) → ℕ → List ℕ → Type 0
Path step a [] = step a ≡ 0
Path step a (x ∷ xs) = (step a ≡ x) × (1 ≤ x) × Path step x xs

pub path-rows : (step : ℕ → ℕ) (a : ℕ) (xs : List ℕ) → Path step a xs → (j : ℕ) → among xs j ≡ true → 1 ≤ j
unfolding among Path
path-rows step a [] p j e = absurd (clash e)
path-rows step a (x ∷ xs) p j e = ⊎_elim (λ m. path-rows step x xs p.2 j m) (λ q. rw (← q) p.1) (among-e x xs j e)

-- a path is one along any steps that agree on it
pub path-same : (step step' : ℕ → ℕ) (a : ℕ) (xs : List ℕ) → ((j : ℕ) → among (a ∷ xs) j ≡ true → step' j ≡ step j) → Path step a xs → Path step' a xs
unfolding Path
path-same step step' a [] e p = e a (among-head a []) ∙ p
path-same step step' a (x ∷ xs) e p =
    (e a (among-head a (x ∷ xs)) ∙ p.0, p.1, path-same step step' x xs (λ j m. e j (among-tail a (x ∷ xs) j m)) p.2)

-- ---- chains are paths
module _ (first : ℕ) (next : ℕ → ℕ) where
  step : ℕ → ℕ
  step = behind first next

  pub behind-row : (j : ℕ) → 1 ≤ j → behind first next j ≡ next j
  unfolding behind
  behind-row j h = rw (ne_eqb j 0 (λ e. omega arith))

  path-from : (m a i : ℕ) → step a ≡ i → length (chain next (suc m) i) ≤ m → Path step a (chain next (suc m) i)
  unfolding chain Path step
  path-from zero a zero e h = e
  path-from zero a (suc k) e h = absurd (omega arith)
  path-from (suc m) a zero e h = e
  path-from (suc m) a (suc k) e h = (e, omega arith, path-from m (suc k) (next (suc k)) (behind-row (suc k) (omega arith)) (omega arith))

  -- a chain that ends before its last step
  pub path-of : (m : ℕ) → length (chain next (suc m) first) ≤ m → Path (behind first next) 0 (chain next (suc m) first)
  unfolding behind step
  path-of m h = path-from m 0 first refl h

  chain-from : (m a : ℕ) (xs : List ℕ) → Path step a xs → length xs ≤ m → chain next m (step a) ≡ xs
  unfolding Path step
  chain-from m a [] p h = ap (chain next m) p ∙ chain-zero next m
  chain-from zero a (x ∷ xs) p h = absurd (omega arith)
  chain-from (suc m) a (x ∷ xs) p h =
      ap (chain next (suc m)) p.0 ∙ chain-suc next m x p.1
      ∙ ap (λ (l : List ℕ). x ∷ l) (ap (chain next m) (sym (behind-row x p.1)) ∙ chain-from m x xs p.2 (omega arith))

  -- and back, however many steps it has
  pub chain-of : (m : ℕ) (xs : List ℕ) → Path (behind first next) 0 xs → length xs ≤ m → chain next m first ≡ xs
  unfolding behind step
  chain-of m xs p h = chain-from m 0 xs p h
