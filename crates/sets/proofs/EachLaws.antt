-- A list of k numbers that has each of 1 to k.
use mathlib.Core.Path.{◌≡◌, refl, sym, ◌∙◌, ap}
use mathlib.Core.Bool.{Bool, true, false, cond, ◌||◌, or-false}
use mathlib.Core.Logic.{⊎_elim}
use mathlib.Core.List.{List, [], ◌∷◌}
use Prim.Native.Nat.{ℕ, zero, suc}
use native.Mathlib.Decide.{ℕ_discrete}
use native.Mathlib.Omega.{arith}
use lib.Dec.{eqb}
use lib.ListN.{length}
use borrow.Author.Tests.{eqb-true}
use Rattle.bools.proofs.BoolLaws.{clash}
use Rattle.sets.specs.Upto.{Within, among}
use Rattle.sets.proofs.RisingLaws.{among-tail, among-head, among-e}

-- the list without the first y in it
less : ℕ → List ℕ → List ℕ
less y [] = []
less y (x ∷ xs) = cond (eqb x y) xs (x ∷ less y xs)

less-length : (y : ℕ) (xs : List ℕ) → among xs y ≡ true → length xs ≡ suc (length (less y xs))
unfolding among less
less-length y [] m = absurd (clash m)
less-length y (x ∷ xs) m = go (eqb x y) m (less-length y xs)
  where
    go : (b : Bool) → (among xs y || b) ≡ true → (among xs y ≡ true → length xs ≡ suc (length (less y xs))) → suc (length xs) ≡ suc (length (cond b xs (x ∷ less y xs)))
    go true n ih = refl
    go false n ih = ap suc (ih (sym (or-false (among xs y)) ∙ n))

less-among : (y j : ℕ) → (j ≡ y → ⊥) → (xs : List ℕ) → among xs j ≡ true → among (less y xs) j ≡ true
unfolding less among
less-among y j d [] m = m
less-among y j d (x ∷ xs) m = go (eqb x y) refl (less-among y j d xs)
  where
    go : (b : Bool) → eqb x y ≡ b → (among xs j ≡ true → among (less y xs) j ≡ true) → among (cond b xs (x ∷ less y xs)) j ≡ true
    go true e ih = ⊎_elim (λ n. n) (λ (q : x ≡ j). absurd (d (sym q ∙ eqb-true x y e))) (among-e x xs j m)
    go false e ih = ⊎_elim (λ n. among-tail x (less y xs) j (ih n)) (λ (q : x ≡ j). rw (← q) (among-head x (less y xs))) (among-e x xs j m)

-- it has no other
pub only-those : (k : ℕ) (xs : List ℕ) → length xs ≡ k → ((i : ℕ) → Within k i → among xs i ≡ true) → (j : ℕ) → among xs j ≡ true → Within k j
unfolding among
only-those zero [] l each j m = absurd (clash m)
only-those zero (x ∷ xs) l each j m = absurd (omega arith)
only-those (suc k) xs l each j m =
    go (ℕ_discrete j (suc k)) (only-those k (less (suc k) xs) (omega (arith, l, less-length (suc k) xs (each (suc k) (omega arith)))) rest j)
  where
    rest : (i : ℕ) → Within k i → among (less (suc k) xs) i ≡ true
    rest i w = less-among (suc k) i (λ q. omega arith) xs (each i (omega arith))

    go : Dec (j ≡ suc k) → (among (less (suc k) xs) j ≡ true → Within k j) → Within (suc k) j
    go (yes e) ih = omega arith
    go (no d) ih = let v = ih (less-among (suc k) j d xs m) in omega arith
