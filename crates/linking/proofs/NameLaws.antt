-- 1 to n in the order of their names: there is one such order.
use mathlib.Core.Path.{◌≡◌, refl, sym, ◌∙◌, ap, ap₂}
use mathlib.Core.Bool.{Bool, true, false, ◌||◌, or-false}
use mathlib.Core.Logic.{◌⊎◌, ⊎_elim, inl, inr}
use mathlib.Core.List.{List, [], ◌∷◌}
use Prim.Native.Nat.{ℕ, zero, suc, ◌≤◌, ◌<◌}
use native.Mathlib.Decide.{ℕ_discrete}
use native.Mathlib.Omega.{arith}
use borrow.Author.Tests.{eqb-true, eq-eqb, ne_eqb}
use Rattle.bools.proofs.BoolLaws.{or_l, or_r, or-e, clash, same_test}
use Rattle.sets.specs.Upto.{Within, among, rises_from}
use Rattle.sets.proofs.UptoLaws.{last}
use Rattle.sets.proofs.RisingLaws.{among-head, among-e, rises-tail, rises-above, rises-once}
use Rattle.linking.specs.Linking.{inserted, by_name}
use Rattle.linking.proofs.InsertLaws.{inserted-among, inserted_same, inserted-rises}

module _ (f : ℕ → ℕ) where
  -- no two rows of a rising list have one name
  rises-apart : (a : ℕ) (xs : List ℕ) → rises_from a f xs ≡ true → (i j : ℕ) → among xs i ≡ true → among xs j ≡ true → f i ≡ f j → i ≡ j
  unfolding among
  rises-apart a [] h i j m n q = absurd (clash m)
  rises-apart a (x ∷ xs) h i j m n q = go (λ p r. rises-apart (f x) xs up i j p r q) (among-e x xs i m) (among-e x xs j n)
    where
      up : rises_from (f x) f xs ≡ true
      up = rises-tail f a x xs h

      go : (among xs i ≡ true → among xs j ≡ true → i ≡ j) → (among xs i ≡ true) ⊎ (x ≡ i) → (among xs j ≡ true) ⊎ (x ≡ j) → i ≡ j
      go ih (inl p) (inl r) = ih p r
      go ih (inl p) (inr r) = let l : f x < f i = rises-above f (f x) xs up i p in let e : f x ≡ f j = ap f r in absurd (omega arith)
      go ih (inr p) (inl r) = let l : f x < f j = rises-above f (f x) xs up j r in let e : f x ≡ f i = ap f p in absurd (omega arith)
      go ih (inr p) (inr r) = sym p ∙ r

  -- two rising lists of the same rows are equal
  one-order : (a b : ℕ) (xs ys : List ℕ) → rises_from a f xs ≡ true → rises_from b f ys ≡ true → ((j : ℕ) → among xs j ≡ among ys j) → xs ≡ ys
  unfolding among
  one-order a b [] [] h g e = refl
  one-order a b [] (y ∷ ys) h g e = absurd (clash (e y ∙ among-head y ys))
  one-order a b (x ∷ xs) [] h g e = absurd (clash (sym (e x) ∙ among-head x xs))
  one-order a b (x ∷ xs) (y ∷ ys) h g e = ap₂ (λ (k : ℕ) (l : List ℕ). k ∷ l) same (one-order (f x) (f y) xs ys (rises-tail f a x xs h) (rises-tail f b y ys g) rest)
    where
      same : x ≡ y
      same = go (among-e y ys x (sym (e x) ∙ among-head x xs)) (among-e x xs y (e y ∙ among-head y ys))
        where
          go : (among ys x ≡ true) ⊎ (y ≡ x) → (among xs y ≡ true) ⊎ (x ≡ y) → x ≡ y
          go (inr q) r = sym q
          go (inl p) (inr q) = q
          go (inl p) (inl q) =
              let l : f y < f x = rises-above f (f y) ys (rises-tail f b y ys g) x p in
              let k : f x < f y = rises-above f (f x) xs (rises-tail f a x xs h) y q in
              absurd (omega arith)

      none : (z : ℕ) (c : ℕ) (zs : List ℕ) → rises_from c f (z ∷ zs) ≡ true → among zs z ≡ false
      none z c zs r = same_test (among zs z) false (λ m. absurd (rises-once f z zs (rises-tail f c z zs r) z m refl)) (λ m. absurd (clash m))

      rest : (j : ℕ) → among xs j ≡ among ys j
      rest j = go (ℕ_discrete x j)
        where
          go : Dec (x ≡ j) → among xs j ≡ among ys j
          go (yes q) = rw (← q) (none x a xs h ∙ sym (none y b ys g) ∙ ap (among ys) (sym same))
          go (no d) =
              sym (or-false (among xs j)) ∙ ap (λ (c : Bool). among xs j || c) (sym (ne_eqb x j d)) ∙ e j
              ∙ ap (λ (c : Bool). among ys j || c) (ne_eqb y j (λ q. d (same ∙ q))) ∙ or-false (among ys j)

  -- ---- 1 to n by name
  pub by_name-within : (n j : ℕ) → among (by_name f n) j ≡ true → Within n j
  unfolding by_name among
  by_name-within zero j m = absurd (clash m)
  by_name-within (suc n) j m = ⊎_elim
      (λ p. let w = by_name-within n j p in omega arith)
      (λ p. let q : suc n ≡ j = eqb-true _ _ p in omega arith)
      (or-e _ _ (sym (inserted-among f (f (suc n)) (suc n) (by_name f n) j) ∙ m))

  by_name-each : (n j : ℕ) → Within n j → among (by_name f n) j ≡ true
  unfolding by_name
  by_name-each zero j w = absurd (omega arith)
  by_name-each (suc n) j w = inserted-among f (f (suc n)) (suc n) (by_name f n) j ∙ ⊎_elim
      (λ q. or_r (among (by_name f n) j) _ (eq-eqb _ _ (sym q)))
      (λ v. or_l (among (by_name f n) j) _ (by_name-each n j v))
      (last n j w)

  by_name-rises : (n : ℕ) → ((j : ℕ) → Within n j → 1 ≤ f j) → ((i j : ℕ) → Within n i → Within n j → f i ≡ f j → i ≡ j) → rises_from 0 f (by_name f n) ≡ true
  unfolding by_name rises_from
  by_name-rises zero pos apart = refl
  by_name-rises (suc n) pos apart = inserted-rises f (f (suc n)) (suc n) refl 0 (by_name f n) (pos (suc n) (omega arith))
      (λ j m q. let w = by_name-within n j m in let z : j ≡ suc n = apart j (suc n) (omega arith) (omega arith) q in omega arith)
      (by_name-rises n (λ j w. pos j (omega arith)) (λ i j v w. apart i j (omega arith) (omega arith)))

-- it goes by the names of 1 to n alone
pub by_name-same : (f g : ℕ → ℕ) (n : ℕ) → ((j : ℕ) → Within n j → g j ≡ f j) → by_name g n ≡ by_name f n
unfolding by_name
by_name-same f g zero e = refl
by_name-same f g (suc n) e =
    ap₂ (λ (x : ℕ) (l : List ℕ). inserted g x (suc n) l) (e (suc n) (omega arith)) (by_name-same f g n (λ j w. e j (omega arith)))
    ∙ inserted_same f g (f (suc n)) (suc n) (by_name f n) (λ j m. let w = by_name-within f n j m in e j (omega arith))

-- a list of 1 to n along which the names rise is the list in their order
pub rising-by-name : (f : ℕ → ℕ) (n : ℕ) (xs : List ℕ) → rises_from 0 f xs ≡ true → ((j : ℕ) → Within n j → among xs j ≡ true) → ((j : ℕ) → among xs j ≡ true → Within n j)
    → xs ≡ by_name f n
rising-by-name f n xs h each only = one-order f 0 0 xs (by_name f n) h
    (by_name-rises f n
    (λ j w. rises-above f 0 xs h j (each j w))
    (λ i j v w. rises-apart f 0 xs h i j (each i v) (each j w)))
    (λ j. same_test _ _ (λ m. by_name-each f n j (only j m)) (λ m. each j (by_name-within f n j m)))
