-- Lists of numbers: what stands in them, lists along which something rises strictly, and the part of one that passes a test.
use mathlib.Core.Path.{◌≡◌, refl, sym, ◌∙◌, ap, ap₂}
use mathlib.Core.Bool.{Bool, true, false, cond, ◌&&◌, ◌||◌, and-true, and-false, or_self, or-false}
use mathlib.Core.Logic.{◌⊎◌, ⊎_elim, inl, inr}
use mathlib.Core.List.{List, [], ◌∷◌, ◌++◌}
use Prim.Native.Nat.{ℕ, zero, suc, ◌+◌, ◌≤◌, ◌<◌}
use native.Mathlib.Nat.{add-zero}
use native.Mathlib.Decide.{ℕ_discrete, dec_lt}
use native.Mathlib.Omega.{arith}
use lib.Dec.{eqb, leb, ltb}
use lib.ListN.{length, get_or}
use borrow.Author.Tests.{lt-ltb, le-ltb, ltb-true, le-leb, lt-leb, leb-true, eqb-true, eq-eqb}
use Rattle.bools.proofs.BoolLaws.{and_l, and_r, and_i, or_l, or_r, or-e, same_test, clash}
use Rattle.sets.specs.Upto.{Within, count, upward, keep, among, rises_from}
use Rattle.sets.proofs.UptoLaws.{count-ext}
use Rattle.sets.proofs.CountLaws.{count-to, count-gain}
use Rattle.sets.proofs.TestLaws.{eqb_swap}

-- ---- members
pub among-head : (x : ℕ) (xs : List ℕ) → among (x ∷ xs) x ≡ true
unfolding among
among-head x xs = or_r (among xs x) _ (eq-eqb x x refl)

pub among-tail : (x : ℕ) (xs : List ℕ) (j : ℕ) → among xs j ≡ true → among (x ∷ xs) j ≡ true
unfolding among
among-tail x xs j e = or_l (among xs j) _ e

pub among-e : (x : ℕ) (xs : List ℕ) (j : ℕ) → among (x ∷ xs) j ≡ true → (among xs j ≡ true) ⊎ (x ≡ j)
unfolding among
among-e x xs j e = ⊎_elim (λ h. inl h) (λ h. inr (eqb-true x j h)) (or-e (among xs j) _ e)

-- ---- rising
module _ (f : ℕ → ℕ) where
  pub rises-head : (a x : ℕ) (xs : List ℕ) → rises_from a f (x ∷ xs) ≡ true → a < f x
  unfolding rises_from
  rises-head a x xs h = ltb-true _ _ (and_l _ _ h)

  pub rises-tail : (a x : ℕ) (xs : List ℕ) → rises_from a f (x ∷ xs) ≡ true → rises_from (f x) f xs ≡ true
  unfolding rises_from
  rises-tail a x xs h = and_r (ltb a (f x)) _ h

  -- what rises from a is above a
  pub rises-above : (a : ℕ) (xs : List ℕ) → rises_from a f xs ≡ true → (j : ℕ) → among xs j ≡ true → a < f j
  unfolding among
  rises-above a [] h j e = absurd (clash e)
  rises-above a (x ∷ xs) h j e = ⊎_elim
      (λ m. omega (arith, rises-head a x xs h, rises-above (f x) xs (rises-tail a x xs h) j m))
      (λ q. rw (← q) (rises-head a x xs h))
      (among-e x xs j e)

  -- so nothing stands in it twice
  pub rises-once : (x : ℕ) (xs : List ℕ) → rises_from (f x) f xs ≡ true → (j : ℕ) → among xs j ≡ true → j ≡ x → ⊥
  rises-once x xs h j m q = let l : f x < f j = rises-above (f x) xs h j m in let e : f j ≡ f x = ap f q in omega arith

-- ---- how many it is
-- one row more among them
gained : (p : ℕ → Bool) (a : Bool) (x i : ℕ) → ((a || eqb x i) && p i) ≡ ((a && p i) || (p x && eqb i x))
gained p a x i = rw (eqb_swap i x) (go (eqb x i) refl a)
  where
    go : (b : Bool) → eqb x i ≡ b → (a : Bool) → ((a || b) && p i) ≡ ((a && p i) || (p x && b))
    go true e true = let q : p x ≡ p i = ap p (eqb-true x i e) in rw (q, and-true (p i)) (sym (or_self (p i)))
    go true e false = let q : p x ≡ p i = ap p (eqb-true x i e) in rw q (sym (and-true (p i)))
    go false e true = rw (and-false (p x)) (sym (or-false (p i)))
    go false e false = sym (and-false (p x))

pub keep-count : (f : ℕ → ℕ) (n : ℕ) (p : ℕ → Bool) (a : ℕ) (xs : List ℕ) → rises_from a f xs ≡ true → ((j : ℕ) → among xs j ≡ true → Within n j)
    → length (keep p xs) ≡ count n (λ i. among xs i && p i)
unfolding keep among count
keep-count f n p a [] h inside = sym (count-to 0 (λ i. false) (λ i l. refl) n (omega arith))
keep-count f n p a (x ∷ xs) h inside =
    let up = rises-tail f a x xs h in
    let once : among xs x ≡ false = same_test (among xs x) false (λ m. absurd (rises-once f x xs up x m refl)) (λ z. absurd (clash z)) in
    longer (p x)
    ∙ ap (λ (k : ℕ). k + cond (p x) 1 0) (keep-count f n p (f x) xs up (λ j m. inside j (among-tail x xs j m)))
    ∙ sym (count-gain n (λ i. among xs i && p i) x (p x) (inside x (among-head x xs)) (rw once))
    ∙ count-ext n _ _ (λ i v. sym (gained p (among xs i) x i))
  where
    longer : (b : Bool) → length (cond b (x ∷ keep p xs) (keep p xs)) ≡ length (keep p xs) + cond b 1 0
    longer true = omega arith
    longer false = omega arith

-- ---- what stands in it
pub keep-among : (p : ℕ → Bool) (xs : List ℕ) (j : ℕ) → among (keep p xs) j ≡ (among xs j && p j)
unfolding keep among
keep-among p [] j = refl
keep-among p (x ∷ xs) j = go (p x) (keep-among p xs j) ∙ sym (gained p (among xs j) x j)
  where
    go : (b : Bool) → among (keep p xs) j ≡ (among xs j && p j) → among (cond b (x ∷ keep p xs) (keep p xs)) j ≡ ((among xs j && p j) || (b && eqb j x))
    go true e = ap₂ (λ (c d : Bool). c || d) e (eqb_swap x j)
    go false e = e ∙ sym (or-false (among xs j && p j))

-- ---- places
pub among-at : (xs : List ℕ) (k : ℕ) → k < length xs → among xs (get_or xs k 0) ≡ true
among-at [] k l = absurd (omega arith)
among-at (x ∷ xs) zero l = among-head x xs
among-at (x ∷ xs) (suc k) l = among-tail x xs (get_or xs k 0) (among-at xs k (omega arith))

pub place_of : (xs : List ℕ) (j : ℕ) → among xs j ≡ true → (k : ℕ) × (k < length xs) × (get_or xs k 0 ≡ j)
unfolding among
place_of [] j m = absurd (clash m)
place_of (x ∷ xs) j m = ⊎_elim
    (λ n. let r = place_of xs j n in (suc r.0, omega (arith, r.1), r.2))
    (λ q. (0, omega arith, q))
    (among-e x xs j m)

-- ---- a rising list stays one, and no two places of it hold the same
module _ (f : ℕ → ℕ) where
  rises-from : (a b : ℕ) (xs : List ℕ) → a ≤ b → rises_from b f xs ≡ true → rises_from a f xs ≡ true
  unfolding rises_from
  rises-from a b [] l h = refl
  rises-from a b (x ∷ xs) l h = and_i (ltb a (f x)) _ (lt-ltb a (f x) (omega (arith, rises-head f b x xs h))) (rises-tail f b x xs h)

  pub keep-rises : (p : ℕ → Bool) (a : ℕ) (xs : List ℕ) → rises_from a f xs ≡ true → rises_from a f (keep p xs) ≡ true
  unfolding keep rises_from
  keep-rises p a [] h = refl
  keep-rises p a (x ∷ xs) h = go (p x) (keep-rises p (f x) xs (rises-tail f a x xs h))
    where
      l : a < f x
      l = rises-head f a x xs h

      go : (b : Bool) → rises_from (f x) f (keep p xs) ≡ true → rises_from a f (cond b (x ∷ keep p xs) (keep p xs)) ≡ true
      go true r = and_i (ltb a (f x)) _ (lt-ltb a (f x) l) r
      go false r = rises-from a (f x) (keep p xs) (omega (arith, l)) r

  pub rises-at : (a : ℕ) (xs : List ℕ) → rises_from a f xs ≡ true → (k : ℕ) → k < length xs → a < f (get_or xs k 0)
  rises-at a [] h k l = absurd (omega arith)
  rises-at a (x ∷ xs) h zero l = rises-head f a x xs h
  rises-at a (x ∷ xs) h (suc k) l = omega (arith, rises-head f a x xs h, rises-at (f x) xs (rises-tail f a x xs h) k (omega arith))

  rises-later : (a : ℕ) (xs : List ℕ) → rises_from a f xs ≡ true → (j k : ℕ) → j < k → k < length xs → f (get_or xs j 0) < f (get_or xs k 0)
  rises-later a [] h j k d l = absurd (omega arith)
  rises-later a (x ∷ xs) h j zero d l = absurd (omega arith)
  rises-later a (x ∷ xs) h zero (suc k) d l = rises-at (f x) xs (rises-tail f a x xs h) k (omega arith)
  rises-later a (x ∷ xs) h (suc j) (suc k) d l = rises-later (f x) xs (rises-tail f a x xs h) j k (omega arith) (omega arith)

  pub rises-apart : (a : ℕ) (xs : List ℕ) → rises_from a f xs ≡ true → (j k : ℕ) → j < length xs → k < length xs → get_or xs j 0 ≡ get_or xs k 0 → j ≡ k
  rises-apart a xs h j k l m q = go (dec_lt j k) (dec_lt k j)
    where
      go : Dec (j < k) → Dec (k < j) → j ≡ k
      go (yes d) _ = absurd (omega (arith, rises-later a xs h j k d m, ap f q))
      go (no d) (yes c) = absurd (omega (arith, rises-later a xs h k j c l, ap f q))
      go (no d) (no c) = omega arith

-- ---- the numbers a, a + 1, .., k of them
pub upward-length : (k a : ℕ) → length (upward k a) ≡ k
unfolding upward
upward-length zero a = refl
upward-length (suc k) a = ap suc (upward-length k (suc a))

pub upward-among : (k a x : ℕ) → among (upward k a) x ≡ (leb a x && ltb x (a + k))
unfolding upward among
upward-among zero a x = sym (go (dec_lt x a))
  where
    go : Dec (x < a) → (leb a x && ltb x (a + 0)) ≡ false
    go (yes h) = rw (lt-leb a x h)
    go (no h) = rw (le-ltb x (a + 0) (omega arith)) (and-false (leb a x))
upward-among (suc k) a x = rw (upward-among k (suc a) x) (same_test _ _ to from)
  where
    to : ((leb (suc a) x && ltb x (suc a + k)) || eqb a x) ≡ true → (leb a x && ltb x (a + suc k)) ≡ true
    to h = ⊎_elim
        (λ e. and_i (leb a x) _ (le-leb a x (omega (arith, leb-true (suc a) x (and_l _ _ e)))) (lt-ltb x (a + suc k) (omega (arith, ltb-true x (suc a + k) (and_r (leb (suc a) x) _ e)))))
        (λ e. and_i (leb a x) _ (le-leb a x (omega (arith, eqb-true a x e))) (lt-ltb x (a + suc k) (omega (arith, eqb-true a x e))))
        (or-e (leb (suc a) x && ltb x (suc a + k)) (eqb a x) h)

    from : (leb a x && ltb x (a + suc k)) ≡ true → ((leb (suc a) x && ltb x (suc a + k)) || eqb a x) ≡ true
    from h = go (ℕ_discrete a x)
      where
        l : a ≤ x
        l = leb-true a x (and_l _ _ h)

        u : x < a + suc k
        u = ltb-true x (a + suc k) (and_r (leb a x) _ h)

        go : Dec (a ≡ x) → ((leb (suc a) x && ltb x (suc a + k)) || eqb a x) ≡ true
        go (yes e) = or_r (leb (suc a) x && ltb x (suc a + k)) _ (eq-eqb a x e)
        go (no d) = or_l (leb (suc a) x && ltb x (suc a + k)) _ (and_i (leb (suc a) x) _ (le-leb (suc a) x (omega (arith, l))) (lt-ltb x (suc a + k) (omega (arith, u))))

pub upward-rises : (k a b : ℕ) → b < a → rises_from b (λ x. x) (upward k a) ≡ true
unfolding upward rises_from
upward-rises zero a b h = refl
upward-rises (suc k) a b h = and_i (ltb b a) _ (lt-ltb b a h) (upward-rises k (suc a) a (omega arith))

-- one number more
pub upward-more : (k a : ℕ) → upward (suc k) a ≡ upward k a ++ ((a + k) ∷ [])
unfolding upward
upward-more zero a = ap (λ (x : ℕ). x ∷ []) (sym (add-zero a))
upward-more (suc k) a = ap (λ (l : List ℕ). a ∷ l) (upward-more k (suc a) ∙ ap (λ (x : ℕ). upward k (suc a) ++ (x ∷ [])) (omega arith))
