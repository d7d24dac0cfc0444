-- The best of a set, member by member.
use mathlib.Core.Path.{◌≡◌, refl, sym, ◌∙◌, ap, fun_ext}
use mathlib.Core.Bool.{Bool, true, false, not, cond, ◌&&◌, ◌||◌, and-false, or-false, or-true}
use mathlib.Core.Logic.{◌⊎◌, inl, inr}
use Prim.Native.Nat.{ℕ, ◌+◌, ◌-◌, ◌%◌, ◌≤◌, ◌<◌, max}
use native.Mathlib.Nat.{mod-eq_of_lt}
use native.Mathlib.Decide.{ℕ_discrete}
use native.Mathlib.Omega.{arith}
use lib.Dec.{eqb, ltb}
use borrow.Author.Tests.{eq-eqb, ne_eqb, eqb-true, ltb-true, ltb-false, lt-ltb, not-true}
use Rattle.bools.proofs.BoolLaws.{and_l, and_r, and_i, or_l, or_r, or-e, clash, same_test}
use Rattle.sets.specs.Upto.{Within, some, most}
use Rattle.sets.specs.Sets.{has, no_row, gaining, losing, left_of, joining}
use Rattle.sets.proofs.UptoLaws.{some_at, some_of, most-le, most-under, most-at}
use Rattle.sets.proofs.SetLaws.{has-empty, gain-where}
use Rattle.sets.proofs.MemberLaws.{only, Taken}
use Rattle.places.specs.declared.Top.{Top}
use Rattle.places.specs.Places.{Tops, Better, Behind}

pub tops-none : (f : ℕ → ℕ) (b : Top) → b.value ≡ 0 → b.rows.bits ≡ 0 → Tops no_row f b
unfolding no_row
tops-none f b v r = record {
  value = omega (arith, most-under 64 no_row f 0 (λ i w e. absurd (clash e)));
  rows = ap has r ∙ has-empty;
}

eq-not : (i : ℕ) → not (eqb i i) ≡ false
eq-not i = ap not (eq-eqb i i refl)

-- ---- the best of the rows in p and of row i
module _ (p : ℕ → Bool) (f : ℕ → ℕ) (rows : (j : ℕ) → p j ≡ true → Within 64 j) (i : ℕ) (w : Within 64 i) where
  more : most 64 (joining p (only i)) f ≡ max (most 64 p f) (f i)
  unfolding joining
  more =
      let all = joining p (only i) in
      let here : f i ≤ most 64 all f = most-le 64 all f i w (or_r (p i) _ (eq-eqb i i refl)) in
      let old : most 64 p f ≤ most 64 all f = most-under 64 p f _ (λ j u e. most-le 64 all f j u (or_l (p j) _ e)) in
      let new : most 64 all f ≤ max (most 64 p f) (f i) = most-under 64 all f _ (λ j u e. under j u (or-e (p j) _ e)) in
      omega arith
    where
      under : (j : ℕ) → Within 64 j → (p j ≡ true) ⊎ (eqb j i ≡ true) → f j ≤ max (most 64 p f) (f i)
      under j u (inl e) = omega (arith, most-le 64 p f j u e)
      under j u (inr e) = let same : f j ≡ f i = ap f (eqb-true j i e) in omega arith

  having : (m : ℕ) → m ≡ most 64 p f → (j : ℕ)
      → cond {A = ℕ → Bool} (ltb m (f i)) (only i) (cond (eqb (f i) m) (joining (λ j. p j && eqb (f j) m) (only i)) (λ j. p j && eqb (f j) m)) j
      ≡ (joining p (only i) j && eqb (f j) (max m (f i)))
  unfolding joining
  having m em j = go (ℕ_discrete j i) (ltb m (f i)) refl (eqb (f i) m) refl
    where
      lower : m < f i → (b : Bool) → p j ≡ b → false ≡ (b && eqb (f j) (max m (f i)))
      lower h true e = sym (ne_eqb (f j) (max m (f i)) (λ q. omega (arith, most-le 64 p f j (rows j e) e)))
      lower h false e = refl

      go : Dec (j ≡ i) → (x : Bool) → ltb m (f i) ≡ x → (y : Bool) → eqb (f i) m ≡ y
          → cond {A = ℕ → Bool} x (only i) (cond y (λ j. (p j && eqb (f j) m) || eqb j i) (λ j. p j && eqb (f j) m)) j
          ≡ ((p j || eqb j i) && eqb (f j) (max m (f i)))
      go (yes e) true h y k =
          let q : f j ≡ max m (f i) = ap f e ∙ omega (arith, ltb-true) in rw (eq-eqb j i e, or-true (p j), eq-eqb (f j) (max m (f i)) q)
      go (no d) true h y k = rw (ne_eqb j i d, or-false (p j)) (lower (ltb-true m (f i) h) (p j) refl)
      go (yes e) false h true k =
          let q : f j ≡ max m (f i) = ap f e ∙ omega (arith, ltb-false, eqb-true) in
          rw (eq-eqb j i e, or-true (p j), eq-eqb (f j) (max m (f i)) q) (or-true (p j && eqb (f j) m))
      go (no d) false h true k =
          let q : max m (f i) ≡ m = omega (arith, ltb-false) in rw (ne_eqb j i d, or-false (p j), q) (or-false (p j && eqb (f j) m))
      go (yes e) false h false k =
          let q : max m (f i) ≡ m = omega (arith, ltb-false) in
          let n : eqb (f j) m ≡ false = ap (λ (x : ℕ). eqb (f x) m) e ∙ k in
          rw (eq-eqb j i e, or-true (p j), q, n) (and-false (p j))
      go (no d) false h false k = let q : max m (f i) ≡ m = omega (arith, ltb-false) in rw (ne_eqb j i d, or-false (p j), q)

  pub tops-more : (b r : Top) (v : ℕ) (one : ℕ → Bool) → Tops p f b → v ≡ f i → one ≡ only i → Better b v one r → Tops (joining p (only i)) f r
  tops-more b r v one t ev eo e =
      let value : r.value ≡ max b.value (f i) = e.value ∙ ap (max b.value) ev in
      record {
        value = value ∙ ap (λ (m : ℕ). max m (f i)) t.value ∙ sym more;
        rows = e.rows ∙ rw (ev, eo, t.rows, value) (fun_ext (having b.value t.value));
      }

-- the set of row i alone, by its place
pub row-alone : (k i : ℕ) → k + 1 ≡ i → Within 64 i → gaining (has 0) (k % 64 + 1) ≡ only i
unfolding no_row
row-alone k i e w =
    let inside : k < 64 = omega arith in
    ap (gaining (has 0)) (ap (λ (x : ℕ). x + 1) (mod-eq_of_lt inside) ∙ e) ∙ gain-where (has 0) i true w ∙ fun_ext (λ j. ap (λ (f : ℕ → Bool). f j || eqb j i) has-empty)

-- ---- the rows of q, and those of p taken since
pub joined-none : (q : ℕ → Bool) → joining q no_row ≡ q
unfolding joining no_row
joined-none q = fun_ext (λ j. or-false (q j))

pub joined-more : (q p r : ℕ → Bool) → joining (joining q p) r ≡ joining q (joining p r)
unfolding joining
joined-more q p r = fun_ext (λ j. go (q j) (p j) (r j))
  where
    go : (x y z : Bool) → ((x || y) || z) ≡ (x || (y || z))
    go true y z = refl
    go false y z = refl

pub joined-within : (q p : ℕ → Bool) → ((j : ℕ) → q j ≡ true → Within 64 j) → ((j : ℕ) → p j ≡ true → Within 64 j) → (j : ℕ) → joining q p j ≡ true → Within 64 j
unfolding joining
joined-within q p a b j m = go (or-e (q j) _ m)
  where
    go : (q j ≡ true) ⊎ (p j ≡ true) → Within 64 j
    go (inl e) = a j e
    go (inr e) = b j e

pub within_more : (p : ℕ → Bool) (i : ℕ) → ((j : ℕ) → p j ≡ true → Within 64 j) → Within 64 i → (j : ℕ) → joining p (only i) j ≡ true → Within 64 j
within_more p i a w = joined-within p (only i) a (λ j e. rw (eqb-true j i e) w)

-- ---- rows passed over: all have v
pub taken-behind : (s l : ℕ) (p : ℕ → Bool) (f : ℕ → ℕ) (v : ℕ) → Taken s l p → ((j : ℕ) → p j ≡ true → f j ≡ v) → Behind f v s l
unfolding joining
taken-behind s l p f v t e = record {
  inside = λ i m. ap (λ (g : ℕ → Bool). g i) t.all ∙ or_r (p i) _ m;
  others = λ i m n. e i (sym (or-false (p i)) ∙ ap (λ (b : Bool). p i || b) (sym n) ∙ ap (λ (g : ℕ → Bool). g i) (sym t.all) ∙ m);
  fewer = t.fewer;
}

-- one row more that has v
pub same_more : (p : ℕ → Bool) (f : ℕ → ℕ) (v i : ℕ) → ((j : ℕ) → p j ≡ true → f j ≡ v) → f i ≡ v → (j : ℕ) → joining p (only i) j ≡ true → f j ≡ v
unfolding joining
same_more p f v i e here j m = go (or-e (p j) _ m)
  where
    go : (p j ≡ true) ⊎ (eqb j i ≡ true) → f j ≡ v
    go (inl a) = e j a
    go (inr a) = ap f (eqb-true j i a) ∙ here

-- the first row has v too
module _ (f : ℕ → ℕ) (v s rest l i : ℕ) (lost : has rest ≡ losing (has s) i) (less : rest ≤ s - 1) (here : f i ≡ v) (b : Behind f v rest l) where
  pub first-behind : Behind f v s l
  unfolding losing
  first-behind = record {
    inside = λ j m. and_l _ _ (ap (λ (g : ℕ → Bool). g j) (sym lost) ∙ b.inside j m);
    others = λ j m n. go j m n (ℕ_discrete j i);
    fewer = omega (arith, b.fewer);
  }
    where
      go : (j : ℕ) → has s j ≡ true → has l j ≡ false → Dec (j ≡ i) → f j ≡ v
      go j m n (yes e) = ap f e ∙ here
      go j m n (no d) = b.others j (ap (λ (g : ℕ → Bool). g j) lost ∙ rw (m, ne_eqb j i d)) n

  pub first-passed : has l i ≡ false
  unfolding losing
  first-passed = go (has l i) refl
    where
      go : (x : Bool) → has l i ≡ x → x ≡ false
      go true m = absurd (clash (sym (eq-not i) ∙ and_r (has s i) _ (ap (λ (g : ℕ → Bool). g i) (sym lost) ∙ b.inside i m)))
      go false m = refl

module _ (f : ℕ → ℕ) (v s l : ℕ) (b : Behind f v s l) where
  pub behind-taken : Taken s l (left_of (has s) (has l))
  unfolding joining left_of
  behind-taken = record { all = fun_ext (λ i. go i (has s i) refl (has l i) refl); apart = λ i e. rw e (and-false (has s i)); fewer = b.fewer }
    where
      go : (i : ℕ) (x : Bool) → has s i ≡ x → (y : Bool) → has l i ≡ y → x ≡ ((x && not y) || y)
      go i true e true h = refl
      go i true e false h = refl
      go i false e true h = absurd (clash (sym e ∙ b.inside i h))
      go i false e false h = refl

  -- they are the best of themselves
  pub tops-behind : (i : ℕ) → Within 64 i → has s i ≡ true → has l i ≡ false → (r : Top) → r.value ≡ v → has r.rows.bits ≡ left_of (has s) (has l)
      → Tops (left_of (has s) (has l)) f r
  unfolding left_of
  tops-behind i w m n r ev er =
      let p : ℕ → Bool = λ j. has s j && not (has l j) in
      let same : (j : ℕ) → p j ≡ true → f j ≡ v = λ j e. b.others j (and_l _ _ e) (not-true _ (and_r (has s j) _ e)) in
      let in_p : p i ≡ true = rw (m, n) in
      let low : f i ≤ most 64 p f = most-le 64 p f i w in_p in
      let high : most 64 p f ≤ v = most-under 64 p f v (λ j u e. let q : f j ≡ v = same j e in omega arith) in
      let is : f i ≡ v = same i in_p in
      record { value = omega arith; rows = er ∙ fun_ext (λ j. go j (p j) (same j)) ∙ ap {B = ℕ → Bool} (λ (x : ℕ) (j : ℕ). p j && eqb (f j) x) (sym ev) }
    where
      go : (j : ℕ) (x : Bool) → (x ≡ true → f j ≡ v) → x ≡ (x && eqb (f j) v)
      go j true e = sym (eq-eqb (f j) v (e refl))
      go j false e = refl

-- some row has more than v: the highest is more than v
pub above-is : (p : ℕ → Bool) (f : ℕ → ℕ) (v : ℕ) → ltb v (most 64 p f) ≡ some 64 (λ i. p i && ltb v (f i))
above-is p f v = same_test _ _ to from
  where
    to : ltb v (most 64 p f) ≡ true → some 64 (λ i. p i && ltb v (f i)) ≡ true
    to h = go (some 64 p) refl
      where
        go : (b : Bool) → some 64 p ≡ b → some 64 (λ i. p i && ltb v (f i)) ≡ true
        go true e = let a = most-at 64 p f e in some_of 64 _ a.0 a.1 (and_i (p a.0) _ a.2 (lt-ltb v (f a.0) (omega (arith, ltb-true, a.3))))
        go false e = let z : most 64 p f ≤ 0 = most-under 64 p f 0 (λ i w t. absurd (clash (sym e ∙ some_of 64 p i w t))) in absurd (omega (arith, ltb-true))

    from : some 64 (λ i. p i && ltb v (f i)) ≡ true → ltb v (most 64 p f) ≡ true
    from h = let a = some_at 64 _ h in lt-ltb v (most 64 p f) (omega (arith, ltb-true v (f a.0) (and_r (p a.0) _ a.2), most-le 64 p f a.0 a.1 (and_l (p a.0) _ a.2)))
