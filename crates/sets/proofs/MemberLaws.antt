-- The members of a set taken one by one, the lowest first.
use mathlib.Core.Path.{◌≡◌, refl, sym, ◌∙◌, ap, subst, fun_ext}
use mathlib.Core.Bool.{Bool, true, false, not, ◌&&◌, ◌||◌, and-true, or-false, or-true}
use Prim.Native.Nat.{ℕ, ◌-◌, ◌^◌, ◌≤◌, ◌<◌}
use native.Mathlib.Nat.{pos_of_ne-zero}
use native.Mathlib.Decide.{ℕ_discrete}
use native.Mathlib.Omega.{arith}
use lib.Dec.{eqb}
use borrow.Author.Tests.{eq-eqb, ne_eqb, not-true}
use Rattle.bools.proofs.BoolLaws.{and_l, and_r, or_r, clash}
use Rattle.sets.specs.Upto.{Within, some, lowest}
use Rattle.sets.specs.Sets.{has, no_row, losing, left_of, joining}
use Rattle.sets.proofs.UptoLaws.{some_of, lowest-at}
use Rattle.sets.proofs.SetLaws.{has_within, not-empty}

-- row i and no other
abbrev pub only : ℕ → ℕ → Bool
only i j = eqb j i

-- what a set has more than what is left of it without row i: row i
alone : (l : ℕ → Bool) (i : ℕ) → l i ≡ true → left_of l (losing l i) ≡ only i
unfolding left_of losing
alone l i member = fun_ext (λ j. go j (ℕ_discrete j i))
  where
    none : (b : Bool) → (b && not (b && true)) ≡ false
    none true = refl
    none false = refl

    go : (j : ℕ) → Dec (j ≡ i) → (l j && not (l j && not (eqb j i))) ≡ eqb j i
    go j (yes e) = rw (eq-eqb j i e, e, member)
    go j (no d) = rw (ne_eqb j i d) (none (l j))

-- of the set s the rows of p are taken, and those of `left` are left
pub record Taken (s left : ℕ) (p : ℕ → Bool) : Type 0 where
  pub all : has s ≡ joining p (has left)
  pub apart : (i : ℕ) → has left i ≡ true → p i ≡ false
  pub fewer : left ≤ s

pub none-taken : (s : ℕ) → Taken s s no_row
unfolding no_row joining
none-taken s = record { all = refl; apart = λ i e. refl; fewer = omega arith }

module _ {s left : ℕ} {p : ℕ → Bool} (t : Taken s left p) where
  -- none is left: all are taken
  pub all-taken : s < 2 ^ 64 → not (some 64 (has left)) ≡ true → has s ≡ p
  unfolding joining
  all-taken small none = t.all ∙ fun_ext (λ i. ap (λ (b : Bool). p i || b) (out i (has left i) refl) ∙ or-false (p i))
    where
      out : (i : ℕ) (b : Bool) → has left i ≡ b → has left i ≡ false
      out i true e = absurd (clash (sym (not-true _ none) ∙ some_of 64 (has left) i (has_within 64 left i (omega (arith, t.fewer)) e) e))
      out i false e = e

  -- some are left, and i is the lowest of them
  module _ (more : some 64 (has left) ≡ true) {i : ℕ} (low : i ≡ lowest 64 (has left)) where
    pub at-hand : Within 64 i × (has left i ≡ true)
    at-hand = subst (λ (x : ℕ). Within 64 x × (has left x ≡ true)) (sym low) (lowest-at 64 (has left) more)

    pub in-set : has s i ≡ true
    unfolding joining
    in-set = ap (λ (f : ℕ → Bool). f i) t.all ∙ or_r (p i) _ at-hand.1

    pub not_yet : p i ≡ false
    not_yet = t.apart i at-hand.1

    -- row i is taken
    module _ {rest : ℕ} (lost : (has rest ≡ losing (has left) (lowest 64 (has left))) × (rest ≤ left - 1)) where
      without : has rest ≡ losing (has left) i
      without = lost.0 ∙ ap (losing (has left)) (sym low)

      pub taken_out : left_of (has left) (has rest) ≡ only i
      taken_out = ap (left_of (has left)) without ∙ alone (has left) i at-hand.1

      pub fewer-left : rest < left
      fewer-left = omega (arith, lost.1, pos_of_ne-zero (not-empty left more))

      pub one-taken : Taken s rest (joining p (only i))
      unfolding joining losing
      one-taken = record {
        all = t.all ∙ fun_ext (λ j. both j (ℕ_discrete j i)) ∙ ap (joining (joining p (only i))) (sym without);
        apart = λ j e. let h : (has left j && not (eqb j i)) ≡ true = ap (λ (f : ℕ → Bool). f j) (sym without) ∙ e in
            rw (t.apart j (and_l _ _ h)) (other j (eqb j i) refl (and_r (has left j) _ h));
        fewer = omega (arith, lost.1, t.fewer);
      }
        where
          both : (j : ℕ) → Dec (j ≡ i) → (p j || has left j) ≡ ((p j || eqb j i) || (has left j && not (eqb j i)))
          both j (yes e) = rw (eq-eqb j i e, e, at-hand.1, or-true (p i))
          both j (no d) = rw (ne_eqb j i d, or-false (p j), and-true (has left j))

          other : (j : ℕ) (b : Bool) → eqb j i ≡ b → not b ≡ true → eqb j i ≡ false
          other j true e h = absurd (clash h)
          other j false e h = e
