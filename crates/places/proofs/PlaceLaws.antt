-- An array and a set that are filled row by row.
use mathlib.Core.Path.{◌≡◌, refl, sym, ◌∙◌, ap, ap₂, fun_ext}
use mathlib.Core.Bool.{Bool, true, false, cond, ◌&&◌, ◌||◌, or-false, or-true, and-false}
use mathlib.Core.List.{List}
use Prim.Native.Nat.{ℕ, zero, suc, ◌-◌}
use native.Mathlib.Decide.{ℕ_discrete}
use native.Mathlib.Omega.{arith}
use lib.Dec.{eqb}
use lib.ListN.{length, get_or, set, replicate}
use lib.Seq.{get_or-set_same, get_or-set_other}
use borrow.Author.Tests.{eq-eqb, ne_eqb}
use Rattle.sets.specs.Upto.{Within}
use Rattle.sets.specs.Sets.{is_row, no_row, gaining, joining}
use Rattle.sets.proofs.SetLaws.{row-yes, gain-where}
use Rattle.sets.proofs.MemberLaws.{only}
use Rattle.places.specs.Places.{placed}

pub placed_row : (xs : List ℕ) (i : ℕ) → Within 64 i → placed xs i ≡ get_or xs (i - 1) 0
unfolding placed
placed_row xs i w = rw (row-yes i w)

-- an array of zeros: what no row says
pub placed-none : (f : ℕ → ℕ) → placed (replicate 64 0) ≡ (λ (i : ℕ). cond (no_row i) (f i) 0)
unfolding placed no_row
placed-none f = fun_ext (λ i. go i (is_row i))
  where
    none : (n j : ℕ) → ◌≡◌ {A = ℕ} (get_or (replicate n 0) j 0) 0
    none zero j = refl
    none (suc n) zero = refl
    none (suc n) (suc j) = none n j

    go : (i : ℕ) (b : Bool) → ◌≡◌ {A = ℕ} (cond b (get_or (replicate 64 0) (i - 1) 0) 0) 0
    go i true = none 64 (i - 1)
    go i false = refl

-- ---- row i is added to the rows of s
module _ (s : ℕ → Bool) (i : ℕ) (w : Within 64 i) where
  -- each has its place in an array
  pub placed-more : (f : ℕ → ℕ) (xs : List ℕ) (v : ℕ) → length xs ≡ 64 → placed xs ≡ (λ (j : ℕ). cond (s j) (f j) 0) → v ≡ f i
      → placed (set xs (i - 1) v) ≡ (λ (j : ℕ). cond (joining s (only i) j) (f j) 0)
  unfolding placed joining is_row
  placed-more f xs v long e ev = fun_ext (λ j. go j (ℕ_discrete j i))
    where
      go : (j : ℕ) → Dec (j ≡ i) → placed (set xs (i - 1) v) j ≡ cond (s j || eqb j i) (f j) 0
      go j (yes q) =
          ap (placed (set xs (i - 1) v)) q ∙ placed_row (set xs (i - 1) v) i w ∙ get_or-set_same xs (i - 1) v 0 (omega arith) ∙ ev
          ∙ sym (rw (eq-eqb j i q, or-true (s j)) (ap f q))
      go zero (no d) = rw (ne_eqb zero i d, or-false (s zero)) (ap (λ (g : ℕ → ℕ). g zero) e)
      go (suc k) (no d) = rw (ne_eqb (suc k) i d, or-false (s (suc k)))
          (ap (λ (x : ℕ). cond (is_row (suc k)) x 0) (get_or-set_other xs (i - 1) (suc k - 1) v 0 (λ q. d (omega arith))) ∙ ap (λ (g : ℕ → ℕ). g (suc k)) e)

  -- those that pass are in a set
  pub gained-more : (q g : ℕ → Bool) (b : Bool) → g ≡ (λ (j : ℕ). s j && q j) → b ≡ q i → cond b (gaining g i) g ≡ (λ (j : ℕ). joining s (only i) j && q j)
  unfolding joining
  gained-more q g b eg eb = gain-where g i b w ∙ fun_ext (λ j. ap₂ (λ (h : ℕ → Bool) (x : Bool). h j || (x && eqb j i)) eg eb ∙ go j (ℕ_discrete j i))
    where
      both : (x y : Bool) → ((x && y) || (y && true)) ≡ y
      both true true = refl
      both true false = refl
      both false true = refl
      both false false = refl

      go : (j : ℕ) → Dec (j ≡ i) → ((s j && q j) || (q i && eqb j i)) ≡ ((s j || eqb j i) && q j)
      go j (yes e) = rw (e, eq-eqb i i refl, or-true (s i)) (both (s i) (q i))
      go j (no d) = rw (ne_eqb j i d, and-false (q i), or-false (s j), or-false (s j && q j))
