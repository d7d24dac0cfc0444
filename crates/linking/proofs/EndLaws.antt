-- One put in at the end of a chain, over any links.
use mathlib.Core.Path.{◌≡◌, refl, sym, ◌∙◌, ap, subst}
use mathlib.Core.Bool.{true}
use mathlib.Core.Logic.{⊎_elim}
use mathlib.Core.List.{List, [], ◌∷◌, ◌++◌}
use Prim.Native.Nat.{ℕ, zero, suc, ◌≤◌, ◌<◌}
use native.Mathlib.Omega.{arith}
use lib.ListN.{length}
use Rattle.bools.proofs.BoolLaws.{clash}
use Rattle.sets.specs.Upto.{among}
use Rattle.sets.proofs.RisingLaws.{among-head, among-tail, among-e}
use Rattle.linking.specs.Linking.{last_of, behind}
use Rattle.linking.proofs.PathLaws.{Path, path-rows, path-same, behind-row}
use Rattle.linking.proofs.InsertLaws.{last-among}

module _ (step : ℕ → ℕ) where
  -- only one path follows a
  pub path-one : (a : ℕ) (xs ys : List ℕ) → Path step a xs → Path step a ys → xs ≡ ys
  unfolding Path
  path-one a [] [] p q = refl
  path-one a [] (y ∷ ys) p q = absurd (omega (arith, p, q.0, q.1))
  path-one a (x ∷ xs) [] p q = absurd (omega (arith, q, p.0, p.1))
  path-one a (x ∷ xs) (y ∷ ys) p q =
      let e : y ≡ x = sym q.0 ∙ p.0 in
      rw e (ap (λ (l : List ℕ). x ∷ l) (path-one x xs ys p.2 (subst (λ (z : ℕ). Path step z ys) e q.2)))

  -- what follows one that is on it is shorter
  path-on : (a : ℕ) (xs : List ℕ) → Path step a xs → (j : ℕ) → among xs j ≡ true → (ys : List ℕ) × Path step j ys × (length ys < length xs)
  unfolding Path among
  path-on a [] p j m = absurd (clash m)
  path-on a (x ∷ xs) p j m = ⊎_elim
      (λ n. let r = path-on x xs p.2 j n in (r.0, r.1, omega (arith, r.2)))
      (λ (e : x ≡ j). (xs, subst (λ (z : ℕ). Path step z xs) e p.2, omega arith))
      (among-e x xs j m)

  -- so no path comes back
  pub path-apart : (a : ℕ) (xs : List ℕ) → Path step a xs → among xs a ≡ true → ⊥
  path-apart a xs p m = let r = path-on a xs p a m in omega (arith, r.2, ap length (path-one a xs r.0 p r.1))

-- x behind the last of a path
pub path-more : (step step' : ℕ → ℕ) (x : ℕ) → 1 ≤ x → step' x ≡ 0 → (a : ℕ) (xs : List ℕ) → Path step a xs → step' (last_of (λ i. true) a xs) ≡ x
    → ((j : ℕ) → among (a ∷ xs) j ≡ true → (j ≡ last_of (λ i. true) a xs → ⊥) → step' j ≡ step j) → Path step' a (xs ++ (x ∷ []))
unfolding Path last_of
path-more step step' x row end a [] p l same = (l, row, end)
path-more step step' x row end a (y ∷ ys) p l same =
    let other : a ≡ last_of (λ i. true) y ys → ⊥ = λ q. path-apart step a (y ∷ ys) p (rw q (last-among (λ i. true) y ys)) in
    (same a (among-head a (y ∷ ys)) other ∙ p.0, p.1, path-more step step' x row end y ys p.2 l (λ j m. same j (among-tail a (y ∷ ys) j m)))

-- what follows y, by itself
pub path-behind : (first : ℕ) (next : ℕ → ℕ) (y : ℕ) (ys : List ℕ) → 1 ≤ y → Path (behind first next) y ys → Path (behind (next y) next) 0 ys
unfolding Path behind
path-behind first next y [] h p = sym (behind-row first next y h) ∙ p
path-behind first next y (z ∷ zs) h p = (
  sym (behind-row first next y h) ∙ p.0,
  p.1,
  path-same (behind first next) (behind (next y) next) z zs
      (λ j m. let r : 1 ≤ j = ⊎_elim (λ n. path-rows (behind first next) z zs p.2 j n) (λ (q : z ≡ j). rw (← q) p.1) (among-e z zs j m) in
      behind-row (next y) next j r ∙ sym (behind-row first next j r)) p.2,
)
