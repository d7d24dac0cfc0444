-- Sets gathered by loops: those of 1 to n that pass, one by one; and sets joined, one for each of 1 to n.
use mathlib.Core.Path.{◌≡◌, refl, sym, ◌∙◌, fun_ext}
use mathlib.Core.Bool.{Bool, false, cond, ◌&&◌, ◌||◌, and-true, and-false, or-false}
use Prim.Native.Nat.{ℕ, zero, suc, ◌+◌, ◌≤◌, ◌<◌}
use native.Mathlib.Numerals.{add-one}
use native.Mathlib.Decide.{ℕ_discrete, dec_le}
use native.Mathlib.Omega.{arith}
use lib.Dec.{eqb, leb}
use borrow.Author.Tests.{eq-eqb, ne_eqb, le-leb, lt-leb}
use Rattle.sets.specs.Upto.{some}
use Rattle.sets.specs.Sets.{no_row, gaining, joining}
use Rattle.sets.proofs.SetLaws.{gain-where}

-- j is one of 1 to n, and passes
abbrev pub up_to : ℕ → (ℕ → Bool) → ℕ → Bool
up_to n q j = leb 1 j && leb j n && q j

pub none-gathered : (q : ℕ → Bool) → no_row ≡ up_to 0 q
unfolding no_row
none-gathered q = fun_ext go
  where
    go : (j : ℕ) → false ≡ up_to 0 q j
    go zero = refl
    go (suc j) = rw (lt-leb (suc j) 0 (omega arith), and-false (leb 1 (suc j)))

-- one number more
pub up-to-more : (n : ℕ) (q : ℕ → Bool) (j : ℕ) → up_to (n + 1) q j ≡ (up_to n q j || (q (n + 1) && eqb j (n + 1)))
up-to-more n q j = go (ℕ_discrete j (n + 1)) (dec_le j n)
  where
    go : Dec (j ≡ n + 1) → Dec (j ≤ n) → up_to (n + 1) q j ≡ (up_to n q j || (q (n + 1) && eqb j (n + 1)))
    go (yes e) d = rw (e, le-leb 1 (n + 1) (omega arith), le-leb (n + 1) (n + 1) (omega arith), lt-leb (n + 1) n (omega arith), eq-eqb (n + 1) (n + 1) refl) (sym (and-true (q (n + 1))))
    go (no e) (yes d) = rw (ne_eqb j (n + 1) e, le-leb j (n + 1) (omega arith), le-leb j n d, and-false (q (n + 1))) (sym (or-false _))
    go (no e) (no d) = rw (ne_eqb j (n + 1) e, lt-leb j (n + 1) (omega arith), lt-leb j n (omega arith), and-false (q (n + 1))) (sym (or-false _))

pub one-gathered : (q f : ℕ → Bool) (n : ℕ) (b : Bool) → n < 64 → f ≡ up_to n q → b ≡ q (n + 1) → cond b (gaining f (n + 1)) f ≡ up_to (n + 1) q
one-gathered q f n b few ef eb = gain-where f (n + 1) b (omega arith) ∙ fun_ext (λ j. rw (ef, eb) (sym (up-to-more n q j)))

-- ---- those that are in some one of the first n sets
pub none-joined : (q : ℕ → ℕ → Bool) → no_row ≡ (λ (i : ℕ). some 0 (q i))
unfolding no_row some
none-joined q = refl

pub one-joined : (q : ℕ → ℕ → Bool) (f g : ℕ → Bool) (n : ℕ) → f ≡ (λ (i : ℕ). some n (q i)) → g ≡ (λ (i : ℕ). q i (n + 1)) → joining f g ≡ (λ (i : ℕ). some (n + 1) (q i))
unfolding joining some
one-joined q f g n ef eg = rw (ef, eg) (fun_ext (λ i. go i (n + 1) (add-one n)))
  where
    go : (i m : ℕ) → m ≡ suc n → (some n (q i) || q i m) ≡ some m (q i)
    go i m e = rw e
