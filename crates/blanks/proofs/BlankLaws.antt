-- Bytes looked through in four parts.
use mathlib.Core.Path.{◌≡◌, refl, sym, ◌∙◌, ap}
use mathlib.Core.Bool.{true, ◌&&◌}
use mathlib.Core.List.{List}
use Prim.Native.Nat.{ℕ, suc, ◌+◌, ◌-◌, ◌*◌, ◌^◌, ◌≤◌, ◌<◌}
use native.Mathlib.Decide.{ℕ_discrete, dec_lt}
use native.Mathlib.Omega.{arith}
use lib.Dec.{eqb}
use lib.ListN.{length, get_or}
use borrow.Author.Tests.{eqb-true, eq-eqb}
use Rattle.bools.proofs.BoolLaws.{and_l, and_r, and_i, same_test}
use Rattle.octets.specs.Bytes.{all_zero}
use Rattle.octets.proofs.CodeLaws.{zero-at, zero_of}
use Rattle.blanks.specs.Blanks.{blank}

module _ (s : List ℕ) (step : ℕ) where
  -- two bytes, and four
  one : (k : ℕ) → blank 0 s step k ≡ true → get_or s k 0 ≡ 0
  unfolding blank
  one k b = eqb-true (get_or s k 0) 0 b

  halves : (n k : ℕ) → blank (suc n) s step k ≡ true → (blank n s step k ≡ true) × (blank n s step (2 ^ n * step + k) ≡ true)
  unfolding blank
  halves n k b = (and_l (blank n s step k) _ b, and_r (blank n s step k) _ b)

  pair : (k : ℕ) → blank 1 s step k ≡ true → (get_or s k 0 ≡ 0) × (get_or s (1 * step + k) 0 ≡ 0)
  pair k b = let h = halves 0 k b in (one k h.0, one (1 * step + k) h.1)

  quad : (k : ℕ) → blank 2 s step k ≡ true → (get_or s k 0 ≡ 0) × (get_or s (1 * step + k) 0 ≡ 0) × (get_or s (2 * step + k) 0 ≡ 0) × (get_or s (1 * step + (2 * step + k)) 0 ≡ 0)
  quad k b = let h = halves 1 k b in let p = pair k h.0 in let q = pair (2 * step + k) h.1 in (p.0, p.1, q.0, q.1)

  -- where all four are 0 at each of the first places, all are
  module _ (count : ℕ) (long : length s ≡ 3 * step + count) (room : step ≤ count) (all : (k : ℕ) → k < count → blank 2 s step k ≡ true) where
    at : {x y : ℕ} → get_or s y 0 ≡ 0 → x ≡ y → get_or s x 0 ≡ 0
    at {x} {y} e q = ap (λ (i : ℕ). get_or s i 0) q ∙ e

    everywhere : (x : ℕ) → x < length s → get_or s x 0 ≡ 0
    everywhere x h = go (dec_lt x step) (dec_lt x (2 * step)) (dec_lt x (3 * step))
      where
        go : Dec (x < step) → Dec (x < 2 * step) → Dec (x < 3 * step) → get_or s x 0 ≡ 0
        go (yes a) b c = (quad x (all x (omega arith))).0
        go (no a) (yes b) c = at (quad (x - step) (all (x - step) (omega arith))).1 (omega arith)
        go (no a) (no b) (yes c) = at (quad (x - 2 * step) (all (x - 2 * step) (omega arith))).2 (omega arith)
        go (no a) (no b) (no c) = at (quad (x - 3 * step) (all (x - 3 * step) (omega (arith, long)))).3 (omega arith)

  none : all_zero s ≡ true → (k : ℕ) → 3 * step + k < length s → blank 2 s step k ≡ true
  unfolding blank
  none a k h = and_i _ _ (and_i _ _ (zero k (omega arith)) (zero (1 * step + k) (omega arith))) (and_i _ _ (zero (2 * step + k) (omega arith)) (zero (1 * step + (2 * step + k)) (omega arith)))
    where
      zero : (x : ℕ) → x < length s → eqb (get_or s x 0) 0 ≡ true
      zero x l = eq-eqb (get_or s x 0) 0 (zero-at s a x l)

-- ---- the first k places of the parts, and their bits joined
pub record Seen (s : List ℕ) (step bits k : ℕ) : Type 0 where
  pub zeros : bits ≡ 0 → (i : ℕ) → i < k → blank 2 s step i ≡ true
  pub empty : all_zero s ≡ true → bits ≡ 0

pub none_seen : (s : List ℕ) (step : ℕ) → Seen s step 0 0
none_seen s step = record { zeros = λ e i h. absurd (omega arith); empty = λ a. refl }

module _ (s : List ℕ) (step bits k : ℕ) (p : Seen s step bits k) where
  pub one_seen : (m more : ℕ) → 3 * step + k < length s → eqb m 0 ≡ (eqb bits 0 && eqb more 0) → eqb more 0 ≡ blank 2 s step k → Seen s step m (k + 1)
  one_seen m more h e f = record {
    zeros = λ z i l. go z i l (ℕ_discrete i k);
    empty = λ a. eqb-true m 0 (e ∙ and_i (eqb bits 0) _ (eq-eqb bits 0 (p.empty a)) (f ∙ none s step a k h));
  }
    where
      parts : m ≡ 0 → (eqb bits 0 && eqb more 0) ≡ true
      parts z = sym e ∙ eq-eqb m 0 z

      go : m ≡ 0 → (i : ℕ) → i < k + 1 → Dec (i ≡ k) → blank 2 s step i ≡ true
      go z i l (yes q) = rw q (sym f ∙ and_r (eqb bits 0) _ (parts z))
      go z i l (no d) = p.zeros (eqb-true bits 0 (and_l _ _ (parts z))) i (omega (arith, d))

  pub all_seen : length s ≡ 3 * step + k → step ≤ k → eqb bits 0 ≡ all_zero s
  all_seen long room = same_test (eqb bits 0) (all_zero s) (λ z. zero_of s (everywhere s step k long room (p.zeros (eqb-true bits 0 z)))) (λ a. eq-eqb bits 0 (p.empty a))
