-- A set as a number; the call by the answers to its questions.
use mathlib.Core.Path.{◌≡◌, refl, sym, ◌∙◌, ap, ap₂}
use mathlib.Core.Bool.{Bool, true, false, cond}
use mathlib.Core.List.{List}
use Prim.Native.Nat.{ℕ, zero, suc, ◌+◌, ◌-◌, ◌*◌, ◌/◌, ◌%◌, ◌^◌, ◌<◌}
use native.Mathlib.Nat.{pow-suc}
use native.Mathlib.Omega.{arith}
use lib.Dec.{eqb, leb}
use lib.ListN.{length}
use borrow.Author.Tests.{le-leb, eq-eqb, eqb-true, eqb-false, ne_eqb}
use Rattle.sets.specs.Upto.{Within, count}
use Rattle.sets.specs.Sets.{has}
use Rattle.sets.proofs.SetLaws.{has-pushed}
use Rattle.quorums.specs.declared.Kind.{Kind}
use Rattle.quorums.specs.declared.Kind.TheVariants.{Read, Write}
use Rattle.quorums.specs.Codes.{code_of}
use Rattle.octets.specs.Bytes.{bytes_of, put}
use Rattle.octets.proofs.ByteLaws.{length-bytes, put_all}
use Rattle.table.specs.WellFormed.{well_formed}
use Rattle.asking.specs.Asking.{first_no}
use Rattle.protocol.specs.Calls.{is_used}
use Rattle.choosing.specs.Choosing.{kind_of, first_called, number_of, choice_questions, Chosen, chosen}

number-ext : (n : ℕ) (p q : ℕ → Bool) → ((i : ℕ) → Within n i → p i ≡ q i) → number_of n p ≡ number_of n q
unfolding number_of
number-ext zero p q e = refl
number-ext (suc n) p q e = ap₂ (λ (b : Bool) (m : ℕ). cond b 1 0 + 2 * m) (e 1 (omega arith)) (number-ext n (λ i. p (suc i)) (λ i. q (suc i)) (λ i w. e (suc i) (omega arith)))

-- the number of a set that is one already
pub number_is : (n s : ℕ) → s < 2 ^ n → number_of n (has s) ≡ s
unfolding number_of
number_is zero s h = omega arith
number_is (suc n) s h =
    let half : s / 2 < 2 ^ n = omega (arith, pow-suc 2 n) in
    ap (λ (b : Bool). cond b 1 0 + 2 * number_of n (λ i. has s (suc i))) low
    ∙ ap (λ (m : ℕ). cond (eqb (s % 2) 1) 1 0 + 2 * m) (number-ext n (λ i. has s (suc i)) (has (s / 2)) next ∙ number_is n (s / 2) half)
    ∙ sym (whole (eqb (s % 2) 1) refl)
  where
    whole : (b : Bool) → eqb (s % 2) 1 ≡ b → s ≡ cond b 1 0 + 2 * (s / 2)
    whole true e = omega (arith, eqb-true (s % 2) 1 e)
    whole false e = let d : s % 2 ≡ 1 → ⊥ = eqb-false (s % 2) 1 e in omega arith

    swap : (b : Bool) → cond b 1 0 + 2 * (s / 2) ≡ 2 * (s / 2) + cond b 1 0
    swap true = omega arith
    swap false = omega arith

    pushed : has s ≡ (λ (k : ℕ). cond (eqb k 1) (eqb (s % 2) 1) (has (s / 2) (k - 1)))
    pushed = ap has (whole (eqb (s % 2) 1) refl ∙ swap (eqb (s % 2) 1)) ∙ has-pushed (s / 2) (eqb (s % 2) 1)

    low : has s 1 ≡ eqb (s % 2) 1
    low = ap (λ (f : ℕ → Bool). f 1) pushed

    next : (i : ℕ) → Within n i → has s (suc i) ≡ has (s / 2) i
    next zero w = absurd (omega arith)
    next (suc k) w =
        let b : suc (suc k) - 1 ≡ suc k = omega arith in
        ap (λ (f : ℕ → Bool). f (suc (suc k))) pushed ∙ rw (ne_eqb (suc (suc k)) 1 (λ z. omega arith), b)

-- ---- a kind and its number
pub kind-is : (k : Kind) (n : ℕ) → code_of k ≡ n → kind_of n ≡ k
unfolding kind_of
kind-is Read n e = rw (eq-eqb n 0 (sym e))
kind-is Write n e = rw (ne_eqb n 0 (λ z. omega (arith, e)))

pub kind-low : (k : Kind) (n : ℕ) → code_of k ≡ n → leb n 1 ≡ true
kind-low Read n e = le-leb n 1 (omega (arith, e))
kind-low Write n e = le-leb n 1 (omega (arith, e))

-- ---- the call by the answers to its questions
abbrev refused_by : ℕ → List ℕ → Chosen
refused_by n set = record { refusal = n; value = 0; set = set }

module _ (t : List ℕ) (c kind : ℕ) (set : List ℕ) where
  pub no_one : well_formed t ≡ false → chosen t c kind set ≡ refused_by 1 set
  unfolding chosen choice_questions first_no
  no_one a = rw a

  pub no-two : well_formed t ≡ true → is_used t c ≡ false → chosen t c kind set ≡ refused_by 2 set
  unfolding chosen choice_questions first_no
  no-two a b = rw (a, b)

  pub no-four : well_formed t ≡ true → is_used t c ≡ true → leb kind 1 ≡ false → chosen t c kind set ≡ refused_by 4 set
  unfolding chosen choice_questions first_no
  no-four a b d = rw (a, b, d)

  pub no-five : well_formed t ≡ true → is_used t c ≡ true → leb kind 1 ≡ true → eqb (length set) 8 ≡ false → chosen t c kind set ≡ refused_by 5 set
  unfolding chosen choice_questions first_no
  no-five a b d e = rw (a, b, d, e)

  -- s is the set that c calls first
  pub all_yes : well_formed t ≡ true → is_used t c ≡ true → leb kind 1 ≡ true → length set ≡ 8 → (s : ℕ) → s < 2 ^ 64 → has s ≡ first_called (kind_of kind) t c
      → ((chosen t c kind set).refusal ≡ 0) × (count 64 (has s) ≡ (chosen t c kind set).value) × (put 0 (bytes_of 8 s) set ≡ (chosen t c kind set).set)
  unfolding chosen choice_questions first_no
  all_yes a b d l s small e =
      let n : number_of 64 (first_called (kind_of kind) t c) ≡ s = ap (number_of 64) (sym e) ∙ number_is 64 s small in
      rw (a, b, d, eq-eqb _ _ l, n, e) (refl, refl, put_all (bytes_of 8 s) set (length-bytes 8 s ∙ sym l))
