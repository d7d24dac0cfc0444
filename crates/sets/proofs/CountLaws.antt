-- How many pass: a test that nothing passes above m, one that gains or loses one, two tests in one, and two tests whose numbers pair.
use mathlib.Core.Path.{◌≡◌, refl, sym, ◌∙◌, ap}
use mathlib.Core.Bool.{Bool, true, false, not, cond, ◌&&◌, ◌||◌, and-true, and-false, or-false}
use mathlib.Core.Logic.{⊎_elim}
use Prim.Native.Nat.{ℕ, zero, suc, ◌+◌, ◌≤◌, ◌<◌}
use native.Mathlib.Decide.{dec_le}
use native.Mathlib.Omega.{arith}
use lib.Dec.{eqb, leb}
use borrow.Author.Tests.{eq-eqb, ne_eqb, le-leb, leb-true}
use Rattle.bools.proofs.BoolLaws.{and_l, and_r, same_test, clash}
use Rattle.sets.specs.Upto.{Within, some, count}
use Rattle.sets.specs.Sets.{losing}
use Rattle.sets.proofs.UptoLaws.{last, some_at, count-ext}
use Rattle.sets.proofs.TestLaws.{none-at}

pub count-to : (m : ℕ) (p : ℕ → Bool) → ((i : ℕ) → m < i → p i ≡ false) → (n : ℕ) → m ≤ n → count n p ≡ count m p
unfolding count
count-to m p none zero h = let z : m ≡ 0 = omega arith in rw z
count-to m p none (suc n) h = go (dec_le m n) (count-to m p none n)
  where
    go : Dec (m ≤ n) → (m ≤ n → count n p ≡ count m p) → count n p + cond (p (suc n)) 1 0 ≡ count m p
    go (yes l) ih = rw (none (suc n) (omega arith)) (omega (arith, ih l))
    go (no l) ih = let e : m ≡ suc n = omega arith in rw e

-- x is gained where b holds
pub count-gain : (n : ℕ) (p : ℕ → Bool) (x : ℕ) (b : Bool) → Within n x → p x ≡ false → count n (λ i. p i || (b && eqb i x)) ≡ count n p + cond b 1 0
unfolding count
count-gain zero p x b w off = absurd (omega arith)
count-gain (suc n) p x b w off = ⊎_elim
    (λ (q : x ≡ suc n).
    let here : p (suc n) ≡ false = ap p (sym q) ∙ off in
    let below : count n (λ i. p i || (b && eqb i x)) ≡ count n p = count-ext n _ p (λ i v. rw (ne_eqb i x (λ z. omega arith), and-false b) (or-false (p i))) in
    rw (here, eq-eqb (suc n) x (sym q), and-true b) (omega arith))
    (λ (v : Within n x).
    let apart : eqb (suc n) x ≡ false = ne_eqb (suc n) x (λ z. omega arith) in
    rw (apart, and-false b, or-false (p (suc n))) (omega (arith, count-gain n p x b v off)))
    (last n x w)

-- one that passes counts
pub count-one : (n : ℕ) (p : ℕ → Bool) (i : ℕ) → Within n i → p i ≡ true → 1 ≤ count n p
unfolding count
count-one zero p i w h = absurd (omega arith)
count-one (suc n) p i w h = ⊎_elim
    (λ (e : i ≡ suc n). let here : p (suc n) ≡ true = rw e at h in rw here (omega arith))
    (λ (v : Within n i). omega (arith, count-one n p i v h))
    (last n i w)

-- one passes exactly where one counts
pub some-count : (n : ℕ) (p : ℕ → Bool) → some n p ≡ leb 1 (count n p)
unfolding count
some-count n p = same_test _ _
    (λ e. let r = some_at n p e in le-leb 1 (count n p) (count-one n p r.0 r.1 r.2))
    (λ e. go (some n p) refl (leb-true 1 (count n p) e))
  where
    go : (b : Bool) → some n p ≡ b → 1 ≤ count n p → b ≡ true
    go true e h = refl
    go false e h = absurd (omega (arith, count-ext n p (λ i. false) (none-at n p e), count-to 0 (λ i. false) (λ i l. refl) n (omega arith)))

pub count-some : (n : ℕ) (p : ℕ → Bool) → 1 ≤ count n p → (i : ℕ) × Within n i × (p i ≡ true)
count-some n p one = some_at n p (some-count n p ∙ le-leb 1 (count n p) one)

pub count-all : (n : ℕ) → count n (λ i. true) ≡ n
unfolding count
count-all zero = refl
count-all (suc n) = omega (arith, count-all n)

-- one that passes, lost
pub count_less : (n : ℕ) (p : ℕ → Bool) (x : ℕ) → Within n x → p x ≡ true → count n p ≡ suc (count n (losing p x))
unfolding count losing
count_less zero p x w e = absurd (omega arith)
count_less (suc n) p x w e = ⊎_elim
    (λ (q : x ≡ suc n).
    let here : p (suc n) ≡ true = rw q at e in
    let below : count n p ≡ count n (losing p x) = count-ext n p (losing p x) (λ i v. rw (ne_eqb i x (λ z. omega arith)) (sym (and-true (p i)))) in
    rw (here, eq-eqb (suc n) x (sym q)) (omega arith))
    (λ (v : Within n x).
    rw (ne_eqb (suc n) x (λ z. omega arith), and-true (p (suc n))) (omega (arith, count_less n p x v e)))
    (last n x w)

-- two tests that nothing passes both
pub count-or : (n : ℕ) (p q : ℕ → Bool) → ((i : ℕ) → p i ≡ true → q i ≡ false) → count n (λ i. p i || q i) ≡ count n p + count n q
unfolding count
count-or zero p q d = refl
count-or (suc n) p q d = go (p (suc n)) refl (q (suc n)) refl (count-or n p q d)
  where
    go : (a : Bool) → p (suc n) ≡ a → (b : Bool) → q (suc n) ≡ b → count n (λ i. p i || q i) ≡ count n p + count n q
        → count n (λ i. p i || q i) + cond (a || b) 1 0 ≡ count n p + cond a 1 0 + (count n q + cond b 1 0)
    go true e true f ih = absurd (clash (sym (d (suc n) e) ∙ f))
    go true e false f ih = omega arith
    go false e b f ih = omega arith

-- f takes those of 1 to m that pass p to those of 1 to n that pass q: each to one of its own, and none is left out
pub record Pairs (m n : ℕ) (p q : ℕ → Bool) (f : ℕ → ℕ) : Type 0 where
  pub lands : (i : ℕ) → Within m i → p i ≡ true → Within n (f i) × (q (f i) ≡ true)
  pub apart : (i j : ℕ) → Within m i → Within m j → p i ≡ true → p j ≡ true → f i ≡ f j → i ≡ j
  pub from : (k : ℕ) → Within n k → q k ≡ true → (i : ℕ) × Within m i × (p i ≡ true) × (f i ≡ k)

-- they are as many
pub count-pairs : (m n : ℕ) (p q : ℕ → Bool) (f : ℕ → ℕ) → Pairs m n p q f → count m p ≡ count n q
unfolding count losing
count-pairs zero n p q f t = sym (count-ext n q (λ i. false) (λ k w. same_test (q k) false (λ y. absurd (omega (arith, (t.from k w y).1))) (λ z. absurd (clash z))) ∙ count-to 0 (λ i. false) (λ i l. refl) n (omega arith))
count-pairs (suc m) n p q f t = go (p (suc m)) refl (λ r. count-pairs m n p r f)
  where
    -- one of 1 to suc m that is not suc m
    before : (i : ℕ) → Within (suc m) i → (i ≡ suc m → ⊥) → Within m i
    before i w d = ⊎_elim (λ e. absurd (d e)) (λ v. v) (last m i w)

    go : (b : Bool) → p (suc m) ≡ b → ((r : ℕ → Bool) → Pairs m n p r f → count m p ≡ count n r) → count m p + cond b 1 0 ≡ count n q
    go false e ih = omega (
      arith,
      ih q (record {
        lands = λ i w. t.lands i (omega arith);
        apart = λ i j w v. t.apart i j (omega arith) (omega arith);
        from = λ k w y. let s = t.from k w y in (s.0, before s.0 s.1 (λ z. clash (sym e ∙ ap p (sym z) ∙ s.2)), s.2, s.3);
      }),
    )
    go true e ih = omega (arith, count_less n q (f (suc m)) l.0 l.1, ih (losing q (f (suc m))) rest)
      where
        l : Within n (f (suc m)) × (q (f (suc m)) ≡ true)
        l = t.lands (suc m) (omega arith) e

        rest : Pairs m n p (losing q (f (suc m))) f
        rest = record {
          lands = λ i w y.
              let k = t.lands i (omega arith) y in
              (k.0, rw (k.1, ne_eqb (f i) (f (suc m)) (λ z. omega (arith, t.apart i (suc m) (omega arith) (omega arith) y e z))));
          apart = λ i j w v. t.apart i j (omega arith) (omega arith);
          from = λ k w y.
              let s = t.from k w (and_l _ _ y) in
              let other : s.0 ≡ suc m → ⊥ = λ z. clash (ap not (sym (eq-eqb k (f (suc m)) (sym s.3 ∙ ap f z))) ∙ and_r (q k) _ y) in
              (s.0, before s.0 s.1 other, s.2, s.3);
        }
