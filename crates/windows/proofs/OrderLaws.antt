-- A chain in the order of writes: from the oldest record up to the last, and from the first up to the oldest.
use mathlib.Core.Path.{◌≡◌, sym, ◌∙◌, ap, ap₂}
use mathlib.Core.Bool.{Bool, true, false, cond}
use mathlib.Core.List.{List, [], ◌∷◌, ◌++◌, append-nil}
use mathlib.Core.Logic.{⊎_elim, ◌≢◌}
use Prim.Native.Nat.{ℕ, zero, suc, ◌+◌, ◌-◌, ◌≤◌, ◌<◌}
use native.Mathlib.Decide.{dec_lt}
use native.Mathlib.Omega.{arith}
use lib.Dec.{eqb, leb}
use lib.ListN.{length, length-append}
use borrow.Author.Tests.{le-leb, lt-ltb, eqb-true, ne_eqb, not-false}
use Rattle.bools.proofs.BoolLaws.{and_i, or_l, or_r, or-e, clash, same_test}
use Rattle.sets.specs.Upto.{Within, count, upward, among}
use Rattle.sets.proofs.UptoLaws.{every_of}
use Rattle.sets.proofs.RisingLaws.{upward-length, upward-among}
use Rattle.fields.specs.Layout.{get}
use Rattle.blocks.specs.Blocks.{block}
use Rattle.linking.specs.Linking.{chain}
use Rattle.linking.proofs.PathLaws.{chain-zero, chain-suc}
use Rattle.window.specs.Windows.{width, younger, record_of, next, path}
use Rattle.windows.specs.Visits.{window, visits, broken}

-- those from a on, in a row, and then what follows the last of them
run : (next : ℕ → ℕ) (n m a : ℕ) → 1 ≤ a → ((x : ℕ) → a ≤ x → x < a + n → next x ≡ suc x) → chain next (suc n + m) a ≡ upward (suc n) a ++ chain next m (next (a + n))
unfolding upward
run next zero m a h f =
    let e : suc zero + m ≡ suc m = omega arith in
    let d : a ≡ a + zero = omega arith in
    ap (λ (k : ℕ). chain next k a) e ∙ chain-suc next m a h ∙ ap (λ (k : ℕ). a ∷ chain next m (next k)) d
run next (suc n) m a h f =
    let e : suc (suc n) + m ≡ suc (suc n + m) = omega arith in
    let d : suc a + n ≡ a + suc n = omega arith in
    ap (λ (k : ℕ). chain next k a) e ∙ chain-suc next (suc n + m) a h
    ∙ ap (λ (l : List ℕ). a ∷ l) (ap (chain next (suc n + m)) (f a (omega arith) (omega arith)) ∙ run next n m (suc a) (omega arith) (λ x p q. f x (omega arith) (omega arith)) ∙ ap (λ (k : ℕ). upward (suc n) (suc a) ++ chain next m (next k)) d)

among-front : (xs ys : List ℕ) (j : ℕ) → among xs j ≡ true → among (xs ++ ys) j ≡ true
unfolding among
among-front [] ys j e = absurd (clash e)
among-front (x ∷ xs) ys j e = ⊎_elim (λ m. or_l _ (eqb x j) (among-front xs ys j m)) (λ m. or_r (among (xs ++ ys) j) _ m) (or-e (among xs j) (eqb x j) e)

among-back : (xs ys : List ℕ) (j : ℕ) → among ys j ≡ true → among (xs ++ ys) j ≡ true
unfolding among
among-back [] ys j e = e
among-back (x ∷ xs) ys j e = or_l _ (eqb x j) (among-back xs ys j e)

-- ---- how many break the order
count-up : (p : ℕ → Bool) (x n : ℕ) → x ≤ n → count x p ≤ count n p
unfolding count
count-up p x zero h = let e : x ≡ 0 = omega arith in rw e (omega arith)
count-up p x (suc n) h = go (dec_lt n x) (λ g. count-up p x n g)
  where
    go : Dec (n < x) → (x ≤ n → count x p ≤ count n p) → count x p ≤ count n p + cond (p (suc n)) 1 0
    go (yes g) f = let e : x ≡ suc n = omega arith in rw e (omega arith)
    go (no g) f = omega (arith, f (omega arith))

-- one more at each that passes
count-rise : (p : ℕ → Bool) (x z n : ℕ) → x < z → z ≤ n → p z ≡ true → count x p < count n p
unfolding count
count-rise p x zero n h g e = absurd (omega arith)
count-rise p x (suc y) n h g e =
    let s : count (suc y) p ≡ count y p + 1 = ap (λ (b : Bool). count y p + cond b 1 0) e in
    omega (arith, s, count-up p x y (omega arith), count-up p (suc y) n g)

module _ (oldest k : ℕ) (records : List ℕ) (some : Within 16 k) where
  -- what follows record x
  abbrev after : ℕ → ℕ
  after x = get younger (block 0 36 x records)

  follows : (x : ℕ) → broken records x ≡ false → after x ≡ suc x
  unfolding broken
  follows x e = eqb-true (after x) (suc x) (not-false _ e)

  breaks : (x y : ℕ) → after x ≡ y → y ≢ suc x → broken records x ≡ true
  unfolding broken
  breaks x y e d = rw (e, ne_eqb y (suc x) d)

  -- the chain from the oldest up to k, and then from 1 up to the oldest
  module _ (start : Within k oldest) (up : (x : ℕ) → oldest ≤ x → x < k → after x ≡ suc x)
      (rest : (m : ℕ) → oldest - 1 < m → chain after m (after k) ≡ upward (oldest - 1) 1) where
    path-is : path (window oldest records) ≡ upward (suc (k - oldest)) oldest ++ upward (oldest - 1) 1
    unfolding path next record_of width window
    path-is =
        let n : 17 ≡ suc (k - oldest) + (16 - (k - oldest)) = omega arith in
        let d : oldest + (k - oldest) ≡ k = omega arith in
        ap (λ (m : ℕ). chain after m oldest) n ∙ run after (k - oldest) (16 - (k - oldest)) oldest start.0 (λ x p q. up x p (omega arith))
        ∙ ap (λ (l : List ℕ). upward (suc (k - oldest)) oldest ++ l) (ap (λ (x : ℕ). chain after (16 - (k - oldest)) (after x)) d ∙ rest (16 - (k - oldest)) (omega arith))

    long : length (path (window oldest records)) ≡ k
    long = ap length path-is ∙ length-append (upward (suc (k - oldest)) oldest) (upward (oldest - 1) 1) ∙ omega (arith, upward-length (suc (k - oldest)) oldest, upward-length (oldest - 1) 1)

    each : (x : ℕ) → Within k x → among (path (window oldest records)) x ≡ true
    each x v = rw path-is (go (dec_lt x oldest))
      where
        go : Dec (x < oldest) → among (upward (suc (k - oldest)) oldest ++ upward (oldest - 1) 1) x ≡ true
        go (yes h) = among-back (upward (suc (k - oldest)) oldest) (upward (oldest - 1) 1) x (upward-among (oldest - 1) 1 x ∙ and_i (leb 1 x) _ (le-leb 1 x (omega arith)) (lt-ltb x (1 + (oldest - 1)) (omega arith)))
        go (no h) = among-front (upward (suc (k - oldest)) oldest) (upward (oldest - 1) 1) x
            (upward-among (suc (k - oldest)) oldest x ∙ and_i (leb oldest x) _ (le-leb oldest x (omega arith)) (lt-ltb x (oldest + suc (k - oldest)) (omega arith)))

    pub ordered : (visits (window oldest records) ≡ true) × (length (path (window oldest records)) ≡ k)
    unfolding visits
    ordered = (rw (long, le-leb k 16 some.1) (every_of k _ each), long)

  -- records 1 to k in a row: record k alone breaks the order
  pub in_row : oldest ≡ 1 → count k (broken records) ≡ 1 → after k ≡ 0 → (visits (window oldest records) ≡ true) × (length (path (window oldest records)) ≡ k)
  unfolding upward count
  in_row o c z = ordered (omega arith)
      (λ x p q. follows x (same_test (broken records x) false
      (λ b. absurd (omega (arith, c, count-rise (broken records) 0 x x (omega arith) (omega arith) b, count-rise (broken records) x k k q (omega arith) (breaks k 0 z (λ e. omega (arith, e)))))) (λ b. absurd (clash b))))
      (λ m h. ap (chain after m) z ∙ chain-zero after m ∙ ap (λ (n : ℕ). upward (n - 1) 1) (sym o))

  -- in a ring: record k, and the one before the oldest
  pub in-ring : 2 ≤ oldest → oldest ≤ k → count k (broken records) ≡ 2 → after k ≡ 1 → after (oldest - 1) ≡ 0
      → (visits (window oldest records) ≡ true) × (length (path (window oldest records)) ≡ k)
  unfolding upward count
  in-ring h g c e z = ordered (omega arith) (λ x p q. goes_on x (omega arith) q (λ d. omega arith)) rest
    where
      -- any other would be a third
      goes_on : (x : ℕ) → 1 ≤ x → x < k → x ≢ oldest - 1 → after x ≡ suc x
      goes_on x p q d = follows x (same_test (broken records x) false (λ b. absurd (third b (dec_lt x (oldest - 1)))) (λ b. absurd (clash b)))
        where
          at_y : broken records (oldest - 1) ≡ true
          at_y = breaks (oldest - 1) 0 z (λ e. omega (arith, e))

          at-k : broken records k ≡ true
          at-k = breaks k 1 e (λ e. omega (arith, e))

          third : broken records x ≡ true → Dec (x < oldest - 1) → ⊥
          third b (yes l) = omega (
            arith,
            c,
            count-rise (broken records) 0 x x p (omega arith) b,
            count-rise (broken records) x (oldest - 1) (oldest - 1) l (omega arith) at_y,
            count-rise (broken records) (oldest - 1) k k (omega arith) (omega arith) at-k,
          )
          third b (no l) = omega (
            arith,
            c,
            count-rise (broken records) 0 (oldest - 1) (oldest - 1) (omega arith) (omega arith) at_y,
            count-rise (broken records) (oldest - 1) x x (omega arith) (omega arith) b,
            count-rise (broken records) x k k q (omega arith) at-k,
          )

      rest : (m : ℕ) → oldest - 1 < m → chain after m (after k) ≡ upward (oldest - 1) 1
      rest m l =
          let n : m ≡ suc (oldest - 2) + (m - (oldest - 1)) = omega arith in
          let d : 1 + (oldest - 2) ≡ oldest - 1 = omega arith in
          let s : suc (oldest - 2) ≡ oldest - 1 = omega arith in
          ap (chain after m) e ∙ ap (λ (j : ℕ). chain after j 1) n ∙ run after (oldest - 2) (m - (oldest - 1)) 1 (omega arith) (λ x p q. goes_on x p (omega arith) (λ t. omega arith))
          ∙ ap₂ (λ (a b : ℕ). upward a 1 ++ chain after (m - (oldest - 1)) (after b)) s d ∙ ap (λ (j : ℕ). upward (oldest - 1) 1 ++ chain after (m - (oldest - 1)) j) z
          ∙ ap (λ (l : List ℕ). upward (oldest - 1) 1 ++ l) (chain-zero after (m - (oldest - 1))) ∙ append-nil (upward (oldest - 1) 1)
