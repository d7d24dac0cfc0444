-- What the code's loops and parts come to, over plain variables.
use mathlib.Core.Path.{◌≡◌, refl, sym, ◌∙◌, ap, ap₂}
use mathlib.Core.Bool.{Bool, true, ◌&&◌, and-true, and-false}
use mathlib.Core.List.{List, [], ◌∷◌, ◌++◌, append-nil}
use Prim.Native.Nat.{ℕ, zero, suc, ◌+◌, ◌-◌, ◌*◌, ◌/◌, ◌%◌, ◌^◌, ◌≤◌, ◌<◌}
use native.Mathlib.Nat.{add-zero, mul_comm}
use native.Mathlib.Numerals.{add-one}
use native.Mathlib.Omega.{arith}
use borrow.Author.Tests.{eqb-true, eq-eqb, ne_eqb, lt-leb}
use lib.Arith.{bin_ind}
use lib.Bits.{bit_or, or_step, or_comm}
use lib.Dec.{eqb, leb}
use lib.ListN.{length, get_or, take, drop, set, length-take, length-drop}
use lib.Seq.{drop-drop, take-add, take_all, take-suc, take-suc-set, append_snoc}
use Rattle.bools.proofs.BoolLaws.{and_l, and_r, and_i, and_assoc, same_test}
use Rattle.octets.specs.Bytes.{number, bytes_of, part, put, all_zero}
use Rattle.octets.proofs.ByteLaws.{number_append, length_part}

-- ---- numbers read
pub number-one : (a : ℕ) (xs : List ℕ) → number (part a 1 xs) ≡ get_or xs a 0
unfolding number part
number-one zero [] = refl
number-one (suc a) [] = refl
number-one zero (x ∷ xs) = add-zero x
number-one (suc a) (x ∷ xs) = number-one a xs

-- a number of n + n bytes by its halves
pub number-halves : (n a : ℕ) (xs : List ℕ) {low high : ℕ} → a + n ≤ length xs → low ≡ number (part a n xs) → high ≡ number (part (a + n) n xs)
    → low + high * 256 ^ n ≡ number (part a (n + n) xs)
unfolding part
number-halves n a xs h p q =
    sym (ap number (take-add n n (drop a xs)) ∙ number_append (take n (drop a xs)) (take n (drop n (drop a xs)))
    ∙ ap₂ (λ (k : ℕ) (ys : List ℕ). number (take n (drop a xs)) + 256 ^ k * number (take n ys)) (length_part a n xs h) (drop-drop n a xs)
    ∙ ap₂ (λ (x y : ℕ). x + y) (sym p) (mul_comm (256 ^ n) _ ∙ ap (λ (x : ℕ). x * 256 ^ n) (sym q)))

-- ---- fill: what is written so far, before the bytes of what is left
module _ (s t : List ℕ) (i n v : ℕ) (long : length s ≡ n) (so_far : take i s ++ bytes_of (n - i) v ≡ t) where
  pub fill-turn : i < n → take (i + 1) (set s i (v % 256)) ++ bytes_of (n - (i + 1)) (v / 256) ≡ t
  unfolding bytes_of
  fill-turn h =
      let m : n - i ≡ suc (n - suc i) = omega arith in
      rw (add-one i, take-suc-set s i (v % 256) (omega arith), append_snoc) (ap (λ (x : ℕ). take i s ++ bytes_of x v) (sym m) ∙ so_far)

  pub fill_end : n ≤ i → s ≡ t
  unfolding bytes_of
  fill_end h =
      let z : n - i ≡ 0 = omega arith in
      let f : take i s ≡ s = take_all i s (omega arith) in
      sym (append-nil s) ∙ (rw (z, f) at so_far)

-- ---- a part lent and back in its place
pub part_length : (a n : ℕ) (xs : List ℕ) → a + n ≤ length xs → length (take ((a + n) - a) (drop a xs)) ≡ n
part_length a n xs h = simp (length-take, length-drop) (omega arith)

pub part-back : (a n : ℕ) (xs ys zs : List ℕ) → ys ≡ zs → length zs ≡ n → take a xs ++ (ys ++ drop ((a + n) - a) (drop a xs)) ≡ put a zs xs
unfolding put
part-back a n xs ys zs e l = let m : (a + n) - a ≡ length zs = omega arith in rw (e, m, drop-drop (length zs) a xs)

-- a part cut by the code
pub part-is : (xs : List ℕ) (a n b m : ℕ) → a ≡ b → n ≡ m → take ((a + n) - a) (drop a xs) ≡ part b m xs
unfolding part
part-is xs a n b m e d = let k : (a + n) - a ≡ m = omega arith in rw (k, e)

pub tail-is : (xs : List ℕ) (a b : ℕ) → a ≡ b → take (length xs - a) (drop a xs) ≡ drop b xs
tail-is xs a b e = take_all (length xs - a) (drop a xs) (omega (arith, length-drop a xs)) ∙ ap (λ (k : ℕ). drop k xs) e

-- ---- all_zero: byte by byte
pub zero-at : (s : List ℕ) → all_zero s ≡ true → (k : ℕ) → k < length s → get_or s k 0 ≡ 0
unfolding all_zero
zero-at [] a k h = absurd (omega arith)
zero-at (x ∷ xs) a zero h = eqb-true x 0 (and_l (eqb x 0) (all_zero xs) a)
zero-at (x ∷ xs) a (suc k) h = zero-at xs (and_r (eqb x 0) (all_zero xs) a) k (omega arith)

pub zero_of : (s : List ℕ) → ((k : ℕ) → k < length s → get_or s k 0 ≡ 0) → all_zero s ≡ true
unfolding all_zero
zero_of [] f = refl
zero_of (x ∷ xs) f = and_i (eqb x 0) (all_zero xs) (eq-eqb x 0 (f 0 (omega arith))) (zero_of xs (λ k h. f (suc k) (omega arith)))

pub zero-append : (xs ys : List ℕ) → all_zero (xs ++ ys) ≡ (all_zero xs && all_zero ys)
unfolding all_zero
zero-append [] ys = refl
zero-append (x ∷ xs) ys = ap (λ (b : Bool). eqb x 0 && b) (zero-append xs ys) ∙ sym (and_assoc (eqb x 0) (all_zero xs) (all_zero ys))

-- one byte more
pub zero-next : (s : List ℕ) (i : ℕ) → i < length s → all_zero (take (i + 1) s) ≡ (all_zero (take i s) && eqb (get_or s i 0) 0)
unfolding all_zero
zero-next s i h = rw (add-one i, take-suc s i 0 h, zero-append (take i s) (get_or s i 0 ∷ [])) (ap (λ (b : Bool). all_zero (take i s) && b) (and-true (eqb (get_or s i 0) 0)))

-- bits joined
pub or-zero : (a b : ℕ) → eqb (bit_or a b) 0 ≡ (eqb a 0 && eqb b 0)
or-zero a b = same_test (eqb (bit_or a b) 0) (eqb a 0 && eqb b 0)
    (λ e. let z : bit_or a b ≡ 0 = eqb-true (bit_or a b) 0 e in
    and_i (eqb a 0) _ (eq-eqb a 0 (first a b z)) (eq-eqb b 0 (first b a (or_comm b a ∙ z))))
    (λ e. let x : a ≡ 0 = eqb-true a 0 (and_l _ _ e) in eq-eqb (bit_or a b) 0 (ap (λ (n : ℕ). bit_or n b) x ∙ eqb-true b 0 (and_r (eqb a 0) _ e)))
  where
    first : (a b : ℕ) → bit_or a b ≡ 0 → a ≡ 0
    first = bin_ind (λ (n : ℕ). (b : ℕ) → bit_or n b ≡ 0 → n ≡ 0) (λ b z. refl)
        (λ n more b z. let h : n / 2 ≡ 0 = more (b / 2) (omega (arith, or_step n b, z)) in omega (arith, h, or_step n b, z))

-- ---- bytes that are all 0, by their number
pub zero_number : (xs : List ℕ) → eqb (number xs) 0 ≡ all_zero xs
unfolding number all_zero
zero_number [] = refl
zero_number (x ∷ xs) = byte x (number xs) ∙ ap (λ (b : Bool). eqb x 0 && b) (zero_number xs)
  where
    byte : (x n : ℕ) → eqb (x + 256 * n) 0 ≡ (eqb x 0 && eqb n 0)
    byte zero zero = refl
    byte zero (suc n) = rw (ne_eqb (zero + 256 * suc n) 0 (λ q. omega arith), ne_eqb (suc n) 0 (λ q. omega arith))
    byte (suc x) n = rw (ne_eqb (suc x + 256 * n) 0 (λ q. omega arith), ne_eqb (suc x) 0 (λ q. omega arith))

-- a number by its first byte and the others
pub number-first : (a n : ℕ) (xs : List ℕ) → a + 1 ≤ length xs → number (part a (1 + n) xs) ≡ number (part a 1 xs) + 256 * number (part (a + 1) n xs)
unfolding part
number-first a n xs h =
    ap number (take-add 1 n (drop a xs)) ∙ number_append (take 1 (drop a xs)) (take n (drop 1 (drop a xs)))
    ∙ ap₂ (λ (k : ℕ) (ys : List ℕ). number (take 1 (drop a xs)) + 256 ^ k * number (take n ys)) (length_part a 1 xs h) (drop-drop 1 a xs)

-- it is its first byte where the others are 0
pub first_one : (a : ℕ) (xs : List ℕ) {whole low : ℕ} → a + 8 ≤ length xs → whole ≡ number (part a 8 xs) → low ≡ number (part a 1 xs) → eqb whole low ≡ all_zero (part (a + 1) 7 xs)
first_one a xs {whole} {low} h p q =
    rw (p, q, number-first a 7 xs (omega arith)) (same_test _ _
    (λ e. let z : number (part a 1 xs) + 256 * number (part (a + 1) 7 xs) ≡ number (part a 1 xs) = eqb-true _ _ e in sym (zero_number (part (a + 1) 7 xs)) ∙ eq-eqb (number (part (a + 1) 7 xs)) 0 (omega arith))
    (λ e. let z : number (part (a + 1) 7 xs) ≡ 0 = eqb-true _ 0 (zero_number (part (a + 1) 7 xs) ∙ e) in eq-eqb (number (part a 1 xs) + 256 * number (part (a + 1) 7 xs)) (number (part a 1 xs)) (omega arith)))

-- and at most n, which is less than 256, where the others are 0 and it is
pub first-within : (n x y : ℕ) → n < 256 → leb (x + 256 * y) n ≡ (leb x n && eqb y 0)
first-within n x zero h = let e : x + 256 * 0 ≡ x = omega arith in rw e (sym (and-true (leb x n)))
first-within n x (suc y) h = rw (lt-leb (x + 256 * suc y) n (omega arith), ne_eqb (suc y) 0 (λ q. omega arith)) (sym (and-false (leb x n)))

-- or by two numbers
pub zero-numbers : (a n m : ℕ) (xs : List ℕ) → (eqb (number (part a n xs)) 0 && eqb (number (part (a + n) m xs)) 0) ≡ all_zero (part a (n + m) xs)
unfolding part
zero-numbers a n m xs =
    ap₂ (λ (x y : Bool). x && y) (zero_number (take n (drop a xs)))
    (zero_number (take m (drop (a + n) xs)) ∙ ap (λ (ys : List ℕ). all_zero (take m ys)) (sym (drop-drop n a xs)))
    ∙ sym (ap all_zero (take-add n m (drop a xs)) ∙ zero-append (take n (drop a xs)) (take m (drop n (drop a xs))))
