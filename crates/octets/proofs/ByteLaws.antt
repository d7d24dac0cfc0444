-- Numbers in bytes at any width; parts, and bytes put in.
use mathlib.Core.Path.{◌≡◌, refl, sym, ◌∙◌, ap, ap₂}
use mathlib.Core.Bool.{true}
use mathlib.Core.Logic.{◌⊎◌, inl, inr}
use mathlib.Core.List.{List, [], ◌∷◌, ◌++◌, append-nil, append_assoc}
use Prim.Native.Nat.{ℕ, zero, suc, ◌+◌, ◌-◌, ◌*◌, ◌/◌, ◌%◌, ◌^◌, ◌≤◌, ◌<◌}
use native.Mathlib.Nat.{pow-suc, div-lt_iff_lt-mul, zero-lt-suc, mul_comm, mul_assoc, one-mul, zero-add, add_assoc, le_of_suc-le-suc, not-suc-le-zero}
use native.Mathlib.Decide.{dec_lt}
use native.Mathlib.Omega.{arith}
use lib.ListN.{length, get_or, take, drop, length-append, length-take, length-drop, length-replicate, replicate-append-replicate, take-append-drop, get_or-append}
use lib.Seq.{drop-drop, drop-length, take_at, drop_at, get_or-take, get_or-drop, get_or-append-add, ext_get_or, take-add, length-take-le, take-append-le, drop-append-le, drop-append-add, take_all}
use borrow.Author.Tests.{eqb-true}
use lib.Dec.{eqb}
use Rattle.bools.proofs.BoolLaws.{and_l, and_r}
use Rattle.octets.specs.Bytes.{number, bytes_of, part, put, zeros, all_zero}

-- ---- numbers
pub length-bytes : (k v : ℕ) → length (bytes_of k v) ≡ k
unfolding bytes_of
length-bytes zero v = refl
length-bytes (suc k) v = ap suc (length-bytes k (v / 256))

-- what is written is read
pub number-bytes : (k v : ℕ) → v < 256 ^ k → number (bytes_of k v) ≡ v
unfolding bytes_of number
number-bytes zero v h = omega arith
number-bytes (suc k) v h = rw (number-bytes k (v / 256) ((div-lt_iff_lt-mul (zero-lt-suc 255)).1 (rw (pow-suc 256 k) at h))) (omega arith)

-- every element is a byte
pub data Bytes : List ℕ → Type 0 where
  none : Bytes []
  byte : {x : ℕ} {xs : List ℕ} → x < 256 → Bytes xs → Bytes (x ∷ xs)

-- bytes are those of their number
pub bytes-number : {xs : List ℕ} → Bytes xs → bytes_of (length xs) (number xs) ≡ xs
unfolding bytes_of number
bytes-number none = refl
bytes-number (byte {x} {xs} h b) =
    let low : (x + 256 * number xs) % 256 ≡ x = omega arith in
    let high : (x + 256 * number xs) / 256 ≡ number xs = omega arith in
    rw (low, high) (ap (λ (l : List ℕ). x ∷ l) (bytes-number b))

pub number_small : {xs : List ℕ} → Bytes xs → number xs < 256 ^ length xs
unfolding number
number_small none = omega arith
number_small (byte {x} {xs} h b) = rw (pow-suc 256 (length xs)) (omega (arith, number_small b))

-- a number of two parts
pub number_append : (xs ys : List ℕ) → number (xs ++ ys) ≡ number xs + 256 ^ length xs * number ys
unfolding number
number_append [] ys = sym (zero-add (1 * number ys) ∙ one-mul (number ys))
number_append (x ∷ xs) ys =
    rw (number_append xs ys, pow-suc 256 (length xs), mul_comm (256 ^ length xs) 256, mul_assoc 256 (256 ^ length xs) (number ys)) (omega arith)

-- ---- parts and puts
pub length_part : (a n : ℕ) (xs : List ℕ) → a + n ≤ length xs → length (part a n xs) ≡ n
unfolding part
length_part a n xs h = simp (length-take, length-drop) (omega arith)

-- parts of two lists put together: before the seam, behind it, and all of one
pub part-front : (a n : ℕ) (xs ys : List ℕ) → a + n ≤ length xs → part a n (xs ++ ys) ≡ part a n xs
unfolding part
part-front a n xs ys h = ap (take n) (drop-append-le a xs ys (omega arith)) ∙ take-append-le n (drop a xs) ys (omega (arith, length-drop a xs))

pub part-back : (m k n : ℕ) (xs ys : List ℕ) → length xs ≡ m → part (m + k) n (xs ++ ys) ≡ part k n ys
unfolding part
part-back m k n xs ys e = ap (λ (j : ℕ). take n (drop (j + k) (xs ++ ys))) (sym e) ∙ ap (take n) (drop-append-add xs ys k)

pub part-whole : (n : ℕ) (xs : List ℕ) → length xs ≡ n → part 0 n xs ≡ xs
unfolding part
part-whole n xs e = take_all n xs (omega arith)

pub part-part : (a n b m : ℕ) (xs : List ℕ) → b + m ≤ n → part b m (part a n xs) ≡ part (a + b) m xs
unfolding part
part-part a n b m xs h = ext-parts
  where
    ext-parts : take m (drop b (take n (drop a xs))) ≡ take m (drop (a + b) xs)
    ext-parts = ext_get_or 0 _ _ lens (λ i h'. at i (small i h'))
      where
        lens : length (take m (drop b (take n (drop a xs)))) ≡ length (take m (drop (a + b) xs))
        lens = simp (length-take, length-drop) (omega arith)

        small : (i : ℕ) → i < length (take m (drop b (take n (drop a xs)))) → i < m
        small i h' = omega (arith, length-take m (drop b (take n (drop a xs))))

        at : (i : ℕ) → i < m → get_or (take m (drop b (take n (drop a xs)))) i 0 ≡ get_or (take m (drop (a + b) xs)) i 0
        at i l =
            get_or-take m (drop b (take n (drop a xs))) i 0 l ∙ get_or-drop b (take n (drop a xs)) i 0 ∙ get_or-take n (drop a xs) (b + i) 0 (omega arith)
            ∙ get_or-drop a xs (b + i) 0 ∙ ap (λ (x : ℕ). get_or xs x 0) (omega arith) ∙ sym (get_or-take m (drop (a + b) xs) i 0 l ∙ get_or-drop (a + b) xs i 0)

module _ (xs : List ℕ) (a : ℕ) (p : List ℕ) (fits : a + length p ≤ length xs) where
  head-length : length (take a xs) ≡ a
  head-length = length-take-le a xs (omega arith)

  pub length-put : length (put a p xs) ≡ length xs
  unfolding put
  length-put = simp (length-append, length-drop, head-length) (omega arith)

  -- inside the range the new bytes
  pub part-put : part a (length p) (put a p xs) ≡ p
  unfolding put part
  part-put = rw (drop_at (take a xs) (p ++ drop (a + length p) xs) a head-length) (take_at p (drop (a + length p) xs) (length p) refl)

  pub put-inside : (i d : ℕ) → i < length p → get_or (put a p xs) (a + i) d ≡ get_or p i d
  unfolding put
  put-inside i d h =
      ap (λ (n : ℕ). get_or (take a xs ++ (p ++ drop (a + length p) xs)) (n + i) d) (sym head-length)
      ∙ get_or-append-add (take a xs) _ i d ∙ get_or-append p _ d i h

  -- outside it the old ones
  pub put-before : (i d : ℕ) → i < a → get_or (put a p xs) i d ≡ get_or xs i d
  unfolding put
  put-before i d h = get_or-append (take a xs) _ d i (omega (arith, head-length)) ∙ get_or-take a xs i d h

  pub put-after : (i d : ℕ) → a + length p ≤ i → get_or (put a p xs) i d ≡ get_or xs i d
  unfolding put
  put-after i d h =
      let j : ℕ = i - (a + length p) in
      let e : i ≡ length (take a xs) + (length p + j) = omega (arith, head-length) in
      ap (λ (n : ℕ). get_or (take a xs ++ (p ++ drop (a + length p) xs)) n d) e
      ∙ get_or-append-add (take a xs) _ (length p + j) d ∙ get_or-append-add p _ j d ∙ get_or-drop (a + length p) xs j d
      ∙ ap (λ (n : ℕ). get_or xs n d) (omega arith)

  -- a part that lies apart stays
  pub part_apart : (b n : ℕ) → (b + n ≤ a) ⊎ (a + length p ≤ b) → part b n (put a p xs) ≡ part b n xs
  unfolding part
  part_apart b n apart = ext_get_or 0 (take n (drop b (put a p xs))) (take n (drop b xs)) lens (λ i h. at i (small i h))
    where
      lens : length (take n (drop b (put a p xs))) ≡ length (take n (drop b xs))
      lens = simp (length-take, length-drop, length-put)

      small : (i : ℕ) → i < length (take n (drop b (put a p xs))) → i < n
      small i h = omega (arith, length-take n (drop b (put a p xs)))

      at : (i : ℕ) → i < n → get_or (take n (drop b (put a p xs))) i 0 ≡ get_or (take n (drop b xs)) i 0
      at i h = rw (get_or-take n (drop b (put a p xs)) i 0 h, get_or-take n (drop b xs) i 0 h, get_or-drop b (put a p xs) i 0, get_or-drop b xs i 0) (side apart)
        where
          side : (b + n ≤ a) ⊎ (a + length p ≤ b) → get_or (put a p xs) (b + i) 0 ≡ get_or xs (b + i) 0
          side (inl q) = put-before (b + i) 0 (omega arith)
          side (inr q) = put-after (b + i) 0 (omega arith)

  -- what stands behind stays
  pub drop-put-after : (b : ℕ) → a + length p ≤ b → drop b (put a p xs) ≡ drop b xs
  drop-put-after b h = ext_get_or 0 _ _ (simp (length-drop, length-put)) (λ i l.
      get_or-drop b (put a p xs) i 0 ∙ put-after (b + i) 0 (omega arith) ∙ sym (get_or-drop b xs i 0))

  -- what is put within a tail is put into that tail
  pub drop-put-before : (b : ℕ) → b ≤ a → drop b (put a p xs) ≡ put (a - b) p (drop b xs)
  unfolding put
  drop-put-before b h =
      let q : drop b (take a xs) ≡ take (a - b) (drop b xs) = drop-take b a xs h in
      let n : a + length p ≡ b + (a - b + length p) = omega arith in
      drop-append-le b (take a xs) _ (omega (arith, head-length)) ∙ ap₂ (λ (x y : List ℕ). x ++ (p ++ y)) q
      (ap (λ (n : ℕ). drop n xs) n ∙ sym (drop-drop (a - b + length p) b xs))
    where
      drop-take : (b a : ℕ) (xs : List ℕ) → b ≤ a → drop b (take a xs) ≡ take (a - b) (drop b xs)
      drop-take b a xs h = ext_get_or 0 _ _ (simp (length-drop, length-take) (omega arith)) (λ i l.
          let m : i < a - b = omega (arith, length-drop b (take a xs), length-take a xs) in
          get_or-drop b (take a xs) i 0 ∙ get_or-take a xs (b + i) 0 (omega arith) ∙ sym (get_or-take (a - b) (drop b xs) i 0 m ∙ get_or-drop b xs i 0))

-- what is put within a part is put into that part
pub part-put-in : (a n o : ℕ) (p xs : List ℕ) → o + length p ≤ n → a + n ≤ length xs → part a n (put (a + o) p xs) ≡ put o p (part a n xs)
unfolding part
part-put-in a n o p xs h g =
    let z : a + o - a ≡ o = omega arith in
    let l : o + length p ≤ length (drop a xs) = omega (arith, length-drop a xs) in
    ap (take n) (drop-put-before xs (a + o) p (omega arith) a (omega arith) ∙ ap (λ (k : ℕ). put k p (drop a xs)) z)
    ∙ take_put n o p (drop a xs) h (omega (arith, length-drop a xs))
  where
    take_put : (n o : ℕ) (p ys : List ℕ) → o + length p ≤ n → n ≤ length ys → take n (put o p ys) ≡ put o p (take n ys)
    take_put n o p ys h g =
        let f : o + length p ≤ length ys = omega arith in
        let k : length (take n ys) ≡ n = length-take-le n ys g in
        ext_get_or 0 _ _ (length-take-le n (put o p ys) (omega (arith, length-put ys o p f)) ∙ sym (length-put (take n ys) o p (omega arith) ∙ k)) (λ i l.
        let m : i < n = omega (arith, length-take n (put o p ys)) in
        get_or-take n (put o p ys) i 0 m ∙ at f k i m (dec_lt i o) (dec_lt i (o + length p)))
      where
        at : o + length p ≤ length ys → length (take n ys) ≡ n → (i : ℕ) → i < n → Dec (i < o) → Dec (i < o + length p) → get_or (put o p ys) i 0 ≡ get_or (put o p (take n ys)) i 0
        at f k i m (yes q) d = put-before ys o p f i 0 q ∙ sym (put-before (take n ys) o p (omega arith) i 0 q ∙ get_or-take n ys i 0 m)
        at f k i m (no q) (yes d) =
            let e : o + (i - o) ≡ i = omega arith in
            let x = put-inside ys o p f (i - o) 0 (omega arith) in
            let y = put-inside (take n ys) o p (omega arith) (i - o) 0 (omega arith) in
            ap (λ (j : ℕ). get_or (put o p ys) j 0) (sym e) ∙ x ∙ sym y ∙ ap (λ (j : ℕ). get_or (put o p (take n ys)) j 0) e
        at f k i m (no q) (no d) = put-after ys o p f i 0 (omega arith) ∙ sym (put-after (take n ys) o p (omega arith) i 0 (omega arith) ∙ get_or-take n ys i 0 m)

-- what is put where it stands already
pub put_same : (a n : ℕ) (xs : List ℕ) → a + n ≤ length xs → put a (part a n xs) xs ≡ xs
unfolding put part
put_same a n xs h =
    let l : length (take n (drop a xs)) ≡ n = length_part a n xs h in
    ap (λ (k : ℕ). take a xs ++ (take n (drop a xs) ++ drop (a + k) xs)) l
    ∙ ap (λ (ys : List ℕ). take a xs ++ (take n (drop a xs) ++ ys)) (sym (drop-drop n a xs))
    ∙ ap (λ (ys : List ℕ). take a xs ++ ys) (take-append-drop n (drop a xs))
    ∙ take-append-drop a xs

-- bytes put over all that was there
pub put_all : (p xs : List ℕ) → length p ≡ length xs → put 0 p xs ≡ p
unfolding put
put_all p xs e =
    let z : 0 + length p ≡ length xs = omega arith in
    ap (λ (n : ℕ). p ++ drop n xs) z ∙ ap (λ (l : List ℕ). p ++ l) (drop-length xs) ∙ append-nil p

-- bytes put behind those that were put at the start
pub put-more : (q b xs : List ℕ) → put (length q) b (put 0 q xs) ≡ put 0 (q ++ b) xs
unfolding put
put-more q b xs =
    rw (
      zero-add (length q),
      zero-add (length (q ++ b)),
      length-append q b,
      take_at q (drop (length q) xs) (length q) refl,
      ← drop-drop (length b) (length q) (q ++ drop (length q) xs),
      drop_at q (drop (length q) xs) (length q) refl,
      drop-drop (length b) (length q) xs,
    )
    (sym (append_assoc q b (drop (length q + length b) xs)))

-- ---- bytes put into bytes that were put
pub put-put : (a b : ℕ) (p r xs : List ℕ) → b + length p ≤ length r → a + length r ≤ length xs → put (a + b) p (put a r xs) ≡ put a (put b p r) xs
unfolding put
put-put a b p r xs h fits =
    ap₂ (λ (f g : List ℕ). f ++ (p ++ g)) front back
    ∙ append_assoc (take a xs) (take b r) (p ++ (drop (b + length p) r ++ rest))
    ∙ ap (λ (l : List ℕ). take a xs ++ l)
    (sym (append_assoc (take b r) (p ++ drop (b + length p) r) rest ∙ ap (λ (l : List ℕ). take b r ++ l) (append_assoc p (drop (b + length p) r) rest)))
    ∙ ap (λ (n : ℕ). take a xs ++ ((take b r ++ (p ++ drop (b + length p) r)) ++ drop (a + n) xs)) (sym (length-put r b p h))
  where
    rest : List ℕ
    rest = drop (a + length r) xs

    head : length (take a xs) ≡ a
    head = length-take-le a xs (omega arith)

    front : take (a + b) (take a xs ++ (r ++ rest)) ≡ take a xs ++ take b r
    front =
        take-add a b (take a xs ++ (r ++ rest))
        ∙ ap₂ (λ (f g : List ℕ). f ++ take b g) (take_at (take a xs) (r ++ rest) a head) (drop_at (take a xs) (r ++ rest) a head)
        ∙ ap (λ (l : List ℕ). take a xs ++ l) (take-append-le b r rest (omega arith))

    back : drop (a + b + length p) (take a xs ++ (r ++ rest)) ≡ drop (b + length p) r ++ rest
    back =
        ap (λ (n : ℕ). drop n (take a xs ++ (r ++ rest))) (add_assoc a b (length p))
        ∙ sym (drop-drop (b + length p) a (take a xs ++ (r ++ rest)))
        ∙ ap (λ (l : List ℕ). drop (b + length p) l) (drop_at (take a xs) (r ++ rest) a head) ∙ drop-append-le (b + length p) r rest h

-- ---- zero bytes
pub length-zeros : (n : ℕ) → length (zeros n) ≡ n
unfolding zeros
length-zeros n = length-replicate {A = ℕ} n 0

pub zeros-zero : (n : ℕ) → all_zero (zeros n) ≡ true
unfolding all_zero zeros
zeros-zero zero = refl
zeros-zero (suc n) = zeros-zero n

pub first-zeros : (m n : ℕ) → m ≤ n → take m (zeros n) ≡ zeros m
unfolding zeros
first-zeros zero n h = refl
first-zeros (suc m) zero h = absurd (not-suc-le-zero h)
first-zeros (suc m) (suc n) h = ap (λ (l : List ℕ). 0 ∷ l) (first-zeros m n (le_of_suc-le-suc h))

pub split-zeros : (a b : ℕ) → zeros (a + b) ≡ zeros a ++ zeros b
unfolding zeros
split-zeros a b = sym (replicate-append-replicate a b 0)

pub bytes-zero : (k : ℕ) → bytes_of k 0 ≡ zeros k
unfolding bytes_of zeros
bytes-zero zero = refl
bytes-zero (suc k) = ap (λ (l : List ℕ). 0 ∷ l) (bytes-zero k)

-- bytes that are all zero
pub zeros-are : (xs : List ℕ) → all_zero xs ≡ true → xs ≡ zeros (length xs)
unfolding all_zero zeros
zeros-are [] e = refl
zeros-are (x ∷ xs) e = ap₂ (λ (y : ℕ) (ys : List ℕ). y ∷ ys) (eqb-true x 0 (and_l _ _ e)) (zeros-are xs (and_r (eqb x 0) _ e))

pub zero-drop : (k : ℕ) (xs : List ℕ) → all_zero xs ≡ true → all_zero (drop k xs) ≡ true
unfolding all_zero
zero-drop zero xs e = e
zero-drop (suc k) [] e = e
zero-drop (suc k) (x ∷ xs) e = zero-drop k xs (and_r (eqb x 0) _ e)
