-- Zeros behind the patches of records, four records at a time.
use mathlib.Core.Path.{◌≡◌, refl, sym, ◌∙◌, ap, ap₂}
use mathlib.Core.Bool.{Bool, true, false, ◌&&◌, and-true}
use mathlib.Core.List.{List}
use Prim.Native.Nat.{ℕ, zero, suc, ◌+◌, ◌-◌, ◌*◌, ◌≤◌, ◌<◌, min}
use native.Mathlib.Decide.{dec_le}
use native.Mathlib.Omega.{arith}
use lib.Dec.{eqb, leb}
use lib.ListN.{length, get_or, take, drop, length-drop}
use lib.Seq.{get_or-take, get_or-drop}
use borrow.Author.Tests.{eqb-true, eq-eqb, leb-true}
use Rattle.bools.proofs.BoolLaws.{and_l, and_r, and_assoc, same_test, clash}
use Rattle.sets.specs.Upto.{Within, every}
use Rattle.sets.proofs.UptoLaws.{every-at, every_of, every-ext}
use Rattle.octets.specs.Bytes.{number, part, all_zero}
use Rattle.octets.proofs.ByteLaws.{length_part, part-part, zero-drop}
use Rattle.octets.proofs.CodeLaws.{number-one, zero-at, zero_of}
use Rattle.blocks.specs.Blocks.{block}
use Rattle.fields.specs.Layout.{get}
use Rattle.window.specs.Windows.{size}
use Rattle.window.proofs.RightLaws.{zero-behind}
use Rattle.windows.specs.Visits.{head_right, tail_zero, Distances, over, Short}

-- byte n of each of the four is one of the patch or 0
quiet : List ℕ → ℕ → Bool
quiet r n = every 4 (λ x. eqb (over r ((x - 1) * 36) n) 0)

-- ---- the loop over the 32 bytes: the bits so far
pub Quiet : List ℕ → ℕ → ℕ → Type 0
Quiet r bits n = eqb bits 0 ≡ every n (quiet r)

pub quiet_none : (r : List ℕ) → Quiet r 0 0
unfolding Quiet every
quiet_none r = refl

pub quiet-turn : (r : List ℕ) (bits n m low high four : ℕ) → Quiet r bits n
    → eqb low 0 ≡ (eqb (over r 0 (n + 1)) 0 && eqb (over r 36 (n + 1)) 0) → eqb high 0 ≡ (eqb (over r 72 (n + 1)) 0 && eqb (over r 108 (n + 1)) 0)
    → eqb four 0 ≡ (eqb low 0 && eqb high 0) → eqb m 0 ≡ (eqb bits 0 && eqb four 0) → Quiet r m (n + 1)
unfolding Quiet every quiet
quiet-turn r bits n m low high four h l u f e =
    let s : n + 1 ≡ suc n = omega arith in
    let z : (k : ℕ) → ℕ → Bool = λ k at. eqb (over r at k) 0 in
    rw s (e ∙ ap₂ (λ (p q : Bool). p && q) h (f ∙ ap₂ (λ (p q : Bool). p && q) l u ∙ sym (and_assoc (z (n + 1) 0 && z (n + 1) 36) (z (n + 1) 72) (z (n + 1) 108))
    ∙ ap (λ (k : ℕ). ((z k 0 && z k 36) && z k 72) && z k 108) s))

-- ---- the table of distances
pub distances-are : (table : List ℕ) → every 64 (λ i. eqb (get_or table (i - 1) 0) (i - 1 - 31)) ≡ true → Distances table
unfolding Distances
distances-are table e j h =
    let q : j + 1 - 1 ≡ j = omega arith in
    let d : get_or table (j + 1 - 1) 0 ≡ j + 1 - 1 - 31 = eqb-true _ _ (every-at 64 _ e (j + 1) (omega arith)) in
    rw q at d

-- how far a byte is behind a patch
pub far : (table : List ℕ) (n size : ℕ) → Distances table → Within 32 n → size ≤ 32 → get_or table (n + 31 - size) 0 ≡ n - size
unfolding Distances
far table n size d v h = d (n + 31 - size) (omega arith) ∙ omega arith

-- ---- one record
-- its size, by its byte
size-at : (r : List ℕ) (y : ℕ) → get_or r (y * 36 + 1) 0 ≡ get size (block 0 36 (suc y) r)
unfolding block get size
size-at r y =
    let a : y * 36 + 1 ≡ 0 + y * 36 + 1 = omega arith in
    ap (λ (k : ℕ). get_or r k 0) a ∙ sym (number-one (0 + y * 36 + 1) r) ∙ ap number (sym (part-part (0 + y * 36) 36 1 1 r (omega arith)))

-- the record at a place, by its bytes
tail-is : (r : List ℕ) (at : ℕ) → at + 36 ≤ length r → every 32 (λ n. eqb (over r at n) 0) ≡ all_zero (drop (4 + get_or r (at + 1) 0) (part at 36 r))
unfolding over part
tail-is r at h = same_test _ _ there back
  where
    s : ℕ
    s = get_or r (at + 1) 0

    byte : (j : ℕ) → j < 36 → get_or (part at 36 r) j 0 ≡ get_or r (at + j) 0
    byte j l = get_or-take 36 (drop at r) j 0 l ∙ get_or-drop at r j 0

    there : every 32 (λ n. eqb (min (get_or r (at + 3 + n) 0) (n - s)) 0) ≡ true → all_zero (drop (4 + s) (part at 36 r)) ≡ true
    there e = zero_of (drop (4 + s) (part at 36 r)) (λ j l.
        let n : s + j + 5 ≤ 36 = omega (arith, l, length-drop (4 + s) (part at 36 r), length_part at 36 r h) in
        let q : at + (4 + s + j) ≡ at + 3 + (s + j + 1) = omega arith in
        let z : min (get_or r (at + 3 + (s + j + 1)) 0) (s + j + 1 - s) ≡ 0 = eqb-true _ 0 (every-at 32 _ e (s + j + 1) (omega arith)) in
        get_or-drop (4 + s) (part at 36 r) j 0 ∙ byte (4 + s + j) (omega arith) ∙ ap (λ (k : ℕ). get_or r k 0) q ∙ omega (arith, z))

    back : all_zero (drop (4 + s) (part at 36 r)) ≡ true → every 32 (λ n. eqb (min (get_or r (at + 3 + n) 0) (n - s)) 0) ≡ true
    back e = every_of 32 _ (λ n v. eq-eqb _ 0 (go n v (dec_le n s)))
      where
        go : (n : ℕ) → Within 32 n → Dec (n ≤ s) → min (get_or r (at + 3 + n) 0) (n - s) ≡ 0
        go n v (yes l) = omega arith
        go n v (no l) =
            let q : at + (4 + s + (n - s - 1)) ≡ at + 3 + n = omega arith in
            let z : get_or r (at + 3 + n) 0 ≡ 0 =
            ap (λ (k : ℕ). get_or r k 0) (sym q) ∙ sym (byte (4 + s + (n - s - 1)) (omega arith)) ∙ sym (get_or-drop (4 + s) (part at 36 r) (n - s - 1) 0)
            ∙ zero-at (drop (4 + s) (part at 36 r)) e (n - s - 1) (omega (arith, length-drop (4 + s) (part at 36 r), length_part at 36 r h)) in
            omega (arith, z)

block-tail : (r : List ℕ) (x : ℕ) → 1 ≤ x → x * 36 ≤ length r → every 32 (λ n. eqb (over r ((x - 1) * 36) n) 0) ≡ tail_zero (block 0 36 x r)
unfolding tail_zero block get size
block-tail r zero h g = absurd (omega arith)
block-tail r (suc y) h g =
    let a : (suc y - 1) * 36 ≡ 0 + y * 36 = omega arith in
    let e : 0 + y * 36 + 1 ≡ y * 36 + 1 = omega arith in
    let s : get_or r (0 + y * 36 + 1) 0 ≡ get size (part (0 + y * 36) 36 r) = ap (λ (k : ℕ). get_or r k 0) e ∙ size-at r y in
    ap (λ (k : ℕ). every 32 (λ n. eqb (over r k n) 0)) a ∙ tail-is r (0 + y * 36) (omega arith) ∙ ap (λ (k : ℕ). all_zero (drop (4 + k) (part (0 + y * 36) 36 r))) s

-- four at once, and so each
pub four-tails : (r : List ℕ) (bits : ℕ) → length r ≡ 144 → Quiet r bits 32 → eqb bits 0 ≡ every 4 (λ x. tail_zero (block 0 36 x r))
unfolding Quiet quiet
four-tails r bits long h = h ∙ swap ∙ every-ext 4 _ _ (λ x v. block-tail r x v.0 (omega arith))
  where
    f : ℕ → ℕ → Bool
    f x n = eqb (over r ((x - 1) * 36) n) 0

    swap : every 32 (λ n. every 4 (λ x. f x n)) ≡ every 4 (λ x. every 32 (λ n. f x n))
    swap = same_test _ _ (λ e. every_of 4 _ (λ x v. every_of 32 _ (λ n u. every-at 4 _ (every-at 32 _ e n u) x v))) (λ e. every_of 32 _ (λ n u. every_of 4 _ (λ x v. every-at 32 _ (every-at 4 _ e x v) n u)))

-- ---- the loop over the records
every_append : (i n : ℕ) (p : ℕ → Bool) → every (i + n) p ≡ (every i p && every n (λ x. p (i + x)))
unfolding every
every_append i zero p = let e : i + zero ≡ i = omega arith in rw e (sym (and-true (every i p)))
every_append i (suc n) p =
    let e : i + suc n ≡ suc (i + n) = omega arith in
    rw e (ap (λ (b : Bool). b && p (suc (i + n))) (every_append i n p) ∙ and_assoc (every i p) _ _)

block-moved : (records : List ℕ) (i x : ℕ) → Within 4 x → block 0 36 x (part (i * 36) 144 records) ≡ block 0 36 (i + x) records
unfolding block
block-moved records i zero v = absurd (omega arith)
block-moved records i (suc y) v =
    let e : i + suc y ≡ suc (i + y) = omega arith in
    let a : i * 36 + (0 + y * 36) ≡ 0 + (i + y) * 36 = omega arith in
    part-part (i * 36) 144 (0 + y * 36) 36 records (omega arith) ∙ ap (λ (k : ℕ). part k 36 records) a ∙ ap (λ (j : ℕ). block 0 36 j records) (sym e)

-- four more
pub tails-turn : (records : List ℕ) (i : ℕ) (b : Bool) → every i (λ x. tail_zero (block 0 36 x records)) ≡ true → b ≡ every 4 (λ x. tail_zero (block 0 36 x (part (i * 36) 144 records)))
    → every (i + 4) (λ x. tail_zero (block 0 36 x records)) ≡ b
tails-turn records i b e q = every_append i 4 (λ x. tail_zero (block 0 36 x records)) ∙ ap₂ (λ (p r : Bool). p && r) e (sym (q ∙ every-ext 4 _ _ (λ x v. ap tail_zero (block-moved records i x v))))

-- behind the records in use there is nothing
pub tails-more : (records : List ℕ) (k i : ℕ) → all_zero (drop (k * 36) records) ≡ true → k ≤ i → every i (λ x. tail_zero (block 0 36 x records)) ≡ every k (λ x. tail_zero (block 0 36 x records))
unfolding tail_zero
tails-more records k i z h = same_test _ _ (λ e. every_of k _ (λ x v. every-at i _ e x (omega arith))) (λ e. every_of i _ (λ x v. go x v (dec_le x k) e))
  where
    go : (x : ℕ) → Within i x → Dec (x ≤ k) → every k (λ x. all_zero (drop (4 + get size (block 0 36 x records)) (block 0 36 x records))) ≡ true → all_zero (drop (4 + get size (block 0 36 x records)) (block 0 36 x records)) ≡ true
    go x v (yes l) e = every-at k _ e x (omega arith)
    go x v (no l) e = zero-drop (4 + get size (block 0 36 x records)) (block 0 36 x records) (zero-behind k records z x (omega arith))

-- one that is not right among the 16 is one of those in use
pub tails-wrong : (records : List ℕ) (k i : ℕ) → all_zero (drop (k * 36) records) ≡ true → k ≤ 16 → i ≤ 16 → every i (λ x. tail_zero (block 0 36 x records)) ≡ false → false ≡ every k (λ x. tail_zero (block 0 36 x records))
tails-wrong records k i z h g e = sym (same_test (every k (λ x. tail_zero (block 0 36 x records))) false
    (λ t. let all = tails-more records k 16 z h ∙ t in sym e ∙ every_of i _ (λ x v. every-at 16 _ all x (omega arith))) (λ f. absurd (clash f)))

-- heads that are right name at most 32 bytes, and zeros name none
pub short-all : (file k : ℕ) (records : List ℕ) → every k (λ x. head_right file (block 0 36 x records)) ≡ true → length records ≡ 576 → all_zero (drop (k * 36) records) ≡ true → Short 16 records
unfolding Short head_right
short-all file k records e long z x h = go (dec_le (suc x) k)
  where
    go : Dec (suc x ≤ k) → get_or records (x * 36 + 1) 0 ≤ 32
    go (yes l) = rw (size-at records x) (leb-true _ 32 (and_r (leb 1 (get size (block 0 36 (suc x) records))) _ (and_l _ _ (every-at k _ e (suc x) (omega arith)))))
    go (no l) =
        let q : k * 36 + (x * 36 + 1 - k * 36) ≡ x * 36 + 1 = omega arith in
        let w : get_or records (x * 36 + 1) 0 ≡ 0 =
        ap (λ (j : ℕ). get_or records j 0) (sym q) ∙ sym (get_or-drop (k * 36) records (x * 36 + 1 - k * 36) 0)
        ∙ zero-at (drop (k * 36) records) z (x * 36 + 1 - k * 36) (omega (arith, length-drop (k * 36) records)) in
        omega (arith, w)

-- those of a part
pub short-part : (records : List ℕ) (i : ℕ) → Short 16 records → i + 4 ≤ 16 → Short 4 (part (i * 36) 144 records)
unfolding Short part
short-part records i s h x l =
    let q : i * 36 + (x * 36 + 1) ≡ (i + x) * 36 + 1 = omega arith in
    let e : get_or (take 144 (drop (i * 36) records)) (x * 36 + 1) 0 ≡ get_or records ((i + x) * 36 + 1) 0 =
    get_or-take 144 (drop (i * 36) records) (x * 36 + 1) 0 (omega arith) ∙ get_or-drop (i * 36) records (x * 36 + 1) 0 ∙ ap (λ (k : ℕ). get_or records k 0) q in
    rw e (s (i + x) (omega arith))
