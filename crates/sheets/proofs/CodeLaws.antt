-- What the code's reads, stores and sums come to.
use mathlib.Core.Path.{◌≡◌, refl, sym, ◌∙◌, ap, ap₂}
use mathlib.Core.Bool.{Bool, true, false, cond, ◌&&◌, ◌||◌}
use mathlib.Core.Logic.{◌⊎◌, inl, inr}
use mathlib.Core.List.{List, [], ◌++◌}
use Prim.Native.Nat.{ℕ, zero, suc, ◌+◌, ◌-◌, ◌*◌, ◌≤◌, ◌<◌}
use native.Mathlib.Numerals.{add-one}
use native.Mathlib.Decide.{dec_le}
use native.Mathlib.Omega.{arith}
use lib.Dec.{leb, ltb}
use lib.ListN.{length, take, drop, take-append-drop}
use lib.Seq.{drop-drop}
use borrow.Author.Tests.{le-leb, lt-leb, lt-ltb, le-ltb, eq-eqb, ne_eqb}
use Rattle.std.specs.Prelude.{Option, Some, None, SomeIff, MatchOption}
use Rattle.bools.proofs.BoolLaws.{and_assoc}
use Rattle.sets.specs.Upto.{Within, every}
use Rattle.blocks.specs.Blocks.{block, with_block, with_blocks}
use Rattle.octets.specs.Bytes.{number, bytes_of, part, put}
use Rattle.octets.proofs.ByteLaws.{length-bytes, length_part, part-part, put-put}
use Rattle.fields.specs.Layout.{get, store}
use Rattle.asking.specs.Asking.{first_no}
use Rattle.sheet.specs.Sheet.{sum, line_of, assured, ceiling, counting, total, assured_of, ceiling_of, count_of, total_of, all_assured, remainder, all_beyond, line_right, sheet_right, is_club, by_club, counted, cleared}

-- ---- the numbers of club k + 1, read at their places
module _ (s : List ℕ) (k : ℕ) where
  pub assured-at : number (part (k * 12) 4 s) ≡ assured_of s (suc k)
  unfolding assured_of line_of block get assured
  assured-at = ap number (sym (part-part (0 + k * 12) 12 0 4 s (omega arith) ∙ ap (λ (a : ℕ). part a 4 s) (omega arith)))

  pub ceiling-at : number (part (k * 12 + 4) 4 s) ≡ ceiling_of s (suc k)
  unfolding ceiling_of line_of block get ceiling
  ceiling-at = ap number (sym (part-part (0 + k * 12) 12 4 4 s (omega arith) ∙ ap (λ (a : ℕ). part a 4 s) (omega arith)))

  pub count_at : number (part (k * 12 + 8) 4 s) ≡ count_of s (suc k)
  unfolding count_of line_of block get counting
  count_at = ap number (sym (part-part (0 + k * 12) 12 8 4 s (omega arith) ∙ ap (λ (a : ℕ). part a 4 s) (omega arith)))

pub total-at : (s : List ℕ) → number (part 192 4 s) ≡ total_of s
unfolding total_of get total
total-at s = refl

-- ---- the pass over the lines: those of clubs 1 to k
pub record Added (s : List ℕ) (k : ℕ) (all : Bool) (m : ℕ) : Type 0 where
  pub right : all ≡ every k (line_right s)
  pub taken : m ≡ sum k (assured_of s) + sum k (λ x. count_of s x - assured_of s x)
  pub low : m ≤ k * 4_294_967_295

pub none-added : (s : List ℕ) → Added s 0 true 0
unfolding every sum
none-added s = record { right = refl; taken = refl; low = omega arith }

-- the larger of two numbers is no larger than a third where neither is
most-fits : (a b t : ℕ) → leb (a + (b - a)) t ≡ (leb a t && leb b t)
most-fits a b t = go (dec_le a t) (dec_le b t)
  where
    go : Dec (a ≤ t) → Dec (b ≤ t) → leb (a + (b - a)) t ≡ (leb a t && leb b t)
    go (yes h) (yes g) = rw (le-leb a t h, le-leb b t g, le-leb (a + (b - a)) t (omega arith))
    go (yes h) (no g) = rw (le-leb a t h, lt-leb b t (omega arith), lt-leb (a + (b - a)) t (omega arith))
    go (no h) d = rw (lt-leb a t (omega arith), lt-leb (a + (b - a)) t (omega arith))

pub one-added : (s : List ℕ) (k : ℕ) (right : Bool) (m : ℕ) → Added s k right m → (sure top count most : ℕ) (good next : Bool)
    → sure ≡ number (part (k * 12) 4 s) → count ≡ number (part (k * 12 + 8) 4 s) → top ≡ number (part (k * 12 + 4) 4 s)
    → most ≡ sure + (count - sure) → good ≡ (leb top 1_000_000 && leb most top) → next ≡ (right && good) → most < 4_294_967_296
    → Added s (k + 1) next (m + most)
unfolding every sum line_right
one-added s k right m c sure top count most good next e f g d h n u =
    let p : sure ≡ assured_of s (suc k) = e ∙ assured-at s k in
    let q : count ≡ count_of s (suc k) = f ∙ count_at s k in
    let r : top ≡ ceiling_of s (suc k) = g ∙ ceiling-at s k in
    let z : most ≡ assured_of s (suc k) + (count_of s (suc k) - assured_of s (suc k)) = d ∙ ap₂ (λ (x y : ℕ). x + (y - x)) p q in
    rw (add-one k) (record {
      right = n ∙ ap₂ (λ (x y : Bool). x && y) c.right (h ∙ rw (d, most-fits sure count top, p, q, r) (sym (and_assoc (leb (ceiling_of s (suc k)) 1_000_000) (leb (assured_of s (suc k)) (ceiling_of s (suc k))) (leb (count_of s (suc k)) (ceiling_of s (suc k))))));
      taken = omega (arith, c.taken, z);
      low = omega (arith, c.low);
    })

-- ---- assured numbers and counts beyond them against the total
both-fit : (a b t : ℕ) → leb (a + b) t ≡ (leb a t && leb b (t - a))
both-fit a b t = go (dec_le a t) (dec_le (a + b) t)
  where
    go : Dec (a ≤ t) → Dec (a + b ≤ t) → leb (a + b) t ≡ (leb a t && leb b (t - a))
    go (yes h) (yes g) = rw (le-leb a t h, le-leb (a + b) t g, le-leb b (t - a) (omega arith))
    go (yes h) (no g) = rw (le-leb a t h, lt-leb (a + b) t (omega arith), lt-leb b (t - a) (omega arith))
    go (no h) (yes g) = absurd (omega arith)
    go (no h) (no g) = rw (lt-leb a t (omega arith), lt-leb (a + b) t (omega arith))

module _ (s : List ℕ) (long : length s ≡ 196) (lines : Bool) (m t : ℕ) (is : lines ≡ every 16 (line_right s)) (taken : m ≡ all_assured s + all_beyond s) (whole : t ≡ number (part 192 4 s)) where
  pub sheet-is : ((lines && leb t 1_000_000) && leb m t) ≡ sheet_right s
  unfolding sheet_right remainder
  sheet-is =
      let w : t ≡ total_of s = whole ∙ total-at s in
      rw (taken, both-fit (all_assured s) (all_beyond s) t, eq-eqb (length s) 196 long, is, w)
      (sym (and_assoc (every 16 (line_right s) && leb (total_of s) 1_000_000) (leb (all_assured s) (total_of s)) (leb (all_beyond s) (total_of s - all_assured s))))

  pub left_is : t - m ≡ remainder s - all_beyond s
  unfolding remainder
  left_is = omega (arith, taken, whole ∙ total-at s)

pub other_length : (s : List ℕ) → (length s ≡ 196 → ⊥) → sheet_right s ≡ false
unfolding sheet_right
other_length s d = rw (ne_eqb (length s) 196 d)

pub line_wrong : (s : List ℕ) → length s ≡ 196 → every 16 (line_right s) ≡ false → sheet_right s ≡ false
unfolding sheet_right
line_wrong s e h = rw (eq-eqb (length s) 196 e, h)

module _ (s : List ℕ) (long : length s ≡ 196) (m t : ℕ) (lines : every 16 (line_right s) ≡ true) (taken : m ≡ all_assured s + all_beyond s) (whole : t ≡ number (part 192 4 s)) where
  pub total_over : 1_000_000 < t → sheet_right s ≡ false
  total_over h = sym (sheet-is s long true m t (sym lines) taken whole) ∙ rw (lt-leb t 1_000_000 h)

  pub total-fits : t ≤ 1_000_000 → (r : Option ℕ) → SomeIff r (m ≤ t) (t - m) → MatchOption r (sheet_right s ≡ false) (λ (left : ℕ). (sheet_right s ≡ true) × (left ≡ remainder s - all_beyond s))
  total-fits h None f = sym (sheet-is s long true m t (sym lines) taken whole) ∙ rw (le-leb t 1_000_000 h, lt-leb m t (omega arith))
  total-fits h (Some left) f = (sym (sheet-is s long true m t (sym lines) taken whole) ∙ rw (le-leb t 1_000_000 h, le-leb m t f.0), f.1 ∙ left_is s long true m t (sym lines) taken whole)

-- ---- 18 and 19
pub by-no-club : (s : List ℕ) (x : ℕ) → (x ≡ 0) ⊎ (16 < x) → 18 ≡ first_no (by_club s x [])
unfolding first_no by_club is_club
by-no-club s x (inl e) = rw e
by-no-club s x (inr h) = go (leb 1 x) (lt-leb x 16 h)
  where
    go : (b : Bool) → leb x 16 ≡ false → ◌≡◌ {A = ℕ} 18 (cond ((b && leb x 16) && ltb (count_of s x) (ceiling_of s x)) (cond (ltb (count_of s x) (assured_of s x) || ltb (all_beyond s) (remainder s)) 0 19) 18)
    go true e = rw e
    go false e = refl

module _ (s : List ℕ) (x : ℕ) (v : Within 16 x) where
  is-club : is_club x ≡ true
  unfolding is_club
  is-club = rw (le-leb 1 x v.0, le-leb x 16 v.1)

  pub by-ceiling : ceiling_of s x ≤ count_of s x → 18 ≡ first_no (by_club s x [])
  unfolding first_no by_club
  by-ceiling h = rw (is-club, le-ltb (count_of s x) (ceiling_of s x) h)

  pub by-assured : count_of s x < ceiling_of s x → count_of s x < assured_of s x → 0 ≡ first_no (by_club s x [])
  unfolding first_no by_club
  by-assured h g = rw (is-club, lt-ltb (count_of s x) (ceiling_of s x) h, lt-ltb (count_of s x) (assured_of s x) g)

  module _ (left : ℕ) (e : left ≡ remainder s - all_beyond s) (h : count_of s x < ceiling_of s x) (g : assured_of s x ≤ count_of s x) where
    pub by_left : 0 < left → 0 ≡ first_no (by_club s x [])
    unfolding first_no by_club
    by_left l = rw (is-club, lt-ltb (count_of s x) (ceiling_of s x) h, le-ltb (count_of s x) (assured_of s x) g, lt-ltb (all_beyond s) (remainder s) (omega arith))

    pub by-spent : left ≤ 0 → 19 ≡ first_no (by_club s x [])
    unfolding first_no by_club
    by-spent l = rw (is-club, lt-ltb (count_of s x) (ceiling_of s x) h, le-ltb (count_of s x) (assured_of s x) g, le-ltb (all_beyond s) (remainder s) (omega arith))

-- ---- a count stored
put_same : (a n : ℕ) (xs : List ℕ) → a + n ≤ length xs → put a (part a n xs) xs ≡ xs
unfolding put part
put_same a n xs h =
    let l : length (take n (drop a xs)) ≡ n = length_part a n xs h in
    rw (l, ← drop-drop n a xs) (ap (λ (ys : List ℕ). take a xs ++ ys) (take-append-drop n (drop a xs)) ∙ take-append-drop a xs)

pub count-stored : (s : List ℕ) (k v : ℕ) → length s ≡ 196 → k < 16 → put (k * 12 + 8) (bytes_of 4 v) s ≡ with_block 0 12 (suc k) (λ line. store counting v line) s
unfolding with_block block store counting
count-stored s k v e h =
    let l : length (part (0 + k * 12) 12 s) ≡ 12 = length_part (0 + k * 12) 12 s (omega (arith, e)) in
    let z : k * 12 + 8 ≡ (0 + k * 12) + 8 = omega arith in
    rw z
    (ap (put (0 + k * 12 + 8) (bytes_of 4 v)) (sym (put_same (0 + k * 12) 12 s (omega (arith, e))))
    ∙ put-put (0 + k * 12) 8 (bytes_of 4 v) (part (0 + k * 12) 12 s) s (omega (arith, l, length-bytes 4 v)) (omega (arith, l, e)))

pub counted_is : (s : List ℕ) (k n : ℕ) → length s ≡ 196 → k < 16 → n ≡ number (part (k * 12 + 8) 4 s) → put (k * 12 + 8) (bytes_of 4 (n + 1)) s ≡ counted s (suc k)
unfolding counted with_block count_of line_of
counted_is s k n e h r = count-stored s k (n + 1) e h ∙ rw (r ∙ count_at s k)

-- the same of club x
module _ (s : List ℕ) where
  pub assured-of : (x : ℕ) → 1 ≤ x → number (part ((x - 1) * 12) 4 s) ≡ assured_of s x
  assured-of zero h = absurd (omega arith)
  assured-of (suc k) h = let z : suc k - 1 ≡ k = omega arith in rw z (assured-at s k)

  pub ceiling-of : (x : ℕ) → 1 ≤ x → number (part ((x - 1) * 12 + 4) 4 s) ≡ ceiling_of s x
  ceiling-of zero h = absurd (omega arith)
  ceiling-of (suc k) h = let z : suc k - 1 ≡ k = omega arith in rw z (ceiling-at s k)

  pub count-of : (x : ℕ) → 1 ≤ x → number (part ((x - 1) * 12 + 8) 4 s) ≡ count_of s x
  count-of zero h = absurd (omega arith)
  count-of (suc k) h = let z : suc k - 1 ≡ k = omega arith in rw z (count_at s k)

  pub counted_of : (x n : ℕ) → length s ≡ 196 → Within 16 x → n ≡ number (part ((x - 1) * 12 + 8) 4 s) → put ((x - 1) * 12 + 8) (bytes_of 4 (n + 1)) s ≡ counted s x
  counted_of zero n e v r = absurd (omega arith)
  counted_of (suc k) n e v r = let z : suc k - 1 ≡ k = omega arith in rw z (counted_is s k n e (omega arith) (rw z at r))

-- ---- the counts of clubs 1 to k are 0
abbrev pub cleared_to : ℕ → List ℕ → List ℕ
cleared_to k s = with_blocks 0 12 (λ x. true) (λ x line. store counting 0 line) k s

pub none-cleared : (s : List ℕ) → s ≡ cleared_to 0 s
unfolding with_blocks
none-cleared s = refl

pub one-cleared : (s u : List ℕ) (k : ℕ) → length u ≡ 196 → k < 16 → u ≡ cleared_to k s → put (k * 12 + 8) (bytes_of 4 0) u ≡ cleared_to (k + 1) s
unfolding with_blocks
one-cleared s u k e h c = rw (add-one k) (count-stored u k 0 e h ∙ ap (with_block 0 12 (suc k) (λ line. store counting 0 line)) c)

pub all-cleared : (s u : List ℕ) (k : ℕ) → k ≡ 16 → u ≡ cleared_to k s → u ≡ cleared s
unfolding cleared
all-cleared s u k e c = c ∙ ap (λ (n : ℕ). cleared_to n s) e
