-- Sheets: what a right one says; what a write and a check leave of it.
use mathlib.Core.Path.{◌≡◌, refl, ◌∙◌, ap, ap₂}
use mathlib.Core.Bool.{Bool, true, false, cond, ◌&&◌, ◌||◌}
use mathlib.Core.Logic.{◌⊎◌, inl, inr, ⊎_elim, ◌≢◌}
use mathlib.Core.List.{List, []}
use Prim.Native.Nat.{ℕ, zero, suc, ◌+◌, ◌-◌, ◌*◌, ◌^◌, ◌≤◌, ◌<◌}
use native.Mathlib.Decide.{ℕ_discrete}
use native.Mathlib.Omega.{arith}
use lib.Dec.{eqb, leb, ltb}
use lib.ListN.{length, take, drop}
use borrow.Author.Tests.{leb-true, le-leb, ltb-true, ltb-false, lt-ltb, eqb-true, eq-eqb}
use Rattle.bools.proofs.BoolLaws.{and_l, and_r, and_i, or-e}
use Rattle.sets.specs.Upto.{Within, every}
use Rattle.sets.proofs.UptoLaws.{every-at, every_of}
use Rattle.blocks.specs.Blocks.{block}
use Rattle.blocks.proofs.BlockLaws.{Altered, length-block, length-stays, block_same, block-other, tail-stays, blocks-changed}
use Rattle.octets.specs.Bytes.{number, part}
use Rattle.fields.specs.Layout.{get, store}
use Rattle.fields.proofs.FieldLaws.{length-store, get-store, get_other}
use Rattle.asking.specs.Asking.{Question, first_no}
use Rattle.sheet.specs.Sheet.{sum, line_of, assured, ceiling, counting, total, assured_of, ceiling_of, count_of, total_of, all_assured, remainder, all_beyond, line_right, sheet_right, is_club, by_club, counted, cleared}
use Rattle.sheet.specs.Claims.{AssuredNeverRefused, OneCounted, CountsOne, AllCleared, ClearsAll, TotalHolds}
use Rattle.sheet.proofs.SumLaws.{sum-ext, sum_more, sum-zero, sum-under}

-- ---- a right sheet
pub record LineRight (s : List ℕ) (x : ℕ) : Type 0 where
  pub small : ceiling_of s x ≤ 1_000_000
  pub assured : assured_of s x ≤ ceiling_of s x
  pub count : count_of s x ≤ ceiling_of s x

pub record SheetRight (s : List ℕ) : Type 0 where
  pub long : length s ≡ 196
  pub lines : (x : ℕ) → Within 16 x → LineRight s x
  pub small : total_of s ≤ 1_000_000
  pub assured : all_assured s ≤ total_of s
  pub fits : all_beyond s ≤ remainder s

line-facts : (s : List ℕ) (x : ℕ) → line_right s x ≡ true → LineRight s x
unfolding line_right
line-facts s x e =
    let a : (leb (ceiling_of s x) 1_000_000 && leb (assured_of s x) (ceiling_of s x)) ≡ true = and_l _ _ e in record {
      small = leb-true _ _ (and_l _ _ a);
      assured = leb-true _ _ (and_r (leb (ceiling_of s x) 1_000_000) _ a);
      count = leb-true _ _ (and_r (leb (ceiling_of s x) 1_000_000 && leb (assured_of s x) (ceiling_of s x)) _ e);
    }

line-of : (s : List ℕ) (x : ℕ) → LineRight s x → line_right s x ≡ true
unfolding line_right
line-of s x r =
    and_i (leb (ceiling_of s x) 1_000_000 && leb (assured_of s x) (ceiling_of s x)) _
    (and_i (leb (ceiling_of s x) 1_000_000) _ (le-leb _ _ r.small) (le-leb _ _ r.assured))
    (le-leb _ _ r.count)

pub sheet-facts : (s : List ℕ) → sheet_right s ≡ true → SheetRight s
unfolding sheet_right
sheet-facts s e =
    let long : eqb (length s) 196 ≡ true = search (and_l, and_r) in
    let lines : every 16 (line_right s) ≡ true = search (and_l, and_r) in
    let small : leb (total_of s) 1_000_000 ≡ true = search (and_l, and_r) in
    let room : leb (all_assured s) (total_of s) ≡ true = search (and_l, and_r) in
    let fits : leb (all_beyond s) (remainder s) ≡ true = search (and_l, and_r) in record {
      long = eqb-true _ _ long;
      lines = λ x v. line-facts s x (every-at 16 (line_right s) lines x v);
      small = leb-true _ _ small;
      assured = leb-true _ _ room;
      fits = leb-true _ _ fits;
    }

pub sheet-of : (s : List ℕ) → SheetRight s → sheet_right s ≡ true
unfolding sheet_right
sheet-of s r =
    rw (
      eq-eqb (length s) 196 r.long,
      every_of 16 (line_right s) (λ x v. line-of s x (r.lines x v)),
      le-leb (total_of s) 1_000_000 r.small,
      le-leb (all_assured s) (total_of s) r.assured,
      le-leb (all_beyond s) (remainder s) r.fits,
    )

-- ---- 18 and 19
pub club-within : (x : ℕ) → is_club x ≡ true → Within 16 x
unfolding is_club
club-within x e = (leb-true 1 x (and_l _ _ e), leb-true x 16 (and_r (leb 1 x) _ e))

-- what a write has passed that neither turns down
pub record MayWrite (s : List ℕ) (x : ℕ) : Type 0 where
  pub club : Within 16 x
  pub below : count_of s x < ceiling_of s x
  pub share : (count_of s x < assured_of s x) ⊎ (all_beyond s < remainder s)

pub may_write : (s : List ℕ) (x : ℕ) → first_no (by_club s x []) ≡ 0 → MayWrite s x
unfolding first_no by_club
may_write s x = go (is_club x && ltb (count_of s x) (ceiling_of s x)) (ltb (count_of s x) (assured_of s x) || ltb (all_beyond s) (remainder s)) refl refl
  where
    go : (a b : Bool) → (is_club x && ltb (count_of s x) (ceiling_of s x)) ≡ a → (ltb (count_of s x) (assured_of s x) || ltb (all_beyond s) (remainder s)) ≡ b
        → ◌≡◌ {A = ℕ} (cond a (cond b 0 19) 18) 0 → MayWrite s x
    go true true p q e = record {
      club = club-within x (and_l _ _ p);
      below = ltb-true _ _ (and_r (is_club x) _ p);
      share = ⊎_elim (λ h. inl (ltb-true _ _ h)) (λ h. inr (ltb-true _ _ h)) (or-e (ltb (count_of s x) (assured_of s x)) _ q);
    }
    go true false p q e = absurd (omega arith)
    go false b p q e = absurd (omega arith)

pub assured-never-refused : AssuredNeverRefused
unfolding AssuredNeverRefused first_no by_club
assured-never-refused s x r v h =
    let l = (sheet-facts s r).lines x (club-within x v) in
    let b : count_of s x < ceiling_of s x = omega (arith, l.assured) in
    rw (v, lt-ltb (count_of s x) (ceiling_of s x) b, lt-ltb (count_of s x) (assured_of s x) h)

-- ---- a field of a line whose count is stored
module _ (line : List ℕ) (v : ℕ) (long : length line ≡ 12) where
  ends : counting.place + counting.width ≤ length line
  unfolding counting
  ends = omega (arith, long)

  stored-length : length (store counting v line) ≡ 12
  stored-length = length-store counting v line ends ∙ long

  stored-count : v < 256 ^ 4 → get counting (store counting v line) ≡ v
  unfolding counting
  stored-count h = get-store counting v line ends h

  stored-assured : get assured (store counting v line) ≡ get assured line
  unfolding counting assured
  stored-assured = get_other counting v line ends assured (inl (omega arith))

  stored-ceiling : get ceiling (store counting v line) ≡ get ceiling line
  unfolding counting ceiling
  stored-ceiling = get_other counting v line ends ceiling (inl (omega arith))

-- the total stands behind the lines
total-tail : (s u : List ℕ) → drop 192 u ≡ drop 192 s → total_of u ≡ total_of s
unfolding total_of get total part
total-tail s u e = ap (λ (l : List ℕ). number (take 4 l)) e

line-long : (s : List ℕ) → length s ≡ 196 → (x : ℕ) → Within 16 x → length (line_of s x) ≡ 12
unfolding line_of
line-long s e x v = length-block 0 12 s 16 (omega (arith, e)) x v

-- ---- one more
module _ (s : List ℕ) (k : ℕ) (right : SheetRight s) (p : MayWrite s (suc k)) where
  abbrev x : ℕ
  x = suc k

  abbrev more : List ℕ → List ℕ
  more line = store counting (get counting line + 1) line

  long : length (line_of s x) ≡ 12
  long = line-long s right.long x p.club

  room : 0 + suc k * 12 ≤ length s
  room = omega (arith, right.long, p.club.1)

  keeps : length (more (block 0 12 x s)) ≡ 12
  unfolding line_of
  keeps = stored-length (block 0 12 x s) _ long

  own : line_of (counted s x) x ≡ more (line_of s x)
  unfolding line_of counted
  own = block_same 0 12 s k room more keeps

  other : (i : ℕ) → i ≢ x → line_of (counted s x) i ≡ line_of s i
  unfolding line_of counted
  other i d = block-other 0 12 s k room more keeps i d

  same_total : total_of (counted s x) ≡ total_of s
  unfolding counted
  same_total = total-tail s _ (tail-stays 0 12 s k room more keeps 192 (omega (arith, p.club.1)))

  same_length : length (counted s x) ≡ 196
  unfolding counted
  same_length = length-stays 0 12 s k room more keeps ∙ right.long

  small : count_of s x + 1 < 256 ^ 4
  small = omega (arith, p.below, (right.lines x p.club).small)

  own-count : count_of (counted s x) x ≡ count_of s x + 1
  unfolding count_of
  own-count = ap (get counting) own ∙ stored-count (line_of s x) (count_of s x + 1) long small

  other-count : (i : ℕ) → i ≢ x → count_of (counted s x) i ≡ count_of s i
  unfolding count_of
  other-count i d = ap (get counting) (other i d)

  same-assured : (i : ℕ) → assured_of (counted s x) i ≡ assured_of s i
  unfolding assured_of
  same-assured i = go (ℕ_discrete i x)
    where
      go : Dec (i ≡ x) → get assured (line_of (counted s x) i) ≡ get assured (line_of s i)
      go (yes e) = rw e (ap (get assured) own ∙ stored-assured (line_of s x) _ long)
      go (no d) = ap (get assured) (other i d)

  same-ceiling : (i : ℕ) → ceiling_of (counted s x) i ≡ ceiling_of s i
  unfolding ceiling_of
  same-ceiling i = go (ℕ_discrete i x)
    where
      go : Dec (i ≡ x) → get ceiling (line_of (counted s x) i) ≡ get ceiling (line_of s i)
      go (yes e) = rw e (ap (get ceiling) own ∙ stored-ceiling (line_of s x) _ long)
      go (no d) = ap (get ceiling) (other i d)

  same-all : all_assured (counted s x) ≡ all_assured s
  unfolding all_assured
  same-all = sum-ext 16 _ _ (λ i v. same-assured i)

  same-remainder : remainder (counted s x) ≡ remainder s
  unfolding remainder
  same-remainder = ap₂ (λ (a b : ℕ). a - b) same_total same-all

  one-beyond : all_beyond (counted s x) ≡ all_beyond s + cond (ltb (count_of s x) (assured_of s x)) 0 1
  unfolding all_beyond
  one-beyond = sum_more 16 _ _ x _ p.club (λ i d. ap₂ (λ (a b : ℕ). a - b) (other-count i d) (same-assured i)) (rw (own-count, same-assured x) (go (ltb (count_of s x) (assured_of s x)) refl))
    where
      go : (b : Bool) → ltb (count_of s x) (assured_of s x) ≡ b → count_of s x + 1 - assured_of s x ≡ count_of s x - assured_of s x + cond b 0 1
      go true e = omega (arith, ltb-true (count_of s x) (assured_of s x) e)
      go false e = omega (arith, ltb-false (count_of s x) (assured_of s x) e)

  still-fits : all_beyond s + cond (ltb (count_of s x) (assured_of s x)) 0 1 ≤ remainder s
  still-fits = go p.share
    where
      go : (count_of s x < assured_of s x) ⊎ (all_beyond s < remainder s) → all_beyond s + cond (ltb (count_of s x) (assured_of s x)) 0 1 ≤ remainder s
      go (inl h) = rw (lt-ltb (count_of s x) (assured_of s x) h) (omega (arith, right.fits))
      go (inr h) = at (ltb (count_of s x) (assured_of s x))
        where
          at : (b : Bool) → all_beyond s + cond b 0 1 ≤ remainder s
          at true = omega arith
          at false = omega arith

  count-right : (i : ℕ) → Within 16 i → count_of (counted s x) i ≤ ceiling_of s i
  count-right i v = go (ℕ_discrete i x)
    where
      go : Dec (i ≡ x) → count_of (counted s x) i ≤ ceiling_of s i
      go (yes e) = rw e (omega (arith, own-count, p.below))
      go (no d) = omega (arith, other-count i d, (right.lines i v).count)

  stays-right : SheetRight (counted s x)
  stays-right = record {
    long = same_length;
    lines = λ i v. let l = right.lines i v in record { small = omega (arith, same-ceiling i, l.small); assured = omega (arith, same-ceiling i, same-assured i, l.assured); count = omega (arith, same-ceiling i, count-right i v) };
    small = omega (arith, same_total, right.small);
    assured = omega (arith, same_total, same-all, right.assured);
    fits = rw (one-beyond, same-remainder) still-fits;
  }

  one-counted : OneCounted s (counted s x) x
  one-counted = record {
    right = sheet-of (counted s x) stays-right;
    count = own-count;
    others = other;
    assured = same-assured;
    ceiling = same-ceiling;
    total = same_total;
    remainder = same-remainder;
    beyond = one-beyond;
    sum = sum_more 16 _ _ x 1 p.club other-count own-count;
  }

pub counts-one : CountsOne
unfolding CountsOne
counts-one s zero r e = absurd (omega (arith, (may_write s zero e).club.0))
counts-one s (suc k) r e = one-counted s k (sheet-facts s r) (may_write s (suc k) e)

-- ---- all 0
module _ (s : List ℕ) (right : SheetRight s) where
  abbrev zeroed : List ℕ → List ℕ
  zeroed line = store counting 0 line

  altered : Altered 0 12 s (cleared s) 16 (λ (i : ℕ). true) (λ (i : ℕ). zeroed)
  unfolding cleared
  altered = blocks-changed 0 12 s (λ i. true) (λ i. zeroed) 16 (omega (arith, right.long)) (λ i v e. stored-length (block 0 12 i s) 0 (length-block 0 12 s 16 (omega (arith, right.long)) i v))

  zero-line : (i : ℕ) → Within 16 i → line_of (cleared s) i ≡ zeroed (line_of s i)
  unfolding line_of
  zero-line i v = altered.blocks i v

  zero-count : (i : ℕ) → Within 16 i → count_of (cleared s) i ≡ 0
  unfolding count_of
  zero-count i v = ap (get counting) (zero-line i v) ∙ stored-count (line_of s i) 0 (line-long s right.long i v) (omega arith)

  kept-assured : (i : ℕ) → Within 16 i → assured_of (cleared s) i ≡ assured_of s i
  unfolding assured_of
  kept-assured i v = ap (get assured) (zero-line i v) ∙ stored-assured (line_of s i) 0 (line-long s right.long i v)

  kept-ceiling : (i : ℕ) → Within 16 i → ceiling_of (cleared s) i ≡ ceiling_of s i
  unfolding ceiling_of
  kept-ceiling i v = ap (get ceiling) (zero-line i v) ∙ stored-ceiling (line_of s i) 0 (line-long s right.long i v)

  kept-total : total_of (cleared s) ≡ total_of s
  kept-total = total-tail s _ (altered.tail 192 (omega arith))

  kept-all : all_assured (cleared s) ≡ all_assured s
  unfolding all_assured
  kept-all = sum-ext 16 _ _ kept-assured

  none-beyond : all_beyond (cleared s) ≡ 0
  unfolding all_beyond
  none-beyond = sum-zero 16 _ (λ i v. omega (arith, zero-count i v))

  cleared-right : SheetRight (cleared s)
  cleared-right = record {
    long = altered.long ∙ right.long;
    lines = λ i v. let l = right.lines i v in record { small = omega (arith, kept-ceiling i v, l.small); assured = omega (arith, kept-ceiling i v, kept-assured i v, l.assured); count = omega (arith, zero-count i v) };
    small = omega (arith, kept-total, right.small);
    assured = omega (arith, kept-total, kept-all, right.assured);
    fits = omega (arith, none-beyond);
  }

  all-cleared : AllCleared s (cleared s)
  all-cleared = record {
    right = sheet-of (cleared s) cleared-right;
    counts = zero-count;
    assured = kept-assured;
    ceiling = kept-ceiling;
    total = kept-total;
    sum = sum-zero 16 _ zero-count;
  }

pub clears-all : ClearsAll
unfolding ClearsAll
clears-all s r = all-cleared s (sheet-facts s r)

-- ---- the total holds
pub total-holds : TotalHolds
unfolding TotalHolds remainder all_assured all_beyond
total-holds s r =
    let f = sheet-facts s r in
    omega (arith, sum-under 16 (count_of s) (assured_of s) (λ x. count_of s x - assured_of s x) (λ i v. omega arith), f.assured, f.fits)

-- ---- 18 and 19 before other questions
pub by-club : (s : List ℕ) (x : ℕ) (qs : List Question) → first_no (by_club s x qs) ≡ 0 → (first_no (by_club s x []) ≡ 0) × (first_no qs ≡ 0)
unfolding first_no by_club
by-club s x qs = go (is_club x && ltb (count_of s x) (ceiling_of s x)) (ltb (count_of s x) (assured_of s x) || ltb (all_beyond s) (remainder s))
  where
    go : (a b : Bool) → ◌≡◌ {A = ℕ} (cond a (cond b (first_no qs) 19) 18) 0 → (◌≡◌ {A = ℕ} (cond a (cond b 0 19) 18) 0) × (first_no qs ≡ 0)
    go true true e = (refl, e)
    go true false e = absurd (omega arith)
    go false b e = absurd (omega arith)

-- what they say, and where they say nothing the others
pub club-asked : (s : List ℕ) (x : ℕ) (qs : List Question) → first_no (by_club s x qs) ≡ cond (eqb (first_no (by_club s x [])) 0) (first_no qs) (first_no (by_club s x []))
unfolding first_no by_club
club-asked s x qs = go (is_club x && ltb (count_of s x) (ceiling_of s x)) (ltb (count_of s x) (assured_of s x) || ltb (all_beyond s) (remainder s))
  where
    go : (a b : Bool) → cond a (cond b (first_no qs) 19) 18 ≡ cond (eqb (cond a (cond b 0 19) 18) 0) (first_no qs) (cond a (cond b 0 19) 18)
    go true true = refl
    go true false = refl
    go false b = refl

pub club-passed : (s : List ℕ) (x : ℕ) (qs : List Question) → first_no (by_club s x []) ≡ 0 → first_no (by_club s x qs) ≡ first_no qs
club-passed s x qs e = club-asked s x qs ∙ rw e
