-- A patch more: the last 15 at most of the patches before, then the new one; and the window stays right.
use mathlib.Core.Path.{◌≡◌, refl, sym, ◌∙◌, ap, ap₂, subst}
use mathlib.Core.Bool.{Bool, true, false, cond}
use mathlib.Core.Logic.{◌⊎◌, inl, inr, ⊎_elim}
use mathlib.Core.List.{List, [], ◌∷◌, ◌++◌, map, map-append}
use Prim.Native.Nat.{ℕ, zero, suc, ◌+◌, ◌-◌, ◌*◌, ◌≤◌, ◌<◌}
use native.Mathlib.Decide.{dec_le, ℕ_discrete}
use native.Mathlib.Omega.{arith}
use lib.Dec.{eqb}
use lib.ListN.{length, drop, length-append, length-map}
use lib.Seq.{drop-drop}
use borrow.Author.Tests.{le-leb, eq-eqb, ne_eqb, lt-leb}
use Rattle.bools.proofs.BoolLaws.{or_l, or_r, clash}
use Rattle.sets.specs.Upto.{Within, every, among}
use Rattle.sets.proofs.UptoLaws.{last}
use Rattle.sets.proofs.RisingLaws.{among-head, among-tail, among-e}
use Rattle.octets.specs.Bytes.{all_zero, zeros}
use Rattle.octets.proofs.ByteLaws.{zero-drop, zeros-zero, length-zeros}
use Rattle.blocks.specs.Blocks.{block, with_block}
use Rattle.blocks.proofs.BlockLaws.{one-changed, tail-stays, ends}
use Rattle.fields.specs.Layout.{get, store}
use Rattle.linking.specs.Linking.{chain, last_of, behind}
use Rattle.linking.proofs.PathLaws.{Path, chain-of, behind-row}
use Rattle.linking.proofs.InsertLaws.{last-among}
use Rattle.linking.proofs.EndLaws.{path-more, path-apart, path-behind}
use Rattle.window.specs.Windows.{Window, Patch, places, width, younger, patch_in, record_with, record_of, next, path, patches, record_right, window_right, emptied, free, taken, left, youngest, added}
use Rattle.window.specs.Claims.{Whole, Fits, LatestKept, StaysRight}
use Rattle.window.proofs.PatchLaws.{record-last, record-patch, record-right, relinked-long, relinked-next, relinked-patch, relinked-right}
use Rattle.window.proofs.PatchLaws
use Rattle.window.proofs.RightLaws.{Right, right_is, is_right, record-long, right-path, right-within, free-next, free-none}

-- ---- lists
map_same : (f g : ℕ → Patch) (xs : List ℕ) → ((j : ℕ) → among xs j ≡ true → f j ≡ g j) → map f xs ≡ map g xs
map_same f g [] e = refl
map_same f g (x ∷ xs) e = ap₂ (λ (p : Patch) (ps : List Patch). p ∷ ps) (e x (among-head x xs)) (map_same f g xs (λ j m. e j (among-tail x xs j m)))

among-more : (xs : List ℕ) (x j : ℕ) → (among xs j ≡ true) ⊎ (x ≡ j) → among (xs ++ (x ∷ [])) j ≡ true
unfolding among
among-more [] x j (inl m) = absurd (clash m)
among-more [] x j (inr e) = eq-eqb x j e
among-more (y ∷ ys) x j (inl m) = ⊎_elim
    (λ n. or_l _ (eqb y j) (among-more ys x j (inl n)))
    (λ e. or_r (among (ys ++ (x ∷ [])) j) _ (eq-eqb y j e))
    (among-e y ys j m)
among-more (y ∷ ys) x j (inr e) = or_l _ (eqb y j) (among-more ys x j (inr e))

-- ---- one record changed, none where l is 0
record Turned (xs ys : List ℕ) (l : ℕ) (f : List ℕ → List ℕ) : Type 0 where
  long : length ys ≡ 576
  each : (i : ℕ) → Within 16 i → block 0 36 i ys ≡ cond (eqb l i) (f (block 0 36 i xs)) (block 0 36 i xs)
  tail : (n : ℕ) → l ≤ n → drop (n * 36) ys ≡ drop (n * 36) xs

turned : (xs : List ℕ) → length xs ≡ 576 → (l : ℕ) → l ≤ 16 → (f : List ℕ → List ℕ) → (1 ≤ l → length (f (block 0 36 l xs)) ≡ 36) → Turned xs (with_block 0 36 l f xs) l f
unfolding with_block
turned xs long zero h f keeps = record { long = long; each = λ i v. rw (ne_eqb 0 i (λ q. omega arith)); tail = λ n q. refl }
turned xs long (suc k) h f keeps =
    let c = one-changed 0 36 xs 16 k (omega (arith, long)) (omega arith) f (keeps (omega arith)) in
    record {
      long = c.long ∙ long;
      each = c.blocks;
      tail = λ n q. tail-stays 0 36 xs k (omega (arith, long)) f (keeps (omega arith)) (n * 36) (omega arith);
    }

-- ---- a patch p behind a chain from `first` on, in record x
module _ (w : Window) (long : Whole w) (first x : ℕ) (xs : List ℕ) (p : Patch) where
  abbrev end : ℕ
  end = last_of (λ i. true) 0 xs

  after : Window
  after = record {
    oldest = cond (eqb first 0) x first;
    records = with_block 0 36 x (λ r. record_with p) (with_block 0 36 end (store younger x) w.records);
  }

  -- the chain ends, is in the window and does not have x
  record Room : Type 0 where
    chained : Path (behind first (next w)) 0 xs
    within : (j : ℕ) → among xs j ≡ true → Within 16 j
    fresh : among xs x ≡ true → ⊥
    at : Within 16 x
    short : length xs ≤ 15

  module _ (m : Room) (small : length p.bytes ≤ 32) where
    end-within : end ≤ 16
    unfolding last_of
    end-within = go xs m.within
      where
        go : (ys : List ℕ) → ((j : ℕ) → among ys j ≡ true → Within 16 j) → last_of (λ i. true) 0 ys ≤ 16
        go [] f = omega arith
        go (y ∷ ys) f = (f _ (last-among (λ i. true) y ys)).1

    linked : Turned w.records (with_block 0 36 end (store younger x) w.records) end (store younger x)
    unfolding record_of width
    linked = turned w.records long end end-within (store younger x) (λ h. relinked-long x (block 0 36 end w.records) (record-long w long end (h, end-within)))

    entered : Turned (with_block 0 36 end (store younger x) w.records) after.records x (λ r. record_with p)
    unfolding after width
    entered = turned (with_block 0 36 end (store younger x) w.records) linked.long x m.at.1 (λ r. record_with p) (λ h. PatchLaws.record-long p small)

    after-long : Whole after
    after-long = entered.long

    after_tail : (n : ℕ) → x ≤ n → end ≤ n → drop (n * 36) after.records ≡ drop (n * 36) w.records
    after_tail n h g = entered.tail n h ∙ linked.tail n g

    record-new : record_of after x ≡ record_with p
    unfolding record_of width
    record-new = entered.each x m.at ∙ rw (eq-eqb x x refl)

    record-old : (j : ℕ) → Within 16 j → (j ≡ x → ⊥) → record_of after j ≡ cond (eqb end j) (store younger x (record_of w j)) (record_of w j)
    unfolding record_of width
    record-old j v d = entered.each j v ∙ rw (ne_eqb x j (λ q. d (sym q))) (linked.each j v)

    -- a record that is neither x nor the last one
    record_same : (j : ℕ) → Within 16 j → (j ≡ x → ⊥) → (j ≡ end → ⊥) → record_of after j ≡ record_of w j
    record_same j v d q = record-old j v d ∙ rw (ne_eqb end j (λ z. q (sym z)))

    not-x : (j : ℕ) → among xs j ≡ true → j ≡ x → ⊥
    not-x j a q = m.fresh (rw (← q) a)

    -- ---- the chain
    step : ℕ → ℕ
    step = behind after.oldest (next after)

    step_row : (j : ℕ) → 1 ≤ j → step j ≡ next after j
    unfolding step
    step_row j h = behind-row after.oldest (next after) j h

    step_end : step end ≡ x
    unfolding step next after last_of Path behind width
    step_end = go xs refl m.chained m.within
      where
        go : (ys : List ℕ) → ys ≡ xs → Path (behind first (next w)) 0 ys → ((j : ℕ) → among ys j ≡ true → Within 16 j) → step (last_of (λ i. true) 0 ys) ≡ x
        go [] e q f = rw (eq-eqb first 0 q)
        go (y ∷ ys) e q f =
            let l : last_of (λ i. true) 0 (y ∷ ys) ≡ end = ap (last_of (λ i. true) 0) e in
            let a : among xs end ≡ true = rw (← l, ← e) (last-among (λ i. true) y ys) in
            let v : Within 16 end = m.within end a in
            rw l (step_row end v.0 ∙ ap (get younger) (record-old end v (not-x end a) ∙ rw (eq-eqb end end refl))
            ∙ relinked-next x (record_of w end) (record-long w long end v) (omega (arith, m.at)))

    step-new : step x ≡ 0
    unfolding next
    step-new = step_row x m.at.0 ∙ ap (get younger) record-new ∙ record-last p small

    step_same : (j : ℕ) → among (0 ∷ xs) j ≡ true → (j ≡ end → ⊥) → step j ≡ behind first (next w) j
    unfolding step after behind next Path last_of
    step_same j a d = ⊎_elim
        (λ (n : among xs j ≡ true).
        let v : Within 16 j = m.within j n in
        step_row j v.0 ∙ ap (get younger) (record_same j v (not-x j n) d) ∙ sym (behind-row first (next w) j v.0))
        (λ (e : 0 ≡ j). rw (← e) (go xs m.chained (λ q. d (sym e ∙ q))))
        (among-e 0 xs j a)
      where
        go : (ys : List ℕ) → Path (behind first (next w)) 0 ys → (0 ≡ last_of (λ i. true) 0 ys → ⊥) → cond (eqb first 0) x first ≡ first
        go [] q f = absurd (f refl)
        go (y ∷ ys) q f = rw (ne_eqb first 0 (λ z. omega (arith, q.0, q.1, z)))

    path-after : path after ≡ xs ++ (x ∷ [])
    unfolding path step
    path-after = chain-of after.oldest (next after) 17 (xs ++ (x ∷ []))
        (path-more (behind first (next w)) step x m.at.0 step-new 0 xs m.chained step_end step_same)
        (omega (arith, length-append xs (x ∷ []), m.short))

    path-length : length (path after) ≡ suc (length xs)
    path-length = ap length path-after ∙ omega (arith, length-append xs (x ∷ []))

    -- ---- the patches
    patches-after : p.offset < 65_536 → patches after ≡ map (λ (j : ℕ). patch_in (record_of w j)) xs ++ (p ∷ [])
    unfolding patches width
    patches-after h =
        ap (map (λ (j : ℕ). patch_in (record_of after j))) path-after ∙ map-append (λ (j : ℕ). patch_in (record_of after j)) xs (x ∷ [])
        ∙ ap₂ (λ (ps : List Patch) (q : Patch). ps ++ (q ∷ []))
        (map_same (λ (j : ℕ). patch_in (record_of after j)) (λ (j : ℕ). patch_in (record_of w j)) xs (λ j n.
        ap patch_in (record-old j (m.within j n) (not-x j n)) ∙ old j (m.within j n) (eqb end j)))
        (ap patch_in record-new ∙ record-patch p small h)
      where
        old : (j : ℕ) → Within 16 j → (b : Bool) → patch_in (cond b (store younger x (record_of w j)) (record_of w j)) ≡ patch_in (record_of w j)
        old j v true = relinked-patch x (record_of w j) (record-long w long j v)
        old j v false = refl

    -- ---- and that it is right
    right-after : {file v : ℕ} → file < 65_536 → Fits file p → ((i : ℕ) → Within (suc (length xs)) i → (among xs i ≡ true) ⊎ (x ≡ i)) → length xs ≤ v
        → x ≤ suc (length xs) → end ≤ suc (length xs) → all_zero (drop (suc (length xs) * 36) w.records) ≡ true
        → ((i : ℕ) → Within (suc (length xs)) i → (i ≡ x → ⊥) → record_right file (record_of w i) ≡ true) → Right file (suc v) after
    unfolding width
    right-after {file} {v} low f each young h g rest used = record {
      few = omega (arith, path-length, m.short);
      each = λ i q. rw path-after (among-more xs x i (each i (omega (arith, path-length))));
      young = omega (arith, path-length);
      rest = rw (path-length, after_tail (suc (length xs)) h g) rest;
      used = λ i q. go i (omega (arith, path-length)) (ℕ_discrete i x);
    }
      where
        old : (i : ℕ) → Within 16 i → record_right file (record_of w i) ≡ true → (b : Bool) → record_right file (cond b (store younger x (record_of w i)) (record_of w i)) ≡ true
        old i u q true = relinked-right x (record_of w i) (record-long w long i u) file ∙ q
        old i u q false = q

        go : (i : ℕ) → Within (suc (length xs)) i → Dec (i ≡ x) → record_right file (record_of after i) ≡ true
        go i q (yes e) = rw (e, record-new) (record-right p small file low f)
        go i q (no d) = let u : Within 16 i = omega (arith, m.short) in rw (record-old i u d) (old i u (used i q d) (eqb end i))

-- ---- the window with a patch more
record More (file v : ℕ) (w : Window) (p : Patch) (u : Window) : Type 0 where
  whole : Whole u
  last : patches u ≡ drop (length (patches w) - 15) (patches w) ++ (p ∷ [])
  right : Right file (suc v) u

module _ {file v : ℕ} (low : file < 65_536) (w : Window) (long : Whole w) (r : Right file v w) (p : Patch) (f : Fits file p) (small : length p.bytes ≤ 32) where
  offset-low : p.offset < 65_536
  offset-low = omega (arith, f.inside)

  count-is : length (patches w) ≡ length (path w)
  unfolding patches
  count-is = length-map (path w) (λ (x : ℕ). patch_in (record_of w x))

  -- a record is free
  module _ (h : length (path w) < 16) where
    space : Room w long w.oldest (suc (length (path w))) (path w) p
    space = record {
      chained = right-path w long r;
      within = λ j m. let q = right-within w long r j m in omega arith;
      fresh = λ m. let q = right-within w long r _ m in omega arith;
      at = omega arith;
      short = omega arith;
    }

    in-free : added p w ≡ after w long w.oldest (suc (length (path w))) (path w) p
    unfolding added taken left youngest after width
    in-free = rw (le-leb (length p.bytes) 32 small, free-next w long r h, ne_eqb (suc (length (path w))) 0 (λ q. omega arith))

    more-free : More file v w p (added p w)
    unfolding patches last_of
    more-free = rw in-free (record {
      whole = after-long w long w.oldest (suc (length (path w))) (path w) p space small;
      last =
          let n : length (patches w) - 15 ≡ 0 = omega (arith, count-is) in
          patches-after w long w.oldest (suc (length (path w))) (path w) p space small offset-low ∙ rw n;
      right = right-after w long w.oldest (suc (length (path w))) (path w) p space small low f
          (λ i q. ⊎_elim (λ (e : i ≡ suc (length (path w))). inr (sym e)) (λ u. inl (r.each i u)) (last (length (path w)) i q))
          r.young (omega arith)
          (end_low (path w) (λ j m. (right-within w long r j m).1))
          (let n : length (path w) * 36 + 36 ≡ suc (length (path w)) * 36 = omega arith in rw (← n, ← drop-drop 36 (length (path w) * 36) w.records) (zero-drop 36 _ r.rest))
          (λ i q d. r.used i (omega arith));
    })
      where
        end_low : (ys : List ℕ) → ((j : ℕ) → among ys j ≡ true → j ≤ length (path w)) → last_of (λ i. true) 0 ys ≤ suc (length (path w))
        end_low [] g = omega arith
        end_low (y ∷ ys) g = omega (arith, g _ (last-among (λ i. true) y ys))

  -- none is: the oldest one's is taken
  module _ (y : ℕ) (ys : List ℕ) (e : path w ≡ y ∷ ys) (full : length ys ≡ 15) where
    count : length (path w) ≡ 16
    count = ap length e ∙ ap suc full

    first-is : w.oldest ≡ y
    unfolding Path behind
    first-is = (subst (λ (l : List ℕ). Path (behind w.oldest (next w)) 0 l) e (right-path w long r)).0

    row : 1 ≤ y
    unfolding Path
    row = (subst (λ (l : List ℕ). Path (behind w.oldest (next w)) 0 l) e (right-path w long r)).1

    follows : Path (behind w.oldest (next w)) y ys
    unfolding Path
    follows = (subst (λ (l : List ℕ). Path (behind w.oldest (next w)) 0 l) e (right-path w long r)).2

    inside : (j : ℕ) → among (y ∷ ys) j ≡ true → Within 16 j
    inside j m = let q = right-within w long r j (rw e m) in omega (arith, count)

    room : Room w long (next w y) y ys p
    room = record {
      chained = path-behind w.oldest (next w) y ys row follows;
      within = λ j m. inside j (among-tail y ys j m);
      fresh = path-apart (behind w.oldest (next w)) y ys follows;
      at = inside y (among-head y ys);
      short = omega arith;
    }

    -- the youngest is not the oldest
    youngest-is : (zs : List ℕ) → 1 ≤ length zs → last_of (λ i. true) 0 (y ∷ zs) ≡ last_of (λ i. true) 0 zs
    unfolding last_of
    youngest-is [] h = absurd (omega arith)
    youngest-is (z ∷ zs) h = refl

    in-oldest : added p w ≡ after w long (next w y) y ys p
    unfolding added taken left youngest after width
    in-oldest = rw (le-leb (length p.bytes) 32 small, free-none w long r count, e, youngest-is ys (omega arith), first-is)

    more-oldest : More file v w p (added p w)
    unfolding patches
    more-oldest = rw in-oldest (record {
      whole = after-long w long (next w y) y ys p room small;
      last =
          let n : length (map (λ (x : ℕ). patch_in (record_of w x)) (path w)) - 15 ≡ 1 = omega (arith, count-is, count) in
          patches-after w long (next w y) y ys p room small offset-low ∙ rw (n, e);
      right = right-after w long (next w y) y ys p room small low f
          (λ i q. among-e y ys i (rw (← e) (r.each i (omega (arith, count)))))
          (omega (arith, r.young, count)) (omega (arith, inside y (among-head y ys)))
          (omega (arith, end-within w long (next w y) y ys p room small))
          (let n : suc (length ys) * 36 ≡ length (path w) * 36 = omega (arith, count) in rw n r.rest)
          (λ i q d. r.used i (omega (arith, count)));
    })

  more : More file v w p (added p w)
  more = go (path w) refl (dec_le 16 (length (path w)))
    where
      go : (l : List ℕ) → path w ≡ l → Dec (16 ≤ length (path w)) → More file v w p (added p w)
      go l e (no d) = more-free (omega arith)
      go [] e (yes h) = absurd (omega (arith, ap length e))
      go (y ∷ ys) e (yes h) = more-oldest y ys e (omega (arith, ap length e, r.few))

-- ---- the laws
pub patches-added : LatestKept
unfolding LatestKept
patches-added file v low w long e p f small = (more low w long (right_is file v w e) p f small).last

-- "A longer patch empties the window to zeros."
pub added-long : (p : Patch) (w : Window) → 32 < length p.bytes → added p w ≡ emptied
unfolding added
added-long p w h = rw (lt-leb (length p.bytes) 32 h)

pub patches-emptied : patches emptied ≡ []
unfolding patches path emptied chain
patches-emptied = refl

pub emptied-whole : Whole emptied
unfolding emptied places width
emptied-whole = length-zeros 576

pub emptied-right : (file v : ℕ) → window_right file v emptied ≡ true
unfolding window_right path emptied chain places width every
emptied-right file v = rw (le-leb 0 v (omega arith), zeros-zero 576)

-- the window stays right, at the next version
pub added-right : StaysRight
unfolding StaysRight
added-right file v low w long e p f = go (dec_le (length p.bytes) 32)
  where
    go : Dec (length p.bytes ≤ 32) → Whole (added p w) × (window_right file (suc v) (added p w) ≡ true)
    go (yes h) = let m = more low w long (right_is file v w e) p f h in (m.whole, is_right file (suc v) (added p w) m.right)
    go (no h) = rw (added-long p w (omega arith)) (emptied-whole, emptied-right file (suc v))
