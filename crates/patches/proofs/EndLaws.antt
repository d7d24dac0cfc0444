-- The end of a right window's chain, and where a patch goes.
use mathlib.Core.Path.{◌≡◌, refl, sym, ◌∙◌, ap}
use mathlib.Core.Bool.{Bool, true, false, cond}
use mathlib.Core.Logic.{⊎_elim}
use mathlib.Core.List.{List, [], ◌∷◌}
use Prim.Native.Nat.{ℕ, suc, ◌+◌, ◌≤◌, ◌<◌}
use native.Mathlib.Decide.{dec_lt}
use native.Mathlib.Omega.{arith}
use lib.Dec.{eqb}
use lib.ListN.{length}
use borrow.Author.Tests.{leb-true, eqb-true, eqb-false, ne_eqb}
use Rattle.bools.proofs.BoolLaws.{and_l, clash}
use Rattle.sets.specs.Upto.{Within, among}
use Rattle.sets.proofs.RisingLaws.{among-head, among-tail, among-e}
use Rattle.fields.specs.Layout.{get}
use Rattle.linking.specs.Linking.{last_of, behind}
use Rattle.linking.proofs.PathLaws.{Path, behind-row}
use Rattle.linking.proofs.InsertLaws.{last-among}
use Rattle.window.specs.Windows.{Window, width, size, record_of, next, path, record_right, free, taken, left, youngest}
use Rattle.window.specs.Claims.{Whole}
use Rattle.window.proofs.PatchLaws.{zero-size}
use Rattle.window.proofs.RightLaws.{Right, right_is, record-long, zero-behind, right-path, right-within, free-next, free-none}
use Rattle.windows.specs.Visits.{RightFor}
use Rattle.patches.specs.Places.{Placed}

-- ---- the last of a path is the one that nothing follows
path-end : (step : ℕ → ℕ) (a : ℕ) (xs : List ℕ) → Path step a xs → step (last_of (λ i. true) a xs) ≡ 0
unfolding Path last_of
path-end step a [] p = p
path-end step a (x ∷ xs) p = path-end step x xs p.2

path-last : (step : ℕ → ℕ) (a : ℕ) (xs : List ℕ) → Path step a xs → (y : ℕ) → among xs y ≡ true → step y ≡ 0 → last_of (λ i. true) a xs ≡ y
unfolding Path last_of among
path-last step a [] p y m e = absurd (clash m)
path-last step a (x ∷ []) p y m e = ⊎_elim (λ n. absurd (clash n)) (λ q. q) (among-e x [] y m)
path-last step a (x ∷ z ∷ zs) p y m e =
    ⊎_elim (λ n. path-last step x (z ∷ zs) p.2 y n e) (λ (q : x ≡ y). absurd (omega (arith, p.2.0, p.2.1, ap step q, e))) (among-e x (z ∷ zs) y m)

-- `count` records were looked at, all in use; `last` is the youngest if it was among them, else 0
pub record Ends (w : Window) (count last : ℕ) : Type 0 where
  pub few : count ≤ length (path w)
  pub before : count < youngest w → last ≡ 0
  pub after : youngest w ≤ count → last ≡ youngest w

pub ends-none : (w : Window) → Ends w 0 0
ends-none w = record { few = omega arith; before = λ h. refl; after = λ h. omega arith }

module _ {w : Window} (long : Whole w) (r : (file : ℕ) × RightFor file w) where
  facts : Right r.0 r.1.version w
  facts = right_is r.0 r.1.version w r.1.right

  used-size : (x : ℕ) → Within (length (path w)) x → 1 ≤ get size (record_of w x)
  unfolding record_right
  used-size x v = leb-true 1 _ (and_l _ _ (facts.used x v))

  rest-size : (x : ℕ) → length (path w) < x → x ≤ 16 → get size (record_of w x) ≡ 0
  unfolding record_of width
  rest-size x h g = zero-size (record_of w x) (record-long w long x (omega arith)) (zero-behind (length (path w)) w.records facts.rest x h)

  youngest-in : youngest w ≤ length (path w)
  unfolding youngest last_of
  youngest-in = go (path w) (λ j m. right-within w long facts j m)
    where
      go : (l : List ℕ) → ((j : ℕ) → among l j ≡ true → Within (length (path w)) j) → last_of (λ i. true) 0 l ≤ length (path w)
      go [] f = omega arith
      go (y ∷ ys) f = (f _ (last-among (λ i. true) y ys)).1

  youngest-end : 1 ≤ youngest w → next w (youngest w) ≡ 0
  unfolding youngest
  youngest-end h = sym (behind-row w.oldest (next w) (youngest w) h) ∙ path-end (behind w.oldest (next w)) 0 (path w) (right-path w long facts)

  end-youngest : (x : ℕ) → Within (length (path w)) x → next w x ≡ 0 → x ≡ youngest w
  unfolding youngest
  end-youngest x v e = sym (path-last (behind w.oldest (next w)) 0 (path w) (right-path w long facts) x (facts.each x v) (behind-row w.oldest (next w) x v.0 ∙ e))

  module _ {count last : ℕ} (g : Ends w count last) where
    pub ends_more : (x after now : ℕ) → x ≡ count + 1 → x ≤ 16 → eqb (get size (record_of w x)) 0 ≡ false → after ≡ next w x → now ≡ cond (eqb after 0) x last → Ends w x now
    ends_more x after now c f u e n = go (eqb after 0) refl
      where
        there : Within (length (path w)) x
        there = go (dec_lt (length (path w)) x)
          where
            go : Dec (length (path w) < x) → Within (length (path w)) x
            go (yes h) = absurd (eqb-false _ 0 u (rest-size x h f))
            go (no h) = omega (arith, c)

        go : (b : Bool) → eqb after 0 ≡ b → Ends w x now
        go true q =
            let y : x ≡ youngest w = end-youngest x there (sym e ∙ eqb-true after 0 q) in
            let z : now ≡ x = n ∙ rw q in
            record { few = there.1; before = λ h. absurd (omega (arith, y)); after = λ h. z ∙ y }
        go false q =
            let z : now ≡ last = n ∙ rw q in
            let d : x ≡ youngest w → ⊥ = λ y. eqb-false after 0 q (e ∙ ap (next w) y ∙ youngest-end (omega (arith, there.0, y))) in
            record { few = there.1; before = λ h. z ∙ g.before (omega (arith, c)); after = λ h. z ∙ g.after (other h d (dec_lt count (youngest w))) }
          where
            other : youngest w ≤ x → (x ≡ youngest w → ⊥) → Dec (count < youngest w) → youngest w ≤ count
            other h d (yes l) = absurd (d (omega (arith, c)))
            other h d (no l) = omega arith

    pub ends_at : (x : ℕ) → x ≡ count + 1 → x ≤ 16 → eqb (get size (record_of w x)) 0 ≡ true → (count ≡ length (path w)) × (last ≡ youngest w)
    ends_at x c f u = go (dec_lt count (length (path w)))
      where
        go : Dec (count < length (path w)) → (count ≡ length (path w)) × (last ≡ youngest w)
        go (yes h) = absurd (omega (arith, eqb-true (get size (record_of w x)) 0 u, used-size x (omega (arith, c))))
        go (no h) = let e : count ≡ length (path w) = omega (arith, g.few) in (e, g.after (omega (arith, e, youngest-in)))

    pub ends-full : 16 ≤ count → (count ≡ length (path w)) × (last ≡ youngest w)
    ends-full h = let e : count ≡ length (path w) = omega (arith, g.few, facts.few) in (e, g.after (omega (arith, e, youngest-in)))

  -- a full window, by the record that none follows
  pub ends-ring : (x : ℕ) → Within 16 x → eqb (get size (record_of w 16)) 0 ≡ false → next w x ≡ 0 → (16 ≡ length (path w)) × (x ≡ youngest w)
  ends-ring x v u e = go (dec_lt (length (path w)) 16)
    where
      go : Dec (length (path w) < 16) → (16 ≡ length (path w)) × (x ≡ youngest w)
      go (yes h) = absurd (eqb-false _ 0 u (rest-size 16 h (omega arith)))
      go (no h) = let k : 16 ≡ length (path w) = omega (arith, facts.few) in (k, end-youngest x (omega (arith, v, k)) e)

  youngest-few : youngest w ≤ 16
  youngest-few = omega (arith, youngest-in, facts.few)

  oldest-few : (w.oldest ≤ 16) × (length (path w) ≡ 16 → (1 ≤ w.oldest) × Within 16 (next w w.oldest))
  unfolding Path behind
  oldest-few = go (path w) refl (right-path w long facts)
    where
      in_path : (l : List ℕ) → path w ≡ l → (j : ℕ) → among l j ≡ true → Within 16 j
      in_path l q j m = omega (arith, right-within w long facts j (rw q m), facts.few)

      go : (l : List ℕ) → path w ≡ l → Path (behind w.oldest (next w)) 0 l → (w.oldest ≤ 16) × (length (path w) ≡ 16 → (1 ≤ w.oldest) × Within 16 (next w w.oldest))
      go [] q p = (omega (arith, p), λ h. absurd (omega (arith, h, ap length q)))
      go (x ∷ []) q p = (omega (arith, p.0, in_path (x ∷ []) q x (among-head x [])), λ h. absurd (omega (arith, h, ap length q)))
      go (x ∷ y ∷ l) q p =
          let v = in_path (x ∷ y ∷ l) q x (among-head x (y ∷ l)) in
          let u = in_path (x ∷ y ∷ l) q y (among-tail x (y ∷ l) y (among-head y l)) in
          let z : next w w.oldest ≡ y = ap (next w) p.0 ∙ sym (behind-row w.oldest (next w) x p.1) ∙ p.2.0 in
          (omega (arith, p.0, v), λ h. (omega (arith, p.0, v), omega (arith, z, u)))

  pub oldest-in : w.oldest ≤ 16
  oldest-in = oldest-few.0

  pub placed-free : (count x l first : ℕ) → count ≡ length (path w) → count < 16 → x ≡ count + 1 → l ≡ youngest w → first ≡ cond (eqb w.oldest 0) x w.oldest → Placed w x l first
  unfolding taken left
  placed-free count x l first n h e q f =
      let y : x ≡ suc (length (path w)) = omega (arith, e, n) in
      let free-is : free w ≡ suc (length (path w)) = free-next w long facts (omega (arith, n)) in
      let not : eqb (suc (length (path w))) 0 ≡ false = ne_eqb (suc (length (path w))) 0 (λ z. omega arith) in
      record {
        takes = rw (free-is, not) y;
        behind = q;
        starts = rw (free-is, not) (f ∙ rw y);
        within = omega (arith, e);
        few = omega (arith, q, youngest-few);
        small = rw f (go (eqb w.oldest 0));
      }
    where
      go : (b : Bool) → cond b x w.oldest ≤ 16
      go true = omega (arith, e)
      go false = oldest-few.0

  pub placed-oldest : (count x l first : ℕ) → count ≡ length (path w) → 16 ≤ count → x ≡ w.oldest → l ≡ youngest w → first ≡ cond (eqb (next w w.oldest) 0) w.oldest (next w w.oldest) → Placed w x l first
  unfolding taken left
  placed-oldest count x l first n h e q f =
      let k : length (path w) ≡ 16 = omega (arith, n, facts.few) in
      let o = oldest-few.1 k in
      let free-is : free w ≡ 0 = free-none w long facts k in
      let not : eqb (next w w.oldest) 0 ≡ false = ne_eqb (next w w.oldest) 0 (λ z. omega (arith, o.1)) in
      record {
        takes = rw free-is e;
        behind = q;
        starts = rw free-is f;
        within = omega (arith, e, o.0, oldest-few.0);
        few = omega (arith, q, youngest-few);
        small = rw (f, not) o.1.1;
      }

  -- the oldest of a full window is a record
  pub full-oldest : 16 ≤ length (path w) → Within 16 w.oldest
  full-oldest h = let o = oldest-few.1 (omega (arith, facts.few)) in omega (arith, o.0, oldest-few.0)
