-- Patches laid one after another, along a right window's chain.
use mathlib.Core.Path.{◌≡◌, refl, sym, ◌∙◌, ap}
use mathlib.Core.Bool.{Bool, true, false, cond}
use mathlib.Core.List.{List, [], ◌∷◌, ◌++◌, map, map-append, append-nil, append_assoc}
use Prim.Native.Nat.{ℕ, zero, suc, ◌+◌, ◌-◌, ◌≤◌, ◌<◌}
use native.Mathlib.Omega.{arith}
use lib.Dec.{leb}
use lib.ListN.{length, drop, length-append, length-map}
use lib.Seq.{drop-append-le}
use borrow.Author.Tests.{leb-true, leb-false, le-leb, lt-leb}
use Rattle.bools.proofs.BoolLaws.{and_l, and_r}
use Rattle.sets.specs.Upto.{Within, among}
use Rattle.octets.specs.Bytes.{put}
use Rattle.fields.specs.Layout.{get}
use Rattle.linking.specs.Linking.{chain}
use Rattle.linking.proofs.PathLaws.{chain-zero, chain-suc}
use Rattle.window.specs.Windows.{Window, Patch, size, start, patch_in, record_of, next, path, patches, record_right, laid, lastly, sent}
use Rattle.window.specs.Claims.{Whole}
use Rattle.window.proofs.RightLaws.{Right, right_is, right-within}
use Rattle.windows.specs.Visits.{RightFor}
use Rattle.windows.proofs.WalkLaws.{among-mid}

laid-append : (ps : List Patch) (p : Patch) (c : List ℕ) → laid (ps ++ (p ∷ [])) c ≡ laid (p ∷ []) (laid ps c)
unfolding laid
laid-append [] p c = refl
laid-append (q ∷ qs) p c = laid-append qs p (put q.offset q.bytes c)

-- nothing is left behind more than there are
drop-over : (n : ℕ) (ps : List Patch) → length ps ≤ n → drop n ps ≡ []
drop-over zero [] h = refl
drop-over (suc n) [] h = refl
drop-over zero (p ∷ ps) h = absurd (omega arith)
drop-over (suc n) (p ∷ ps) h = drop-over n ps (omega arith)

-- `count` records were passed, and of their patches all but the first `skip` are laid over c; `to` is to come
pub record Laying (w : Window) (skip : ℕ) (c now : List ℕ) (count to : ℕ) : Type 0 where
  pub before : List ℕ
  pub long : length before ≡ count
  pub few : count ≤ 16
  pub whole : before ++ chain (next w) (17 - count) to ≡ path w
  pub done : now ≡ laid (drop skip (map (λ (x : ℕ). patch_in (record_of w x)) before)) c
  pub sized : length now ≡ length c

pub laying-none : (w : Window) (skip : ℕ) (c : List ℕ) → Laying w skip c c 0 w.oldest
unfolding path laid
laying-none w skip c = record { before = []; long = refl; few = omega arith; whole = refl; done = sym (ap (λ (ps : List Patch). laid ps c) (drop-over skip [] (omega arith))); sized = refl }

module _ {w : Window} {skip : ℕ} {c now : List ℕ} (long : Whole w) (r : RightFor (length c) w) {count to : ℕ} (g : Laying w skip c now count to) where
  facts : Right (length c) r.version w
  facts = right_is (length c) r.version w r.right

  goes_on : 1 ≤ to → chain (next w) (17 - count) to ≡ to ∷ chain (next w) (17 - (count + 1)) (next w to)
  goes_on h = let n : 17 - count ≡ suc (17 - (count + 1)) = omega (arith, g.few) in ap (λ (k : ℕ). chain (next w) k to) n ∙ chain-suc (next w) (17 - (count + 1)) to h

  here : 1 ≤ to → among (path w) to ≡ true
  here h = rw (← g.whole, goes_on h) (among-mid g.before to (chain (next w) (17 - (count + 1)) (next w to)))

  pub to-within : 1 ≤ to → Within 16 to
  to-within h = omega (arith, right-within w long facts to (here h), facts.few)

  pub to-right : 1 ≤ to → record_right (length now) (record_of w to) ≡ true
  to-right h = rw g.sized (facts.used to (right-within w long facts to (here h)))

  pub count_less : 1 ≤ to → count < 16
  count_less h =
      let n : length (path w) ≡ count + suc (length (chain (next w) (17 - (count + 1)) (next w to))) =
      ap length (sym g.whole ∙ ap (λ (l : List ℕ). g.before ++ l) (goes_on h)) ∙ length-append g.before _ ∙ ap (λ (k : ℕ). k + suc (length (chain (next w) (17 - (count + 1)) (next w to)))) g.long in
      omega (arith, n, facts.few)

  pub laying-more : (after : ℕ) (then : List ℕ) → 1 ≤ to → after ≡ next w to → then ≡ cond (leb skip count) (laid (patch_in (record_of w to) ∷ []) now) now → length then ≡ length now
      → Laying w skip c then (count + 1) after
  laying-more after then h e q n = record {
    before = g.before ++ (to ∷ []);
    long = length-append g.before (to ∷ []) ∙ omega (arith, g.long);
    few = omega (arith, count_less h);
    whole = append_assoc g.before (to ∷ []) (chain (next w) (17 - (count + 1)) after)
        ∙ ap (λ (l : List ℕ). g.before ++ l) (ap (λ (k : ℕ). to ∷ chain (next w) (17 - (count + 1)) k) e ∙ sym (goes_on h)) ∙ g.whole;
    done = q ∙ go (leb skip count) refl ∙ ap (λ (ps : List Patch). laid (drop skip ps) c) (sym (map-append f g.before (to ∷ [])));
    sized = n ∙ g.sized;
  }
    where
      f : ℕ → Patch
      f x = patch_in (record_of w x)

      size_is : length (map f g.before) ≡ count
      size_is = length-map g.before f ∙ g.long

      go : (b : Bool) → leb skip count ≡ b → cond b (laid (f to ∷ []) now) now ≡ laid (drop skip (map f g.before ++ (f to ∷ []))) c
      go true t = ap (laid (f to ∷ [])) g.done ∙ sym (laid-append (drop skip (map f g.before)) (f to) c) ∙ ap (λ (ps : List Patch). laid ps c) (sym (drop-append-le skip (map f g.before) (f to ∷ []) (omega (arith, size_is, leb-true skip count t))))
      go false t =
          let m : count < skip = leb-false skip count t in
          let k : length (map f g.before ++ (f to ∷ [])) ≡ count + 1 = length-append (map f g.before) (f to ∷ []) ∙ omega (arith, size_is) in
          g.done ∙ ap (λ (ps : List Patch). laid ps c) (drop-over skip (map f g.before) (omega (arith, size_is)) ∙ sym (drop-over skip (map f g.before ++ (f to ∷ [])) (omega (arith, k))))

  pub laying-all : to ≡ 0 → now ≡ laid (drop skip (patches w)) c
  unfolding patches
  laying-all z =
      let e : g.before ≡ path w = sym (append-nil g.before) ∙ ap (λ (l : List ℕ). g.before ++ l) (sym (chain-zero (next w) (17 - count))) ∙ ap (λ (k : ℕ). g.before ++ chain (next w) (17 - count) k) (sym z) ∙ g.whole in
      g.done ∙ ap (λ (l : List ℕ). laid (drop skip (map (λ (x : ℕ). patch_in (record_of w x)) l)) c) e

-- the bounds of a right record's patch
pub patch-bounds : (file : ℕ) (r : List ℕ) → record_right file r ≡ true → (get size r ≤ 32) × (get start r + get size r ≤ file)
unfolding record_right
patch-bounds file r e =
    let e1 = and_r (leb 1 (get size r)) _ e in
    let e2 = and_r (leb (get size r) 32) _ e1 in
    (leb-true (get size r) 32 (and_l _ _ e1), leb-true (get start r + get size r) file (and_l _ _ e2))

-- ---- the two ways of a send
module _ (w : Window) (missing count : ℕ) (whole own : List ℕ) (e : count ≡ length (path w)) where
  patches-are : length (patches w) ≡ count
  unfolding patches
  patches-are = length-map (path w) (λ (x : ℕ). patch_in (record_of w x)) ∙ sym e

  pub sent-all : count < missing → whole ≡ sent missing w whole own
  unfolding sent
  sent-all h = sym (rw (lt-leb missing (length (patches w)) (omega (arith, patches-are))))

  pub sent-last : missing ≤ count → laid (drop (count - missing) (patches w)) own ≡ sent missing w whole own
  unfolding sent lastly
  sent-last h = sym (rw (le-leb missing (length (patches w)) (omega (arith, patches-are)), patches-are))
