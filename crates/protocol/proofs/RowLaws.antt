-- What a head's and a copy's bytes say after each change.
use mathlib.Core.Path.{◌≡◌, refl, sym, ◌∙◌, ap}
use mathlib.Core.Bool.{Bool, true, false, cond, ◌&&◌, ◌||◌}
use mathlib.Core.Logic.{◌⊎◌, ⊎_elim, inl, inr}
use mathlib.Core.List.{List, [], ◌∷◌}
use Prim.Native.Nat.{ℕ, suc, ◌+◌, ◌-◌, ◌^◌, ◌≤◌, ◌<◌}
use native.Mathlib.Omega.{arith}
use lib.Dec.{leb, eqb}
use lib.ListN.{length, get_or, take, drop}
use lib.Seq.{drop-drop}
use borrow.Author.Tests.{leb-true, eqb-true}
use Rattle.sets.specs.Upto.{Within, every}
use Rattle.bools.proofs.BoolLaws.{and_l, and_r, or-e}
use Rattle.sets.proofs.UptoLaws.{every-at}
use Rattle.octets.specs.Bytes.{number, part, put}
use Rattle.fields.specs.Layout.{Field, get, store, name, link, mark, version, desired, epoch, members, grid_mark, county, list, store_list, reserved, spare, contents, store_contents, copy_length}
use Rattle.octets.proofs.ByteLaws.{put_all}
use Rattle.fields.proofs.FieldLaws.{Apart, length-store, get-store, get_other, part-store, drop-store, contents-store, length-contents, part-contents, get-contents, contents-contents, contents-long, copy_is, list-is}
use Rattle.fields.specs.declared.Laid.{Laid}
use Rattle.window.specs.Windows.{Window, Patch, window_right, window_of, store_window, added}
use Rattle.window.specs.Claims.{Whole, Fits, StaysRight}
use Rattle.window.proofs.AddLaws.{added-right}
use Rattle.window.proofs.SentLaws.{sent-long}
use Rattle.window.proofs.CopyLaws.{window-whole, oldest-small, length-window, get-window, spare-window, contents-window, window-stored, window-store, window-contents}
use Rattle.protocol.specs.Rows.{marked_copy, patched_copy, enrolled_row, sent_contents, refreshed_copy}

-- ---- numbered fields of some bytes: none of them has bytes from low to mid, and they end by end
pub record Kit : Type 0 where
  pub at : ℕ → Field
  pub n : ℕ
  pub low : ℕ
  pub mid : ℕ
  pub end : ℕ

ends : Kit → ℕ → ℕ
ends K j = (K.at j).place + (K.at j).width

-- the computed tests: two fields lie apart; none lies in the gap or beyond the end
apart_test : Kit → ℕ → ℕ → Bool
apart_test K i j = eqb j i || (leb (ends K j) (K.at i).place || leb (ends K i) (K.at j).place)

edge_test : Kit → ℕ → Bool
edge_test K i = leb (ends K i) K.low || (leb K.mid (K.at i).place && leb (ends K i) K.end)

record Tested (K : Kit) : Type 0 where
  apart : every K.n (λ i. every K.n (apart_test K i)) ≡ true
  edges : every K.n (edge_test K) ≡ true
  rising : (K.low ≤ K.mid) × (K.mid ≤ K.end)

-- a row's head, its fields numbered from 1: name, link, epoch, members, grid mark
unfoldable pub head_kit : Kit
head_kit = record { at = λ j. get_or (name ∷ link ∷ epoch ∷ members ∷ grid_mark ∷ []) (j - 1) name; n = 5; low = 3; mid = 12; end = 25 }

-- a copy: mark, version, desired; the oldest record's index is the window's
unfoldable pub copy_kit : Kit
copy_kit = record { at = λ j. get_or (mark ∷ version ∷ desired ∷ []) (j - 1) mark; n = 3; low = 1; mid = 4; end = 12 }

head-tested : Tested head_kit
unfolding every apart_test edge_test ends head_kit name link epoch members grid_mark
head-tested = record { apart = refl; edges = refl; rising = omega arith }

copy_tested : Tested copy_kit
unfolding every apart_test edge_test ends copy_kit mark version desired
copy_tested = record { apart = refl; edges = refl; rising = omega arith }

-- ---- one field stored
module _ (K : Kit) (T : Tested K) (i : ℕ) (u : Within K.n i) where
  edge : (ends K i ≤ K.low) ⊎ ((K.mid ≤ (K.at i).place) × (ends K i ≤ K.end))
  unfolding edge_test
  edge = go (or-e (leb (ends K i) K.low) _ (every-at K.n (edge_test K) T.edges i u))
    where
      go : (leb (ends K i) K.low ≡ true) ⊎ ((leb K.mid (K.at i).place && leb (ends K i) K.end) ≡ true)
          → (ends K i ≤ K.low) ⊎ ((K.mid ≤ (K.at i).place) × (ends K i ≤ K.end))
      go (inl q) = inl (leb-true _ _ q)
      go (inr q) = inr (leb-true _ _ (and_l _ _ q), leb-true _ _ (and_r (leb K.mid (K.at i).place) _ q))

  ended : (K.at i).place + (K.at i).width ≤ K.end
  unfolding ends
  ended = go edge
    where
      go : (ends K i ≤ K.low) ⊎ ((K.mid ≤ (K.at i).place) × (ends K i ≤ K.end)) → ends K i ≤ K.end
      go (inl q) = omega (arith, T.rising)
      go (inr q) = q.1

  -- it lies apart from what lies in the gap
  beside : (a b : ℕ) → K.low ≤ a → b ≤ K.mid → Apart (K.at i) a b
  unfolding ends
  beside a b h l = go edge
    where
      go : (ends K i ≤ K.low) ⊎ ((K.mid ≤ (K.at i).place) × (ends K i ≤ K.end)) → Apart (K.at i) a b
      go (inl q) = inl (omega arith)
      go (inr q) = inr (omega arith)

  module _ (row : List ℕ) (long : K.end ≤ length row) (v : ℕ) where
    fits : (K.at i).place + (K.at i).width ≤ length row
    fits = omega (arith, ended)

    stored-length : length (store (K.at i) v row) ≡ length row
    stored-length = length-store (K.at i) v row fits

    stored-get : v < 256 ^ (K.at i).width → (j : ℕ) → Within K.n j → get (K.at j) (store (K.at i) v row) ≡ cond (eqb j i) v (get (K.at j) row)
    unfolding apart_test ends
    stored-get h j w = go (eqb j i) refl (every-at K.n (apart_test K i) (every-at K.n (λ i. every K.n (apart_test K i)) T.apart i u) j w)
      where
        side : (leb (ends K j) (K.at i).place ≡ true) ⊎ (leb (ends K i) (K.at j).place ≡ true) → Apart (K.at j) (K.at i).place ((K.at i).place + (K.at i).width)
        side (inl q) = inl (leb-true _ _ q)
        side (inr q) = inr (leb-true _ _ q)

        go : (b : Bool) → eqb j i ≡ b → (b || (leb (ends K j) (K.at i).place || leb (ends K i) (K.at j).place)) ≡ true
            → get (K.at j) (store (K.at i) v row) ≡ cond b v (get (K.at j) row)
        go true e t = ap (λ (x : ℕ). get (K.at x) (store (K.at i) v row)) (eqb-true j i e) ∙ get-store (K.at i) v row fits h
        go false e t = get_other (K.at i) v row fits (K.at j) (side (or-e (leb (ends K j) (K.at i).place) _ t))

    stored-gap : (a m : ℕ) → K.low ≤ a → a + m ≤ K.mid → part a m (store (K.at i) v row) ≡ part a m row
    stored-gap a m h l = part-store (K.at i) v row fits a m (⊎_elim inr inl (beside a (a + m) h l))

-- the fields of some bytes, and with the i-th changed
unfoldable pub fields_of : Kit → List ℕ → ℕ → ℕ
fields_of K row j = get (K.at j) row

unfoldable pub changed : (ℕ → ℕ) → ℕ → ℕ → ℕ → ℕ
changed f i v j = cond (eqb j i) v (f j)

-- ---- a row after a change of its head: its fields are f, and no other byte changes
pub record HeadBecomes (row new : List ℕ) (f : ℕ → ℕ) : Type 0 where
  pub long : length new ≡ length row
  pub gap : part 3 9 new ≡ part 3 9 row
  pub fields : (j : ℕ) → Within 5 j → get (head_kit.at j) new ≡ f j
  pub behind : drop 25 new ≡ drop 25 row

-- the list that a head's fields say; the fields with another list
unfoldable pub list_in : (ℕ → ℕ) → Laid
list_in f = record { members = f 4; mark = f 5 }

unfoldable pub relisted : (ℕ → ℕ) → Laid → ℕ → ℕ
relisted f l = changed (changed f 4 l.members) 5 l.mark

-- a head has the list that its fields say, and its bytes that hold nothing stay
pub becomes-list : {row new : List ℕ} {f : ℕ → ℕ} → HeadBecomes row new f → list new ≡ list_in f
unfolding list_in head_kit
becomes-list b = list-is _ _ (b.fields 4 (omega arith)) (b.fields 5 (omega arith))

-- behind the fields every byte stays: the county too
becomes-part : {row new : List ℕ} {f : ℕ → ℕ} → HeadBecomes row new f → (a m : ℕ) → part (25 + a) m new ≡ part (25 + a) m row
unfolding part
becomes-part {row} {new} b a m = ap (take m) (sym (drop-drop a 25 new) ∙ ap (drop a) b.behind ∙ drop-drop a 25 row)

pub becomes-reserved : {row new : List ℕ} {f : ℕ → ℕ} → HeadBecomes row new f → reserved new ≡ reserved row
unfolding reserved
becomes-reserved b = rw (b.gap, becomes-part b 0 1, becomes-part b 2 5)

pub becomes-county : {row new : List ℕ} {f : ℕ → ℕ} → HeadBecomes row new f → get county new ≡ get county row
unfolding get county
becomes-county b = ap number (becomes-part b 1 1)

-- one field more stored
head-store : {row new : List ℕ} {f : ℕ → ℕ} (i v : ℕ) → Within 5 i → v < 256 ^ (head_kit.at i).width → 32 ≤ length row → HeadBecomes row new f
    → HeadBecomes row (store (head_kit.at i) v new) (changed f i v)
unfolding changed head_kit
head-store {row} {new} {f} i v u h long b =
    let l : head_kit.end ≤ length new = omega (arith, b.long) in
    record {
      long = stored-length head_kit head-tested i u new l v ∙ b.long;
      gap = stored-gap head_kit head-tested i u new l v 3 9 (omega arith) (omega arith) ∙ b.gap;
      fields = λ j w. stored-get head_kit head-tested i u new l v h j w ∙ ap (λ (x : ℕ). cond (eqb j i) v x) (b.fields j w);
      behind = drop-store (head_kit.at i) v new (fits head_kit head-tested i u new l v) 25 (ended head_kit head-tested i u) ∙ b.behind;
    }

pub enrolled-row : (row : List ℕ) (e : ℕ) (l : Laid) → 32 ≤ length row → e < 256 ^ 4 → l.members < 256 ^ 8 → l.mark < 256 ^ 1
    → HeadBecomes row (enrolled_row e l row) (relisted (changed (fields_of head_kit row) 3 e) l)
unfolding enrolled_row store_list relisted head_kit epoch members grid_mark fields_of
enrolled-row row e l long he hl hm =
    head-store 5 l.mark (omega arith) hm long (head-store 4 l.members (omega arith) hl long (head-store 3 e (omega arith) he long
    (record { long = refl; gap = refl; fields = λ j w. refl; behind = refl })))

-- ---- a copy after a change: its length and its zeros stay, its fields are f, its contents are c, its window is w
pub record Becomes (copy new : List ℕ) (f : ℕ → ℕ) (c : List ℕ) (w : Window) : Type 0 where
  pub long : length new ≡ length copy
  pub spare : spare new ≡ spare copy
  pub fields : (j : ℕ) → Within 3 j → get (copy_kit.at j) new ≡ f j
  pub bytes : contents new ≡ c
  pub window : window_of new ≡ w

unchanged : (copy : List ℕ) → Becomes copy copy (fields_of copy_kit copy) (contents copy) (window_of copy)
unfolding fields_of
unchanged copy = record { long = refl; spare = refl; fields = λ j w. refl; bytes = refl; window = refl }

-- one field more stored
then-store : {copy new c : List ℕ} {w : Window} {f : ℕ → ℕ} (i v : ℕ) → Within 3 i → v < 256 ^ (copy_kit.at i).width → 588 ≤ length copy → Becomes copy new f c w
    → Becomes copy (store (copy_kit.at i) v new) (changed f i v) c w
unfolding changed copy_kit spare
then-store {copy} {new} {c} {w} {f} i v u h long b =
    let l : copy_kit.end ≤ length new = omega (arith, b.long) in
    let e = ended copy_kit copy_tested i u in
    record {
      long = stored-length copy_kit copy_tested i u new l v ∙ b.long;
      spare = stored-gap copy_kit copy_tested i u new l v 2 2 (omega arith) (omega arith) ∙ b.spare;
      fields = λ j w. stored-get copy_kit copy_tested i u new l v h j w ∙ ap (λ (x : ℕ). cond (eqb j i) v x) (b.fields j w);
      bytes = contents-store (copy_kit.at i) v new (fits copy_kit copy_tested i u new l v) e ∙ b.bytes;
      window = window-store (copy_kit.at i) v new e (beside copy_kit copy_tested i u 1 2 (omega arith) (omega arith)) (omega (arith, b.long)) ∙ b.window;
    }

-- bytes put into the contents
then-contents : {copy new c : List ℕ} {w : Window} {f : ℕ → ℕ} (offset : ℕ) (p : List ℕ) → 588 + offset + length p ≤ length copy → Becomes copy new f c w
    → Becomes copy (store_contents offset p new) f (put offset p c) w
unfolding spare copy_kit
then-contents {copy} {new} {c} {w} {f} offset p h b =
    let l : 588 + offset + length p ≤ length new = omega (arith, b.long) in
    record {
      long = length-contents offset p new l ∙ b.long;
      spare = part-contents offset p new l 2 2 (omega arith) ∙ b.spare;
      fields = λ j w. get-contents offset p new l (copy_kit.at j) (ended copy_kit copy_tested j w) ∙ b.fields j w;
      bytes = contents-contents offset p new l ∙ ap (put offset p) b.bytes;
      window = window-contents offset p new l ∙ b.window;
    }

-- another window
then-window : {copy new c : List ℕ} {w : Window} {f : ℕ → ℕ} (x : Window) → Whole x → x.oldest < 256 → 588 ≤ length copy → Becomes copy new f c w
    → Becomes copy (store_window x new) f c x
unfolding copy_kit
then-window {copy} {new} {c} {w} {f} x whole small long b =
    let l : 588 ≤ length new = omega (arith, b.long) in
    record {
      long = length-window x new whole small l ∙ b.long;
      spare = spare-window x new whole small l ∙ b.spare;
      fields = λ j v. get-window x new whole small l (copy_kit.at j) (ended copy_kit copy_tested j v) (beside copy_kit copy_tested j v 1 2 (omega arith) (omega arith)) ∙ b.fields j v;
      bytes = contents-window x new whole small l ∙ b.bytes;
      window = window-stored x new whole small l;
    }

-- ---- a copy's three changes
module _ (file : ℕ) (copy : List ℕ) (size : length copy ≡ copy_length file) where
  long : 588 ≤ length copy
  long = omega (arith, size, copy_is file)

  pub marked-copy : (v : ℕ) → v < 256 ^ 4 → Becomes copy (marked_copy v copy) (changed (changed (fields_of copy_kit copy) 1 1) 3 v) (contents copy) (window_of copy)
  unfolding marked_copy copy_kit mark desired
  marked-copy v h = then-store 3 v (omega arith) h long (then-store 1 1 (omega arith) (omega arith) long (unchanged copy))

  -- the window with a patch more, as long as it was and with an index that a byte holds
  added-fits : (old : ℕ) → file < 65_536 → window_right file old (window_of copy) ≡ true → (p : Patch) → Fits file p
      → Whole (added p (window_of copy)) × ((added p (window_of copy)).oldest < 256)
  unfolding StaysRight
  added-fits old low e p f =
      let r = added-right file old low (window_of copy) (window-whole copy long) e p f in
      let s : (added p (window_of copy)).oldest ≤ 16 = oldest-small file (suc old) (added p (window_of copy)) r.0 r.1 in
      (r.0, omega arith)

  pub patched-copy : (v offset : ℕ) (p : List ℕ) → v < 256 ^ 4 → (old : ℕ) → file < 65_536 → window_right file old (window_of copy) ≡ true → Fits file (record { offset = offset; bytes = p })
      → Becomes copy (patched_copy v offset p copy) (changed (fields_of copy_kit copy) 2 v) (put offset p (contents copy)) (added (record { offset = offset; bytes = p }) (window_of copy))
  unfolding patched_copy copy_kit version
  patched-copy v offset p h old low e f =
      let a = added-fits old low e (record { offset = offset; bytes = p }) f in
      let l : 588 + offset + length p ≤ length copy = omega (arith, size, copy_is file, f.inside) in
      then-window (added (record { offset = offset; bytes = p }) (window_of copy)) a.0 a.1 long (then-contents offset p l (then-store 2 v (omega arith) h long (unchanged copy)))

  -- what is sent is as long as the file
  pub sent-size : (source : List ℕ) → length source ≡ copy_length file → window_right file (get version source) (window_of source) ≡ true → length (sent_contents source copy) ≡ file
  unfolding sent_contents
  sent-size source l e = sent-long file (get version source) (window_of source) (window-whole source (omega (arith, l, copy_is file))) e (get version source - get version copy) (contents source) (contents copy)
      (contents-long source file l) (contents-long copy file size)

  pub refreshed-copy : (source : List ℕ) → get version source < 256 ^ 4 → length source ≡ copy_length file → window_right file (get version source) (window_of source) ≡ true
      → Becomes copy (refreshed_copy source copy) (changed (changed (changed (fields_of copy_kit copy) 1 0) 2 (get version source)) 3 0) (sent_contents source copy) (window_of source)
  unfolding refreshed_copy copy_kit mark version desired
  refreshed-copy source h l e =
      let whole = window-whole source (omega (arith, l, copy_is file)) in
      let n = sent-size source l e in
      let fill : 588 + 0 + length (sent_contents source copy) ≤ length copy = omega (arith, n, size, copy_is file) in
      let b = then-contents 0 (sent_contents source copy) fill (then-store 3 0 (omega arith) (omega arith) long (then-store 2 (get version source) (omega arith) h long
      (then-store 1 0 (omega arith) (omega arith) long (unchanged copy)))) in
      let small = oldest-small file (get version source) (window_of source) whole e in
      let d = then-window (window_of source) whole (omega (arith, small)) long b in
      record { long = d.long; spare = d.spare; fields = d.fields; bytes = d.bytes ∙ put_all (sent_contents source copy) (contents copy) (n ∙ sym (contents-long copy file size)); window = d.window }
