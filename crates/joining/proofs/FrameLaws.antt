-- What a joining alters, byte for byte.
use mathlib.Core.Path.{◌≡◌, refl, ◌∙◌, ap}
use mathlib.Core.Bool.{true, cond}
use mathlib.Core.Logic.{⊎_elim, inl, inr}
use mathlib.Core.List.{List, ◌++◌}
use Prim.Native.Nat.{ℕ, zero, suc, ◌+◌, ◌*◌, ◌≤◌, ◌<◌}
use native.Mathlib.Omega.{arith}
use lib.Dec.{eqb, ltb}
use lib.ListN.{length, take, drop, length-drop}
use borrow.Author.Tests.{eq-eqb, ne_eqb}
use Rattle.sets.proofs.RisingLaws.{among-e}
use Rattle.octets.specs.Bytes.{bytes_of, part, put, zeros}
use Rattle.octets.proofs.ByteLaws.{length-bytes, drop-put-after, first-zeros, split-zeros, zeros-are}
use Rattle.blocks.specs.Blocks.{block, with_block}
use Rattle.fields.specs.Layout.{Field, store, form, used, first, file_length, file_count, name, link, county, body_length, bare_row, stride, form_of, capacity_of, used_of, first_of, files_of, file_length_of, row_length, rows_end, row_bytes, name_of, link_of, with_row}
use Rattle.fields.proofs.FieldLaws.{length-store, stored_bytes, get_other, part-store, head-room, row-newest}
use Rattle.table.specs.Chain.{order_of}
use Rattle.table.specs.WellFormed.{well_formed, unused_zero}
use Rattle.table.proofs.FormLaws.{formed}
use Rattle.table.proofs.WellFormedLaws.{sized, header, long, rows_in, linked, link-in}
use Rattle.table.proofs.RisingLaws.{order-within}
use Rattle.table.proofs.TableLaws.{Like, like-end, Roomy, row-long, Changed, one-row}
use Rattle.linking.specs.Linking.{behind}
use Rattle.linking.proofs.InsertLaws.{last-among}
use Rattle.joining.specs.Joining.{row_before, named_row, joined_behind, joined}
use Rattle.joining.specs.Claims.{OneMore}

-- ---- a number stored in bytes 1 to 3 of the header
module _ (f : Field) (v : ℕ) (t : List ℕ) (behind-form : 1 ≤ f.place) (low : f.place + f.width ≤ 4) (room : 16 ≤ length t) where
  fits : f.place + f.width ≤ length t
  fits = omega arith

  wide-same : row_length (store f v t) ≡ row_length t
  unfolding row_length form_of form files_of file_count file_length_of file_length
  wide-same = rw (get_other f v t fits form (inl (omega arith)), get_other f v t fits file_count (inr (omega arith)), get_other f v t fits file_length (inr (omega arith)))

  rows_same : (i : ℕ) → row_bytes (store f v t) i ≡ row_bytes t i
  unfolding row_bytes block
  rows_same zero = refl
  rows_same (suc k) = ap (λ (w : ℕ). part (16 + k * w) w (store f v t)) wide-same ∙ part-store f v t fits (16 + k * row_length t) (row_length t) (inr (omega arith))

  tail-same : (b : ℕ) → 16 ≤ b → drop b (store f v t) ≡ drop b t
  unfolding store
  tail-same b h = drop-put-after t f.place (bytes_of f.width v) (omega (arith, fits, length-bytes f.width v)) b (omega (arith, length-bytes f.width v))

head_first : (t : List ℕ) (k : ℕ) → 16 ≤ rows_end t k
unfolding rows_end
head_first t k = omega arith

-- ---- one link stored; there is no row 0
relinked : (t : List ℕ) (n p v : ℕ) → Roomy t n → p ≤ n → Changed t (with_row t p (store link v)) n (eqb p) (λ i. store link v)
unfolding with_row with_block link
relinked t n zero v r h = record {
  like = record { long = refl; header = λ a m l. refl };
  rows = λ i w. rw (ne_eqb 0 i (λ z. omega arith));
  tail = λ b l. refl;
}
relinked t n (suc k) v r h =
    let l = row-long t n r (suc k) (omega arith) in
    one-row t n k r h (store link v) (length-store link v (row_bytes t (suc k)) (omega (arith, head-room t)) ∙ l)

module _ (t : List ℕ) (e : well_formed t ≡ true) (x : ℕ) (room : used_of t < capacity_of t) where
  -- the row before is a used row, or 0
  pub before-used : row_before t x ≤ used_of t
  unfolding row_before
  before-used = ⊎_elim
      (λ m. (order-within t e _ m).1)
      (λ z. omega arith)
      (among-e 0 (order_of t) _ (last-among (λ i. ltb (name_of t i) x) 0 (order_of t)))

  -- the row behind it too
  pub behind-used : behind (first_of t) (link_of t) (row_before t x) ≤ used_of t
  unfolding behind
  behind-used = go (row_before t x) before-used
    where
      go : (p : ℕ) → p ≤ used_of t → cond (eqb p 0) (first_of t) (link_of t p) ≤ used_of t
      go zero h = (header (sized e).header).first.1
      go (suc k) h = rw (ne_eqb (suc k) 0 (λ z. omega arith)) (link-in (linked e) (suc k) (omega arith))

  roomy : Roomy t (suc (used_of t))
  roomy = rows_in (sized e) (suc (used_of t)) room

  -- the first unused row is zero
  zero_row : row_bytes t (suc (used_of t)) ≡ zeros 32 ++ zeros (body_length (files_of t) (file_length_of t))
  unfolding row_bytes block part rows_end unused_zero stride
  zero_row =
      let z = zeros-are (drop (16 + used_of t * row_length t) t) (formed t e).zero in
      let l : row_length t ≤ length (drop (16 + used_of t * row_length t) t) = rw (length-drop (16 + used_of t * row_length t) t) (omega (arith, roomy)) in
      ap (take (row_length t)) z ∙ first-zeros (row_length t) _ l ∙ ap zeros (row-newest t (formed t e).newest) ∙ split-zeros 32 (body_length (files_of t) (file_length_of t))

  module _ (y : ℕ) where
    -- and gets the name, the link and the county
    new_row : named_row x (behind (first_of t) (link_of t) (row_before t x)) y (zeros 32 ++ zeros (body_length (files_of t) (file_length_of t)))
        ≡ bare_row x (behind (first_of t) (link_of t) (row_before t x)) y (body_length (files_of t) (file_length_of t))
    unfolding named_row bare_row store put bytes_of zeros name link county
    new_row = refl

    -- ---- the rows, then the header
    t1 : List ℕ
    t1 = with_row t (suc (used_of t)) (named_row x (behind (first_of t) (link_of t) (row_before t x)) y)

    named : Changed t t1 (suc (used_of t)) (eqb (suc (used_of t))) (λ i. named_row x (behind (first_of t) (link_of t) (row_before t x)) y)
    unfolding t1 named_row name link county
    named =
        let l : length (row_bytes t (suc (used_of t))) ≡ row_length t = row-long t (suc (used_of t)) roomy (suc (used_of t)) (omega arith) in
        let n = length-store name x (row_bytes t (suc (used_of t))) (omega (arith, head-room t)) in
        let m = length-store link (behind (first_of t) (link_of t) (row_before t x)) (store name x (row_bytes t (suc (used_of t)))) (omega (arith, head-room t)) in
        one-row t (suc (used_of t)) (used_of t) roomy (omega arith) (named_row x (behind (first_of t) (link_of t) (row_before t x)) y)
        (length-store county y (store link (behind (first_of t) (link_of t) (row_before t x)) (store name x (row_bytes t (suc (used_of t))))) (omega (arith, head-room t)) ∙ m ∙ n ∙ l)

    roomy1 : Roomy t1 (suc (used_of t))
    roomy1 = omega (arith, roomy, like-end named.like (suc (used_of t)), named.like.long)

    t2 : List ℕ
    t2 = with_row t1 (row_before t x) (store link (suc (used_of t)))

    led : Changed t1 t2 (suc (used_of t)) (eqb (row_before t x)) (λ i. store link (suc (used_of t)))
    unfolding t2
    led = relinked t1 (suc (used_of t)) (row_before t x) (suc (used_of t)) roomy1 (omega (arith, before-used))

    like2 : Like t t2
    like2 = record { long = led.like.long ∙ named.like.long; header = λ a m h. led.like.header a m h ∙ named.like.header a m h }

    long2 : 16 ≤ length t2
    long2 = omega (arith, like2.long, long (sized e))

    t3 : List ℕ
    t3 = store used (suc (used_of t)) t2

    long3 : 16 ≤ length t3
    unfolding t3 used
    long3 = omega (arith, long2, length-store used (suc (used_of t)) t2 (omega (arith, long2)))

    front : ℕ
    front = cond (eqb (row_before t x) 0) (suc (used_of t)) (first_of t)

    u : List ℕ
    u = store first front t3

    -- the four places are all that is altered
    whole : OneMore t u x y
    unfolding u t3 front used first first_of used_of
    whole = record {
      bytes = length-store first front t3 (omega (arith, long3)) ∙ length-store used (suc (used_of t)) t2 (omega (arith, long2)) ∙ like2.long;
      low = part-store first front t3 (omega (arith, long3)) 0 2 (inl (omega arith)) ∙ part-store used (suc (used_of t)) t2 (omega (arith, long2)) 0 2 (inl (omega arith)) ∙ like2.header 0 2 (omega arith);
      high = part-store first front t3 (omega (arith, long3)) 4 12 (inr (omega arith)) ∙ part-store used (suc (used_of t)) t2 (omega (arith, long2)) 4 12 (inr (omega arith)) ∙ like2.header 4 12 (omega arith);
      count = part-store first front t3 (omega (arith, long3)) 2 1 (inl (omega arith)) ∙ stored_bytes used (suc (used_of t)) t2 (omega (arith, long2));
      front = stored_bytes first front t3 (omega (arith, long3));
      rows = λ i v. at i ∙ led.rows i (omega arith) ∙ ap (λ (row : List ℕ). cond (eqb (row_before t x) i) (store link (suc (used_of t)) row) row) (named.rows i (omega arith) ∙ rw (ne_eqb (suc (used_of t)) i (λ z. omega arith)));
      new = at (suc (used_of t)) ∙ led.rows (suc (used_of t)) (omega arith) ∙ rw (ne_eqb (row_before t x) (suc (used_of t)) (λ z. omega (arith, before-used)))
          (named.rows (suc (used_of t)) (omega arith) ∙ rw (eq-eqb (suc (used_of t)) (suc (used_of t)) refl, zero_row) new_row);
      rest = tail-same first front t3 (omega arith) (omega arith) long3 (rows_end t (suc (used_of t))) far ∙ tail-same used (suc (used_of t)) t2 (omega arith) (omega arith) long2 (rows_end t (suc (used_of t))) far
          ∙ led.tail (rows_end t (suc (used_of t))) (omega (arith, like-end named.like (suc (used_of t)))) ∙ named.tail (rows_end t (suc (used_of t))) (omega arith);
    }
      where
        at : (i : ℕ) → row_bytes u i ≡ row_bytes t2 i
        at i = rows_same first front t3 (omega arith) (omega arith) long3 i ∙ rows_same used (suc (used_of t)) t2 (omega arith) (omega arith) long2 i

        far : 16 ≤ rows_end t (suc (used_of t))
        far = head_first t (suc (used_of t))

    pub joined-alters : OneMore t (joined t x y) x y
    unfolding joined joined_behind u t3 front t2 t1
    joined-alters = whole
