-- What a table with a row more says: its header, its rows; and that it is well formed.
use mathlib.Core.Path.{◌≡◌, refl, sym, ◌∙◌, ap, ap₂, subst}
use mathlib.Core.Bool.{Bool, true, false, cond, ◌&&◌}
use mathlib.Core.Logic.{◌⊎◌, ⊎_elim, inl, inr}
use mathlib.Core.List.{List}
use Prim.Native.Nat.{ℕ, suc, ◌+◌, ◌*◌, ◌≤◌, ◌<◌}
use native.Mathlib.Nat.{lt_of_lt_of_le}
use native.Mathlib.Omega.{arith}
use lib.Dec.{eqb, leb}
use lib.Pow.{pow_mono, pow_pos}
use lib.ListN.{length, drop}
use lib.Seq.{drop-drop}
use borrow.Author.Tests.{eq-eqb, ne_eqb}
use Rattle.bools.proofs.BoolLaws.{and_l, and_r, clash}
use Rattle.sets.specs.Upto.{Within}
use Rattle.sets.proofs.UptoLaws.{last}
use Rattle.sets.proofs.SetLaws.{has_within}
use Rattle.octets.specs.Bytes.{number, bytes_of, part, zeros, all_zero}
use Rattle.octets.proofs.ByteLaws.{number-bytes, part-part, zero-drop}
use Rattle.fields.specs.declared.Laid.{Laid}
use Rattle.fields.specs.Layout.{Field, get, store, form, form_value, capacity, used, first, file_length, file_count, rest_in, name, link, epoch, members, grid_mark, county, list, no_list, is_empty, is_tall, reserved, body_length, bare_row, copy_in, copy_bytes, form_of, capacity_of, used_of, first_of, files_of, file_length_of, row_length, rows_end, row_bytes, name_of, link_of, list_of, county_of}
use Rattle.fields.proofs.FieldLaws.{Apart, get-store, get_other, drop-store, reserved-store, copy-behind, BlankCopy, zero-copies, blank-copy, list-is}
use Rattle.counties.specs.Marks.{mark_right}
use Rattle.counties.proofs.AlikeLaws.{mark-same}
use Rattle.table.specs.WellFormed.{between, limit, well_formed, header_values, length_right, unused_zero}
use Rattle.table.proofs.FormLaws.{is-between, HeadFacts, CopyFacts, OneList, OneShape, Formed, formed, blank-facts, empty-mark}
use Rattle.table.proofs.CountyLaws.{county-at}
use Rattle.table.proofs.WellFormedLaws.{sized, header, length-is, row-long}
use Rattle.table.proofs.RisingLaws.{order-within}
use Rattle.linking.specs.Linking.{behind}
use Rattle.joining.specs.Joining.{row_before}
use Rattle.joining.specs.Claims.{OneMore}
use Rattle.joining.proofs.FrameLaws.{before-used, behind-used}
use Rattle.joining.proofs.OrderLaws.{Joined, joined-visits, joined-rise}

-- ---- the new row
module _ (x next y body : ℕ) (h : Within 65_535 x) (l : next < 256) (w : Within 8 y) where
  pub new-name : get name (bare_row x next y body) ≡ x
  unfolding get name bare_row part zeros bytes_of
  new-name = number-bytes 2 x (omega arith)

  pub new-link : get link (bare_row x next y body) ≡ next
  unfolding get link bare_row part zeros bytes_of
  new-link = number-bytes 1 next (omega arith)

  pub new-county : get county (bare_row x next y body) ≡ y
  unfolding get county bare_row part zeros bytes_of
  new-county = number-bytes 1 y (omega arith)

  pub new-facts : (n i : ℕ) → next ≤ n → HeadFacts n i (bare_row x next y body)
  unfolding is_empty list reserved get epoch members bare_row part number zeros bytes_of limit all_zero
  new-facts n i b = record {
    named = rw new-name h;
    linked = rw new-link b;
    spare = refl;
    small-epoch = omega arith;
    only = omega (arith, pow_pos n);
    own = λ e. absurd (clash (sym e));
    county = rw new-county w;
  }

-- what the new row says but for name, link and county: nothing yet
pub record Blank (files file : ℕ) (row : List ℕ) : Type 0 where
  pub epoch : get epoch row ≡ 0
  pub list : list row ≡ no_list
  pub copies : (q : ℕ) → Within files q → BlankCopy file (copy_in file q row)

pub new-blank : (x next y files file : ℕ) → Blank files file (bare_row x next y (body_length files file))
unfolding list no_list get epoch members grid_mark bare_row part number zeros bytes_of
new-blank x next y files file = record {
  epoch = refl;
  list = refl;
  copies = λ q v. rw (zero-copies files file (bare_row x next y (body_length files file)) refl q v) (blank-copy file);
}

module _ (t u : List ℕ) (x y : ℕ) (e : well_formed t ≡ true) (room : used_of t < capacity_of t) (o : OneMore t u x y) where
  few : suc (used_of t) ≤ 64
  few = omega (arith, (header (sized e).header).capacity)

  -- ---- the header
  same-form : form_of u ≡ form_of t
  unfolding form_of get form
  same-form = ap number (sym (part-part 0 2 0 1 u (omega arith)) ∙ ap (part 0 1) o.low ∙ part-part 0 2 0 1 t (omega arith))

  same-capacity : capacity_of u ≡ capacity_of t
  unfolding get capacity_of capacity
  same-capacity = ap number (sym (part-part 0 2 1 1 u (omega arith)) ∙ ap (part 1 1) o.low ∙ part-part 0 2 1 1 t (omega arith))

  high-kept : (a n : ℕ) → a + n ≤ 12 → part (4 + a) n u ≡ part (4 + a) n t
  high-kept a n h = sym (part-part 4 12 a n u h) ∙ ap (part a n) o.high ∙ part-part 4 12 a n t h

  pub file-kept : file_length_of u ≡ file_length_of t
  unfolding get file_length_of file_length
  file-kept = ap number (high-kept 0 2 (omega arith))

  pub files-kept : files_of u ≡ files_of t
  unfolding get files_of file_count
  files-kept = ap₂ (λ (f : ℕ) (b : List ℕ). cond (leb 4 f) (number b) 1) same-form (high-kept 2 1 (omega arith))

  same_rest : rest_in (form_of t) u ≡ rest_in (form_of t) t
  unfolding rest_in
  same_rest = ap₂ (cond (leb 4 (form_of t))) (high-kept 3 9 (omega arith)) (high-kept 2 10 (omega arith))

  same_end : (k : ℕ) → rows_end u k ≡ rows_end t k
  unfolding rows_end row_length
  same_end k = rw (same-form, files-kept, file-kept)

  pub more-used : used_of u ≡ suc (used_of t)
  unfolding used_of get used
  more-used = ap number o.count ∙ number-bytes 1 _ (omega (arith, few))

  front-in : (b : Bool) → Within (suc (used_of t)) (cond b (suc (used_of t)) (first_of t))
  front-in true = omega arith
  front-in false = omega (arith, (header (sized e).header).first)

  more-first : first_of u ≡ cond (eqb (row_before t x) 0) (suc (used_of t)) (first_of t)
  unfolding first_of get first
  more-first = ap number o.front ∙ number-bytes 1 _ (omega (arith, few, front-in (eqb (row_before t x) 0)))

  front-used : Within (suc (used_of t)) (first_of u)
  front-used = rw more-first (front-in (eqb (row_before t x) 0))

  more-header : header_values u ≡ true
  unfolding header_values
  more-header = rw (
    same-form,
    same-capacity,
    more-used,
    file-kept,
    files-kept,
    same_rest,
    is-between 1 (suc (used_of t)) (capacity_of t) (omega arith) room,
    is-between 1 (first_of u) (suc (used_of t)) front-used.0 front-used.1,
  )
      (go (formed t e).header)
    where
      go : header_values t ≡ true → (between 1 (form_of t) form_value && between 1 (capacity_of t) 64 && true && true && between 1 (file_length_of t) 4_096 && between 1 (files_of t) 8 && all_zero (rest_in (form_of t) t)) ≡ true
      go h =
          let f : between 1 (form_of t) form_value ≡ true = search (and_l, and_r) in
          let c : between 1 (capacity_of t) 64 ≡ true = search (and_l, and_r) in
          let l : between 1 (file_length_of t) 4_096 ≡ true = search (and_l, and_r) in
          let m : between 1 (files_of t) 8 ≡ true = search (and_l, and_r) in
          let z : all_zero (rest_in (form_of t) t) ≡ true = search (and_l, and_r) in
          rw (f, c, l, m) z

  -- ---- the rows that were there
  long-row : (i : ℕ) → Within (used_of t) i → 32 ≤ length (row_bytes t i)
  long-row i v = row-long (sized e) i v

  -- every field but the link stays
  pub kept : (f : Field) → Apart f 2 3 → (i : ℕ) → Within (used_of t) i → get f (row_bytes u i) ≡ get f (row_bytes t i)
  unfolding link
  kept f apart i v = ap (get f) (o.rows i v) ∙ go (eqb (row_before t x) i)
    where
      go : (b : Bool) → get f (cond b (store link (suc (used_of t)) (row_bytes t i)) (row_bytes t i)) ≡ get f (row_bytes t i)
      go true = get_other link (suc (used_of t)) (row_bytes t i) (omega (arith, long-row i v)) f apart
      go false = refl

  spare-kept : (i : ℕ) → Within (used_of t) i → reserved (row_bytes u i) ≡ reserved (row_bytes t i)
  unfolding link
  spare-kept i v = ap reserved (o.rows i v) ∙ go (eqb (row_before t x) i)
    where
      go : (b : Bool) → reserved (cond b (store link (suc (used_of t)) (row_bytes t i)) (row_bytes t i)) ≡ reserved (row_bytes t i)
      go true = reserved-store link (suc (used_of t)) (row_bytes t i) (omega (arith, long-row i v)) (omega arith)
      go false = refl

  pub link-after : (i : ℕ) → Within (used_of t) i → link_of u i ≡ cond (eqb (row_before t x) i) (suc (used_of t)) (link_of t i)
  unfolding link_of link
  link-after i v = ap (get link) (o.rows i v) ∙ go (eqb (row_before t x) i)
    where
      go : (b : Bool) → get link (cond b (store link (suc (used_of t)) (row_bytes t i)) (row_bytes t i)) ≡ cond b (suc (used_of t)) (get link (row_bytes t i))
      go true = get-store link (suc (used_of t)) (row_bytes t i) (omega (arith, long-row i v)) (omega (arith, few))
      go false = refl

  link-small : (i : ℕ) → Within (used_of t) i → link_of u i ≤ suc (used_of t)
  unfolding link_of
  link-small i v = rw (link-after i v) (go (eqb (row_before t x) i))
    where
      go : (b : Bool) → cond b (suc (used_of t)) (link_of t i) ≤ suc (used_of t)
      go true = omega arith
      go false = omega (arith, ((formed t e).heads i v).linked)

  -- and every copy
  pub copies_kept : (i q : ℕ) → Within (used_of t) i → copy_bytes u q i ≡ copy_bytes t q i
  unfolding link copy_bytes
  copies_kept i q v = ap (λ (f : ℕ). copy_in f q (row_bytes u i)) file-kept ∙ ap (copy_in (file_length_of t) q) (o.rows i v) ∙ go (eqb (row_before t x) i)
    where
      go : (b : Bool) → copy_in (file_length_of t) q (cond b (store link (suc (used_of t)) (row_bytes t i)) (row_bytes t i)) ≡ copy_in (file_length_of t) q (row_bytes t i)
      go true = copy-behind (file_length_of t) q (row_bytes t i) _ 3 (omega arith) (drop-store link (suc (used_of t)) (row_bytes t i) (omega (arith, long-row i v)) 3 (omega arith))
      go false = refl

  pub new-says : Blank (files_of t) (file_length_of t) (row_bytes u (suc (used_of t)))
  new-says = rw o.new (new-blank x (behind (first_of t) (link_of t) (row_before t x)) y (files_of t) (file_length_of t))

  pub new-copies : (q : ℕ) → Within (files_of t) q → BlankCopy (file_length_of t) (copy_bytes u q (suc (used_of t)))
  unfolding copy_bytes
  new-copies q v = rw file-kept (new-says.copies q v)

  -- a row's list stays
  pub list-kept : (i : ℕ) → Within (used_of t) i → list (row_bytes u i) ≡ list (row_bytes t i)
  unfolding list members grid_mark
  list-kept i v = list-is (row_bytes u i) (list (row_bytes t i)) (kept members (inr (omega arith)) i v) (kept grid_mark (inr (omega arith)) i v)

  old-facts : (i : ℕ) → Within (used_of t) i → HeadFacts (suc (used_of t)) i (row_bytes u i)
  unfolding link_of name epoch members county
  old-facts i v =
      let f = (formed t e).heads i v in
      record {
        named = rw (kept name (inl (omega arith)) i v) f.named;
        linked = link-small i v;
        spare = rw (spare-kept i v) f.spare;
        small-epoch = rw (kept epoch (inr (omega arith)) i v) f.small-epoch;
        only = rw (kept members (inr (omega arith)) i v) (lt_of_lt_of_le f.only (pow_mono (omega arith)));
        own = rw (list-kept i v, kept members (inr (omega arith)) i v) f.own;
        county = rw (kept county (inr (omega arith)) i v) f.county;
      }

  -- and so does its county
  pub county-kept : (i : ℕ) → Within (used_of t) i → county_of u i ≡ county_of t i
  unfolding county
  county-kept i v = county-at u i (v.0, rw more-used (omega arith)) ∙ kept county (inr (omega arith)) i v ∙ sym (county-at t i v)

  module _ (h : Within 65_535 x) (placed : Within 8 y) (free : (i : ℕ) → Within (used_of t) i → name_of t i ≡ x → ⊥) where
    abbrev next : ℕ
    next = behind (first_of t) (link_of t) (row_before t x)

    small : behind (first_of t) (link_of t) (row_before t x) ≤ used_of t
    small = behind-used t e x room

    abbrev body : ℕ
    body = body_length (files_of t) (file_length_of t)

    -- the chain
    pub more-chain : Joined t u x
    unfolding name_of link_of name row_before
    more-chain = record {
      used = more-used;
      new = ap (get name) o.new ∙ new-name x next y body h (omega (arith, few, small)) placed;
      names = kept name (inl (omega arith));
      links = record {
        front = more-first;
        into = λ l. let v : Within (used_of t) (row_before t x) = (l, before-used t e x room) in link-after (row_before t x) v ∙ rw (eq-eqb (row_before t x) (row_before t x) refl);
        onto = ap (get link) o.new ∙ new-link x next y body h (omega (arith, few, small)) placed;
        same = λ j m d. link-after j (order-within t e j m) ∙ rw (ne_eqb (row_before t x) j (λ z. d (sym z)));
      };
    }

    row-facts : (i : ℕ) → Within (suc (used_of t)) i → HeadFacts (suc (used_of t)) i (row_bytes u i)
    row-facts i v = ⊎_elim
        (λ q. subst (λ (k : ℕ). HeadFacts (suc (used_of t)) k (row_bytes u k)) (sym q)
        (rw o.new (new-facts x next y body h (omega (arith, few, small)) placed (suc (used_of t)) (suc (used_of t)) (omega (arith, small)))))
        (old-facts i)
        (last (used_of t) i v)

    copy-facts : (i q : ℕ) → Within (suc (used_of t)) i → Within (files_of t) q → CopyFacts (file_length_of t) (copy_bytes u q i)
    copy-facts i q v m = ⊎_elim
        (λ z. subst (λ (k : ℕ). CopyFacts (file_length_of t) (copy_bytes u q k)) (sym z) (blank-facts (new-copies q m)))
        (λ w. rw (copies_kept i q w) ((formed t e).copies i q w m))
        (last (used_of t) i v)

    -- the new row has no list
    pub empty-new : is_empty (list (row_bytes u (suc (used_of t)))) ≡ true
    unfolding is_empty no_list
    empty-new = rw new-says.list refl

    pub county-new : county_of u (suc (used_of t)) ≡ y
    county-new = county-at u (suc (used_of t)) (rw more-used (omega arith, omega arith)) ∙ ap (get county) o.new ∙ new-county x next y body h (omega (arith, few, small)) placed

    -- members of a list were used before
    marks-right : (i : ℕ) → Within (suc (used_of t)) i → mark_right (county_of u) (list_of u i) ≡ true
    unfolding list_of list no_list
    marks-right i v = ⊎_elim
        (λ z. subst (λ (k : ℕ). mark_right (county_of u) (list_of u k) ≡ true) (sym z) (empty-mark (county_of u) (list_of u (suc (used_of t))) empty-new ∙ ap (λ (l : Laid). eqb l.mark 0) new-says.list))
        (λ v. rw (list-kept i v) (mark-same (county_of u) (county_of t) (list (row_bytes t i)) (λ j m. county-kept j (has_within (used_of t) _ j ((formed t e).heads i v).only m)) ∙ (formed t e).marks i v))
        (last (used_of t) i v)

    one_list : (i j : ℕ) → Within (suc (used_of t)) i → Within (suc (used_of t)) j → OneList (row_bytes u i) (row_bytes u j)
    unfolding epoch
    one_list i j v w a b q = go (last (used_of t) i v) (last (used_of t) j w)
      where
        go : (i ≡ suc (used_of t)) ⊎ Within (used_of t) i → (j ≡ suc (used_of t)) ⊎ Within (used_of t) j → list (row_bytes u i) ≡ list (row_bytes u j)
        go (inl z) d = absurd (clash (sym (rw z at a) ∙ empty-new))
        go (inr v) (inl z) = absurd (clash (sym (rw z at b) ∙ empty-new))
        go (inr v) (inr w) =
            list-kept i v
            ∙ (formed t e).agree i j v w (rw (list-kept i v) at a) (rw (list-kept j w) at b) (sym (kept epoch (inr (omega arith)) i v) ∙ q ∙ kept epoch (inr (omega arith)) j w)
            ∙ sym (list-kept j w)

    one-shape : OneShape u (suc (used_of t))
    unfolding list_of
    one-shape i j v w a b = go (last (used_of t) i v) (last (used_of t) j w)
      where
        go : (i ≡ suc (used_of t)) ⊎ Within (used_of t) i → (j ≡ suc (used_of t)) ⊎ Within (used_of t) j → is_tall (list (row_bytes u i)) ≡ is_tall (list (row_bytes u j))
        go (inl z) d = absurd (clash (sym (rw z at a) ∙ empty-new))
        go (inr v) (inl z) = absurd (clash (sym (rw z at b) ∙ empty-new))
        go (inr v) (inr w) = ap is_tall (list-kept i v) ∙ (formed t e).shape i j v w (rw (list-kept i v) at a) (rw (list-kept j w) at b) ∙ sym (ap is_tall (list-kept j w))

    rest-zero : unused_zero u ≡ true
    unfolding unused_zero rows_end
    rest-zero =
        let far : 16 + suc (used_of t) * row_length t ≡ 16 + used_of t * row_length t + row_length t = omega arith in
        rw (more-used, same_end (suc (used_of t)), o.rest)
        (ap (λ (k : ℕ). all_zero (drop k t)) far ∙ ap all_zero (sym (drop-drop (row_length t) (16 + used_of t * row_length t) t)) ∙ zero-drop (row_length t) (drop (16 + used_of t * row_length t) t) (formed t e).zero)

    pub more-formed : Formed u
    unfolding length_right
    more-formed = record {
      newest = same-form ∙ (formed t e).newest;
      header = more-header;
      long = eq-eqb _ _ (o.bytes ∙ length-is (sized e) ∙ sym (same_end (capacity_of t)) ∙ ap (rows_end u) (sym same-capacity));
      heads = rw more-used row-facts;
      copies = rw (more-used, files-kept, file-kept) copy-facts;
      visits = joined-visits t e u x more-chain;
      rise = joined-rise t e u x more-chain h.0 free;
      zero = rest-zero;
      agree = rw more-used one_list;
      marks = rw more-used marks-right;
      shape = rw more-used one-shape;
    }
