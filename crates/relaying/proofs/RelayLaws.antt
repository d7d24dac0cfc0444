-- The table that a relay puts together says of the rows that answered what the whole table says.
use mathlib.Core.Path.{◌≡◌, refl, sym, ◌∙◌, ap}
use mathlib.Core.Bool.{Bool, true, false, not, cond}
use mathlib.Core.List.{List}
use Prim.Native.Nat.{ℕ, zero, suc, ◌≤◌, ◌<◌}
use native.Mathlib.Decide.{dec_le}
use native.Mathlib.Omega.{arith}
use lib.ListN.{length}
use Rattle.bools.proofs.BoolLaws.{clash}
use Rattle.sets.specs.Upto.{Within}
use Rattle.sets.specs.Sets.{has}
use Rattle.blocks.specs.Blocks.{block}
use Rattle.blocks.proofs.BlockLaws.{Altered, blocks-changed, alike}
use Rattle.octets.specs.Bytes.{bytes_of, part, zeros}
use Rattle.octets.proofs.ByteLaws.{length-zeros}
use Rattle.fields.specs.Layout.{get, link, epoch, county, list, no_list, is_empty, is_tall, bare_row, body_length, stride, copy_length, copy_in, copy_bytes, files_of, file_length_of, row_length, rows_end, used_of, name_of, link_of, list_of, county_of, row_bytes, with_rows}
use Rattle.counties.specs.Marks.{mark_right}
use Rattle.table.specs.WellFormed.{well_formed}
use Rattle.fields.proofs.FieldLaws.{row-newest, blank-copy, zero-copies}
use Rattle.table.proofs.FormLaws.{HeadFacts, CopyFacts, OneList, OneShape, Formed, formed, well-formed-of, rows-room, header-facts, blank-facts, empty-mark}
use Rattle.table.proofs.CountyLaws.{county-at}
use Rattle.table.proofs.TableLaws.{Changed, behind, like-length, many-rows}
use Rattle.joining.proofs.RowLaws.{new-name, new-link, new-county, new-facts, new-blank}
use Rattle.protocol.proofs.FrameLaws.{same-form, SameFrame, frame-of, same-used, same-file, same-files, same-header, same-long, same-visits, same-rise, zero-stays}
use Rattle.protocol.specs.Claims.{EqualIn}
use Rattle.protocol.proofs.Unanswered.{header, used-same, file-same, unanswered-have-no-part, files-same, widths, lengths, ends, rest, drop_more}
use Rattle.protocol.specs.Claims.{UnansweredHaveNoPart}
use Rattle.relaying.specs.Relaying.{blank_row, blanked, BlankedEqual, OthersBlank, BlankedAlike, BlankedAnswers}

module _ (t : List ℕ) (r : ℕ) (e : well_formed t ≡ true) where
  w : Formed t
  w = formed t e

  out : ℕ → Bool
  out i = not (has r i)

  body : ℕ
  body = body_length (files_of t) (file_length_of t)

  facts : (i : ℕ) → Within (used_of t) i → HeadFacts (used_of t) i (row_bytes t i)
  facts i u = w.heads i u

  link-small : (i : ℕ) → Within (used_of t) i → get link (row_bytes t i) < 256
  link-small i u = let h = header-facts t w.header in omega (arith, (facts i u).linked, h.used, h.capacity)

  long : (i : ℕ) → length (blank_row body (row_bytes t i)) ≡ row_length t
  unfolding blank_row bare_row body stride bytes_of zeros
  long i = simp length-zeros (omega arith) ∙ sym (row-newest t w.newest)

  -- the rows outside R are blank, and nothing else is altered
  change : Changed t (blanked r t) (used_of t) out (λ i. blank_row body)
  unfolding blanked out body
  change = many-rows t out (λ i. blank_row body) (used_of t) (rows-room t w) (λ i u m. long i)

  frame : SameFrame t (blanked r t)
  unfolding blank_row
  frame = frame-of change (λ i u m. record {
    name = new-name _ _ _ body (facts i u).named (link-small i u) (facts i u).county;
    link = new-link _ _ _ body (facts i u).named (link-small i u) (facts i u).county;
    county = new-county _ _ _ body (facts i u).named (link-small i u) (facts i u).county;
  })

  kept : (i : ℕ) → Within (used_of t) i → has r i ≡ true → row_bytes (blanked r t) i ≡ row_bytes t i
  unfolding out
  kept i u m = change.rows i u ∙ rw m

  blank : (i : ℕ) → Within (used_of t) i → has r i ≡ false → row_bytes (blanked r t) i ≡ blank_row body (row_bytes t i)
  unfolding out
  blank i u m = change.rows i u ∙ rw m

  blank-copies : (i q : ℕ) → Within (files_of t) q → copy_in (file_length_of t) q (blank_row body (row_bytes t i)) ≡ zeros (copy_length (file_length_of t))
  unfolding blank_row bare_row body bytes_of zeros
  blank-copies i q v = zero-copies (files_of t) (file_length_of t) (blank_row body (row_bytes t i)) refl q v

  blank-list : (i : ℕ) → list (blank_row body (row_bytes t i)) ≡ no_list
  unfolding blank_row body
  blank-list i = (new-blank _ _ _ (files_of t) (file_length_of t)).list

  -- a row with a list is one of R
  listed : (i : ℕ) → Within (used_of t) i → is_empty (list (row_bytes (blanked r t) i)) ≡ false → row_bytes (blanked r t) i ≡ row_bytes t i
  unfolding is_empty no_list
  listed i u f = go (has r i) refl
    where
      go : (b : Bool) → has r i ≡ b → row_bytes (blanked r t) i ≡ row_bytes t i
      go true m = kept i u m
      go false m = absurd (clash (sym f ∙ ap (λ (x : List ℕ). is_empty (list x)) (blank i u m) ∙ ap is_empty (blank-list i)))

  row-facts : (i : ℕ) → Within (used_of t) i → HeadFacts (used_of t) i (row_bytes (blanked r t) i)
  unfolding blank_row
  row-facts i u = go (has r i) refl
    where
      go : (b : Bool) → has r i ≡ b → HeadFacts (used_of t) i (row_bytes (blanked r t) i)
      go true m = rw (kept i u m) (facts i u)
      go false m = rw (blank i u m) (new-facts _ _ _ body (facts i u).named (link-small i u) (facts i u).county (used_of t) i (facts i u).linked)

  -- a blank row's copies say nothing
  copy-facts : (i q : ℕ) → Within (used_of t) i → Within (files_of t) q → CopyFacts (file_length_of t) (copy_bytes (blanked r t) q i)
  unfolding copy_bytes
  copy-facts i q u v = rw (same-file frame) (go (has r i) refl)
    where
      go : (b : Bool) → has r i ≡ b → CopyFacts (file_length_of t) (copy_in (file_length_of t) q (row_bytes (blanked r t) i))
      go true m = rw (kept i u m) (w.copies i q u v)
      go false m = rw (blank i u m, blank-copies i q v) (blank-facts (blank-copy (file_length_of t)))

  agree : (i j : ℕ) → Within (used_of t) i → Within (used_of t) j → OneList (row_bytes (blanked r t) i) (row_bytes (blanked r t) j)
  agree i j u v a b q =
      let x = listed i u a in
      let y = listed j v b in
      ap list x ∙ w.agree i j u v (rw x at a) (rw y at b) (ap (get epoch) (sym x) ∙ q ∙ ap (get epoch) y) ∙ sym (ap list y)

  -- an empty list has mark 0
  marks : (i : ℕ) → Within (used_of t) i → mark_right (county_of t) (list_of (blanked r t) i) ≡ true
  unfolding list_of is_empty no_list
  marks i u = go (has r i) refl
    where
      go : (b : Bool) → has r i ≡ b → mark_right (county_of t) (list (row_bytes (blanked r t) i)) ≡ true
      go true m = rw (kept i u m) (w.marks i u)
      go false m = rw (blank i u m, blank-list i) (empty-mark (county_of t) no_list refl)

  shape : OneShape (blanked r t) (used_of t)
  unfolding list_of
  shape i j u v a b =
      let x = listed i u a in
      let y = listed j v b in
      ap (λ (z : List ℕ). is_tall (list z)) x ∙ w.shape i j u v (rw x at a) (rw y at b) ∙ sym (ap (λ (z : List ℕ). is_tall (list z)) y)

  -- a row of R is as it was, used or not
  answered : (i : ℕ) → has r i ≡ true → row_bytes t i ≡ row_bytes (blanked r t) i
  unfolding row_bytes block
  answered zero m = refl
  answered (suc k) m = go (dec_le (suc k) (used_of t))
    where
      go : Dec (suc k ≤ used_of t) → row_bytes t (suc k) ≡ row_bytes (blanked r t) (suc k)
      go (yes l) = sym (kept (suc k) (omega arith) m)
      go (no l) = sym (behind change (suc k) (omega arith))

  right : Formed (blanked r t)
  right = record {
    newest = same-form frame ∙ w.newest;
    header = same-header frame ∙ w.header;
    long = same-long frame ∙ w.long;
    heads = rw (same-used frame) row-facts;
    copies = rw (same-used frame, same-files frame, same-file frame) copy-facts;
    visits = same-visits frame ∙ w.visits;
    rise = same-rise frame ∙ w.rise;
    zero = zero-stays change refl (same-used frame) ∙ w.zero;
    agree = rw (same-used frame) agree;
    marks = rw (same-used frame, frame.counties) marks;
    shape = rw (same-used frame) shape;
  }

pub blanked-equal : BlankedEqual
unfolding BlankedEqual part
blanked-equal t r e = record {
  formed = e;
  formed-too = well-formed-of _ (right t r e);
  header = sym ((frame t r e).like.header 0 16 (omega arith));
  names = λ i u. ap (λ (f : ℕ → ℕ). f i) (sym (frame t r e).names);
  links = λ i u. ap (λ (f : ℕ → ℕ). f i) (sym (frame t r e).links);
  counties = λ i u. ap (λ (f : ℕ → ℕ). f i) (sym (frame t r e).counties);
  rows = answered t r e;
}

pub others-blank : OthersBlank
unfolding OthersBlank blank_row body name_of link_of
others-blank t r i e u m = rw (county-at t i u) (blank t r e i u m)

-- ---- two tables that are equal in R
module _ {r : ℕ} {t u : List ℕ} (E : EqualIn r t u) where
  row-alike : (i : ℕ) → Within (used_of t) i → (b : Bool) → has r i ≡ b → row_bytes (blanked r u) i ≡ cond (not b) (blank_row (body_length (files_of t) (file_length_of t)) (row_bytes t i)) (row_bytes t i)
  unfolding body blank_row name_of link_of
  row-alike i w true m = kept u r E.formed-too i (rw (used-same E) w) m ∙ sym (E.rows i m)
  row-alike i w false m =
      let county : get county (row_bytes u i) ≡ get county (row_bytes t i) = sym (county-at u i (rw (used-same E) w)) ∙ sym (E.counties i w) ∙ county-at t i w in
      blank u r E.formed-too i (rw (used-same E) w) m ∙ rw (file-same E, files-same E, sym (E.names i w), sym (E.links i w), county)

  altered : Altered 16 (row_length t) t (blanked r u) (used_of t) (λ i. not (has r i)) (λ i. blank_row (body_length (files_of t) (file_length_of t)))
  unfolding row_bytes rows_end
  altered =
      let f = frame u r E.formed-too in
      record {
        long = f.like.long ∙ lengths E;
        head = λ a n h. f.like.header a n h ∙ header E a n h;
        blocks = λ i w. ap (λ (n : ℕ). block 16 n i (blanked r u)) (sym (like-length f.like ∙ widths E)) ∙ row-alike i w (has r i) refl;
        tail = λ b h. (change u r E.formed-too).tail b (rw (ends E) h) ∙ drop_more (rows_end t (used_of t)) b u t h (rest E);
      }

pub blanked-alike : BlankedAlike
unfolding BlankedAlike blanked with_rows rows_end row_bytes body
blanked-alike t u r E = alike 16 (row_length t) (used_of t) (blocks-changed 16 (row_length t) t _ _ (used_of t) (rows-room t (formed t E.formed)) (λ i w m. long t r E.formed i)) (altered E)

pub blanked-answers : BlankedAnswers
unfolding BlankedAnswers BlankedEqual UnansweredHaveNoPart
blanked-answers t k r a e = unanswered-have-no-part t (blanked r t) k r a (blanked-equal t r e)
