-- A row put in, over plain variables.
use mathlib.Core.Path.{◌≡◌, refl, sym, ◌∙◌, ap, ap₂}
use mathlib.Core.Bool.{cond}
use mathlib.Core.List.{List, ◌++◌}
use Prim.Native.Nat.{ℕ, suc, ◌+◌, ◌-◌, ◌*◌, ◌≤◌, ◌<◌}
use native.Mathlib.Nat.{suc-mul}
use native.Mathlib.Numerals.{add-one}
use native.Mathlib.Omega.{arith}
use lib.Dec.{eqb}
use lib.ListN.{length, take, drop}
use Rattle.octets.specs.Bytes.{put}
use Rattle.octets.proofs.CodeLaws.{part_length, part-back, part-is}
use Rattle.blocks.specs.Blocks.{block, with_block}
use Rattle.fields.specs.Layout.{store, used, first, name, link, county, capacity_of, used_of, first_of, link_of, row_length, rows_end, row_bytes, with_row}
use Rattle.fields.proofs.FieldLaws.{length-store, head-room}
use Rattle.table.specs.Asked.{Sized}
use Rattle.table.proofs.WellFormedLaws.{rows_in}
use Rattle.table.proofs.TableLaws.{Roomy, like-length, row-long, one-row}
use Rattle.linking.specs.Linking.{behind}
use Rattle.joining.specs.Joining.{named_row, joined_behind}

-- row p ends where p rows end
pub row_ends : (p size : ℕ) → 1 ≤ p → (p - 1) * size + size ≡ p * size
row_ends p size h = let e : suc (p - 1) ≡ p = omega arith in omega (arith, suc-mul (p - 1) size, ap (λ (m : ℕ). m * size) e)

-- the row behind the first k, lent and changed by f
module _ (t : List ℕ) (size k : ℕ) (f : List ℕ → List ℕ) (x : List ℕ) (fits : 16 + k * size + size ≤ length t)
    (long : length x ≡ length (take ((16 + k * size + size) - (16 + k * size)) (drop (16 + k * size) t)))
    (made : x ≡ f (take ((16 + k * size + size) - (16 + k * size)) (drop (16 + k * size) t))) where
  pub block_back : take (16 + k * size) t ++ (x ++ drop ((16 + k * size + size) - (16 + k * size)) (drop (16 + k * size) t)) ≡ with_block 16 size (suc k) f t
  unfolding with_block block
  block_back =
      part-back (16 + k * size) size t x x refl (long ∙ part_length (16 + k * size) size t fits)
      ∙ ap (λ (y : List ℕ). put (16 + k * size) y t) (made ∙ ap f (part-is t (16 + k * size) size (16 + k * size) size refl refl))

-- ---- the new row, then the link before it, then the header
module _ {t : List ℕ} (s : Sized t) (room : used_of t < capacity_of t) where
  pub roomy : Roomy t (suc (used_of t))
  roomy = rows_in s (suc (used_of t)) room

  -- the new row lies within the table, and so does a row before it
  pub row_fits : (size n : ℕ) → size ≡ row_length t → n ≡ used_of t → (32 ≤ size) × (16 + n * size + size ≤ length t)
  unfolding rows_end
  row_fits size n es en = rw (es, en) (omega (arith, head-room t), omega (arith, roomy, suc-mul (used_of t) (row_length t)))

  pub link_fits : (size p : ℕ) → size ≡ row_length t → p ≤ used_of t → (32 ≤ size) × (16 + p * size ≤ length t)
  unfolding rows_end
  link_fits size p es h = rw es (omega (arith, head-room t), rows_in s p (omega arith))

  -- a name, a link and a county leave the length of rows
  width : (x next y : ℕ) → row_length (with_row t (suc (used_of t)) (named_row x next y)) ≡ row_length t
  unfolding named_row name link county
  width x next y =
      let row = row_bytes t (suc (used_of t)) in
      let l : length row ≡ row_length t = row-long t (suc (used_of t)) roomy (suc (used_of t)) (omega arith) in
      let n : length (store name x row) ≡ length row = length-store name x row (omega (arith, head-room t)) in
      let m : length (store link next (store name x row)) ≡ length (store name x row) = length-store link next (store name x row) (omega (arith, head-room t)) in
      like-length (one-row t (suc (used_of t)) (used_of t) roomy (omega arith) (named_row x next y)
      (length-store county y (store link next (store name x row)) (omega (arith, head-room t)) ∙ m ∙ n ∙ l)).like

  pub admitted : (p x y size n start next front : ℕ) (new led counted last : List ℕ)
      → size ≡ row_length t → n ≡ used_of t → start ≡ first_of t → next ≡ behind start (link_of t) p → front ≡ cond (eqb p 0) (n + 1) start
      → new ≡ with_block 16 size (suc n) (named_row x next y) t → led ≡ with_block 16 size p (store link (n + 1)) new
      → counted ≡ store used (n + 1) led → last ≡ store first front counted → last ≡ joined_behind t p x y
  unfolding joined_behind with_row
  admitted p x y size n start next front new led counted last es en ef ex er e1 e2 e3 e4 =
      let w = suc (used_of t) in
      let row : n + 1 ≡ w = add-one n ∙ ap suc en in
      let after = behind (first_of t) (link_of t) p in
      let named : new ≡ with_row t w (named_row x after y) =
      e1 ∙ ap₂ (λ (z m : ℕ). with_block 16 z (suc m) (named_row x next y) t) es en ∙ ap (λ (m : ℕ). with_row t w (named_row x m y)) (ex ∙ ap (λ (i : ℕ). behind i (link_of t) p) ef) in
      let linked : led ≡ with_row (with_row t w (named_row x after y)) p (store link w) =
      e2 ∙ ap₂ (λ (i : ℕ) (l : List ℕ). with_block 16 size p (store link i) l) row named ∙ ap (λ (z : ℕ). with_block 16 z p (store link w) (with_row t w (named_row x after y))) (es ∙ sym (width x after y)) in
      e4 ∙ ap₂ (store first) (er ∙ ap₂ (cond (eqb p 0)) row ef) (e3 ∙ ap₂ (store used) row linked)
