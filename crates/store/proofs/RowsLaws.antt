-- Rows lent to the code one after another, over plain variables.
use mathlib.Core.Path.{◌≡◌, refl, sym, ◌∙◌, ap, subst}
use mathlib.Core.Bool.{Bool, true, false, cond}
use mathlib.Core.Logic.{◌⊎◌, inl, inr}
use mathlib.Core.List.{List, ◌++◌}
use Prim.Native.Nat.{ℕ, suc, ◌+◌, ◌-◌, ◌*◌, ◌≤◌}
use native.Mathlib.Omega.{arith}
use lib.Dec.{eqb}
use lib.ListN.{length, take, drop}
use borrow.Author.Tests.{eqb-true}
use Rattle.bools.proofs.BoolLaws.{or-e}
use Rattle.sets.specs.Upto.{Within}
use Rattle.sets.specs.Sets.{no_row, joining}
use Rattle.sets.proofs.MemberLaws.{only}
use Rattle.octets.specs.Bytes.{put}
use Rattle.octets.proofs.CodeLaws.{part-back, part-is, part_length}
use Rattle.blocks.specs.Blocks.{block, with_block}
use Rattle.blocks.proofs.BlockLaws.{ends, Altered, blocks-changed, none-changed, one_more}
use Rattle.fields.specs.Layout.{used_of, row_length, rows_end, row_bytes, with_rows}
use Rattle.table.specs.Asked.{Sized}
use Rattle.table.proofs.WellFormedLaws.{header, rows_in}

-- u is t with the used rows of p changed by f, each as long as before
pub record Done (t : List ℕ) (f : ℕ → List ℕ → List ℕ) (size : ℕ) (p : ℕ → Bool) (u : List ℕ) : Type 0 where
  pub table : Sized t
  pub wide : size ≡ row_length t
  pub keeps : (i : ℕ) → Within (used_of t) i → p i ≡ true → length (f i (row_bytes t i)) ≡ row_length t
  pub rows : u ≡ with_rows t p f (used_of t)

pub none_done : {t : List ℕ} → Sized t → (f : ℕ → List ℕ → List ℕ) {size : ℕ} → size ≡ row_length t → Done t f size no_row t
unfolding with_rows no_row
none_done {t} z f e = record { table = z; wide = e; keeps = λ i v h. absurd (no h); rows = sym (none-changed 16 (row_length t) f (used_of t) t) }
  where
    no : false ≡ true → ⊥
    no h = let x : ◌≡◌ {A = ℕ} 0 1 = ap (λ (b : Bool). cond b 1 0) h in omega arith

-- ---- the turn of row suc k, which is not changed yet
module _ {t : List ℕ} {f : ℕ → List ℕ → List ℕ} {size : ℕ} {p : ℕ → Bool} {u : List ℕ} (d : Done t f size p u) (k : ℕ) (w : Within (used_of t) (suc k)) (new : p (suc k) ≡ false) where
  room : 16 + used_of t * row_length t ≤ length t
  unfolding rows_end
  room = rows_in d.table (used_of t) (header d.table.header).used.1

  altered : Altered 16 (row_length t) t u (used_of t) p f
  unfolding with_rows row_bytes
  altered = rw d.rows (blocks-changed 16 (row_length t) t p f (used_of t) room d.keeps)

  fits : 16 + k * size + size ≤ length u
  fits = rw d.wide (omega (arith, altered.long, room, ends 16 (row_length t) (used_of t) k (omega arith)))

  -- what is lent is the row as it was
  lent : take ((16 + k * size + size) - (16 + k * size)) (drop (16 + k * size) u) ≡ row_bytes t (suc k)
  unfolding row_bytes block
  lent = part-is u (16 + k * size) size (16 + k * row_length t) (row_length t) (ap (λ (x : ℕ). 16 + k * x) d.wide) d.wide ∙ altered.blocks (suc k) w ∙ rw new

  long-lent : length (take ((16 + k * size + size) - (16 + k * size)) (drop (16 + k * size) u)) ≡ row_length t
  long-lent = part_length (16 + k * size) size u fits ∙ d.wide

  -- and comes back changed
  back : (x : List ℕ) → length x ≡ length (take ((16 + k * size + size) - (16 + k * size)) (drop (16 + k * size) u))
      → x ≡ f (suc k) (take ((16 + k * size + size) - (16 + k * size)) (drop (16 + k * size) u))
      → Done t f size (joining p (only (suc k))) (take (16 + k * size) u ++ (x ++ drop ((16 + k * size + size) - (16 + k * size)) (drop (16 + k * size) u)))
  unfolding with_rows with_block block row_bytes joining
  back x long made = record { table = d.table; wide = d.wide; keeps = keeps; rows = rows }
    where
      here : x ≡ f (suc k) (row_bytes t (suc k))
      here = made ∙ ap (f (suc k)) lent

      keeps : (i : ℕ) → Within (used_of t) i → joining p (only (suc k)) i ≡ true → length (f i (row_bytes t i)) ≡ row_length t
      keeps i v h = by (or-e (p i) _ h)
        where
          by : (p i ≡ true) ⊎ (eqb i (suc k) ≡ true) → length (f i (row_bytes t i)) ≡ row_length t
          by (inl e) = d.keeps i v e
          by (inr e) = let q : i ≡ suc k = eqb-true i (suc k) e in rw q (sym (ap length here) ∙ long ∙ long-lent)

      rows : take (16 + k * size) u ++ (x ++ drop ((16 + k * size + size) - (16 + k * size)) (drop (16 + k * size) u)) ≡ with_rows t (joining p (only (suc k))) f (used_of t)
      rows = part-back (16 + k * size) size u x x refl (long ∙ part_length (16 + k * size) size u fits)
          ∙ ap (λ (y : List ℕ). put (16 + k * size) y u) (made ∙ ap (f (suc k)) (part-is u (16 + k * size) size (16 + k * row_length t) (row_length t) (ap (λ (z : ℕ). 16 + k * z) d.wide) d.wide))
          ∙ ap (λ (z : ℕ). put (16 + k * z) (f (suc k) (block 16 (row_length t) (suc k) u)) u) d.wide
          ∙ ap (with_block 16 (row_length t) (suc k) (f (suc k))) d.rows
          ∙ one_more 16 (row_length t) t p f (used_of t) k room (omega arith) new keeps

-- ---- the turn of row i, which starts behind those before it
module _ {t : List ℕ} {f : ℕ → List ℕ → List ℕ} {size : ℕ} {p : ℕ → Bool} {u : List ℕ} (d : Done t f size p u) {i : ℕ} (w : Within (used_of t) i) (new : p i ≡ false) where
  row : suc (i - 1) ≡ i
  row = omega arith

  inside : Within (used_of t) (suc (i - 1))
  inside = omega arith

  pub turn-fits : 16 + (i - 1) * size + size ≤ length u
  turn-fits = fits d (i - 1) inside (ap p row ∙ new)

  pub turn-long : length (take ((16 + (i - 1) * size + size) - (16 + (i - 1) * size)) (drop (16 + (i - 1) * size) u)) ≡ row_length t
  turn-long = long-lent d (i - 1) inside (ap p row ∙ new)

  -- what is lent is the row as it was
  pub turn-row : take ((16 + (i - 1) * size + size) - (16 + (i - 1) * size)) (drop (16 + (i - 1) * size) u) ≡ row_bytes t i
  turn-row = lent d (i - 1) inside (ap p row ∙ new) ∙ ap (row_bytes t) row

  pub turn-done : (x : List ℕ) → length x ≡ length (take ((16 + (i - 1) * size + size) - (16 + (i - 1) * size)) (drop (16 + (i - 1) * size) u))
      → x ≡ f i (take ((16 + (i - 1) * size + size) - (16 + (i - 1) * size)) (drop (16 + (i - 1) * size) u))
      → Done t f size (joining p (only i)) (take (16 + (i - 1) * size) u ++ (x ++ drop ((16 + (i - 1) * size + size) - (16 + (i - 1) * size)) (drop (16 + (i - 1) * size) u)))
  turn-done x long made =
      subst (λ (j : ℕ). Done t f size (joining p (only j)) (take (16 + (i - 1) * size) u ++ (x ++ drop ((16 + (i - 1) * size + size) - (16 + (i - 1) * size)) (drop (16 + (i - 1) * size) u)))) row
      (back d (i - 1) inside (ap p row ∙ new) x long (made ∙ ap (λ (j : ℕ). f j (take ((16 + (i - 1) * size + size) - (16 + (i - 1) * size)) (drop (16 + (i - 1) * size) u))) (sym row)))

-- the table stays as long
pub done-long : {t : List ℕ} {f : ℕ → List ℕ → List ℕ} {size : ℕ} {p : ℕ → Bool} {u : List ℕ} → Done t f size p u → length u ≡ length t
unfolding with_rows row_bytes rows_end
done-long {t} {f} {size} {p} d = ap length d.rows ∙ (blocks-changed 16 (row_length t) t p f (used_of t) (rows_in d.table (used_of t) (header d.table.header).used.1) d.keeps).long

-- all rows of a set are changed
pub done_all : {t : List ℕ} {f : ℕ → List ℕ → List ℕ} {size : ℕ} {p : ℕ → Bool} {u : List ℕ} → Done t f size p u → (s : ℕ → Bool) → s ≡ p → u ≡ with_rows t s f (used_of t)
done_all {t} {f} d s e = d.rows ∙ ap (λ (q : ℕ → Bool). with_rows t q f (used_of t)) (sym e)
