-- A table some of whose rows are changed: the header, every other row and what stands behind the rows stay.
use mathlib.Core.Path.{◌≡◌, refl, ◌∙◌, ap}
use mathlib.Core.Bool.{Bool, true, cond}
use mathlib.Core.List.{List}
use Prim.Native.Nat.{ℕ, zero, suc, ◌+◌, ◌*◌, ◌≤◌, ◌<◌}
use native.Mathlib.Nat.{mul-le-mul_right}
use native.Mathlib.Omega.{arith}
use lib.Dec.{eqb}
use lib.ListN.{length, take, drop}
use Rattle.sets.specs.Upto.{Within}
use Rattle.octets.specs.Bytes.{number, part}
use Rattle.fields.specs.Layout.{Field, get, form, file_length, file_count, form_of, file_length_of, files_of, row_length, rows_end, row_bytes, with_row, with_rows}
use Rattle.blocks.specs.Blocks.{block}
use Rattle.blocks.proofs.BlockLaws.{length-block, Altered, blocks-changed, one-changed}

-- u has the length and the header of t
pub record Like (t u : List ℕ) : Type 0 where
  pub long : length u ≡ length t
  pub header : (a n : ℕ) → a + n ≤ 16 → part a n u ≡ part a n t

module _ {t u : List ℕ} (l : Like t u) where
  pub like-get : (f : Field) → f.place + f.width ≤ 16 → get f u ≡ get f t
  unfolding get
  like-get f h = ap number (l.header f.place f.width h)

  pub like-length : row_length u ≡ row_length t
  unfolding row_length files_of file_count form_of form file_length_of file_length
  like-length = rw (like-get form (omega arith), like-get file_count (omega arith), like-get file_length (omega arith))

  pub like-end : (k : ℕ) → rows_end u k ≡ rows_end t k
  unfolding rows_end
  like-end k = ap (λ (w : ℕ). 16 + k * w) like-length

-- a table of n rows
abbrev pub Roomy : List ℕ → ℕ → Type 0
Roomy t n = rows_end t n ≤ length t

pub row-long : (t : List ℕ) (n : ℕ) → Roomy t n → (i : ℕ) → Within n i → length (row_bytes t i) ≡ row_length t
unfolding row_bytes rows_end
row-long t n r i w = length-block 16 (row_length t) t n r i w

pub end-le : (t : List ℕ) (a b : ℕ) → a ≤ b → rows_end t a ≤ rows_end t b
unfolding rows_end
end-le t a b h = omega (arith, mul-le-mul_right (row_length t) h)

-- u is t with row i of s changed by f i, for the rows 1 to n, and no other byte
pub record Changed (t u : List ℕ) (n : ℕ) (s : ℕ → Bool) (f : ℕ → List ℕ → List ℕ) : Type 0 where
  pub like : Like t u
  pub rows : (i : ℕ) → Within n i → row_bytes u i ≡ cond (s i) (f i (row_bytes t i)) (row_bytes t i)
  pub tail : (b : ℕ) → rows_end t n ≤ b → drop b u ≡ drop b t

-- the rows behind the n-th stay
pub behind : {t u : List ℕ} {n : ℕ} {s : ℕ → Bool} {f : ℕ → List ℕ → List ℕ} → Changed t u n s f → (i : ℕ) → n < i → row_bytes u i ≡ row_bytes t i
unfolding row_bytes block part rows_end
behind c zero h = refl
behind {t} {u} {n} c (suc k) h =
    ap (λ (w : ℕ). take w (drop (16 + k * w) u)) (like-length c.like) ∙ ap (take (row_length t)) (c.tail (16 + k * row_length t) (end-le t n k (omega arith)))

-- ---- rows are the blocks behind the header: those of s changed
module _ (t : List ℕ) (s : ℕ → Bool) (f : ℕ → List ℕ → List ℕ) where
  -- each is as long after its change as before
  abbrev pub Keeps : ℕ → Type 0
  Keeps n = (i : ℕ) → Within n i → s i ≡ true → length (f i (row_bytes t i)) ≡ row_length t

  of_blocks : {u : List ℕ} (n : ℕ) → Altered 16 (row_length t) t u n s f → Changed t u n s f
  unfolding rows_end row_bytes
  of_blocks {u} n c =
      let like : Like t u = record { long = c.long; header = c.head } in
      record { like = like; rows = λ i v. ap (λ (w : ℕ). block 16 w i u) (like-length like) ∙ c.blocks i v; tail = c.tail }

  pub many-rows : (n : ℕ) → Roomy t n → Keeps n → Changed t (with_rows t s f n) n s f
  unfolding with_rows row_bytes rows_end
  many-rows n r keeps = of_blocks n (blocks-changed 16 (row_length t) t s f n r keeps)

-- one row changed
pub one-row : (t : List ℕ) (n k : ℕ) → Roomy t n → k < n → (f : List ℕ → List ℕ) → length (f (row_bytes t (suc k))) ≡ row_length t
    → Changed t (with_row t (suc k) f) n (eqb (suc k)) (λ i. f)
unfolding with_row row_bytes rows_end
one-row t n k r h f keeps = of_blocks t (eqb (suc k)) (λ i. f) n (one-changed 16 (row_length t) t n k r h f keeps)
