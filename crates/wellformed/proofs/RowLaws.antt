-- A used row is right: by its head, then by its copies.
use mathlib.Core.Path.{◌≡◌, refl, sym, ◌∙◌, ap, ap₂, fun_ext}
use mathlib.Core.Bool.{Bool, true, false, ◌&&◌}
use mathlib.Core.List.{List}
use Prim.Native.Nat.{ℕ, zero, suc, ◌+◌, ◌≤◌, ◌<◌}
use native.Mathlib.Omega.{arith}
use lib.ListN.{length}
use borrow.Author.Tests.{le-leb, lt-leb}
use Rattle.sets.specs.Upto.{Within, every}
use Rattle.fields.specs.Layout.{form_value, mark_in, oldest_in, spare_in, stride_in, stride, copy_in, copy_of, form_of, used_of, file_length_of, files_of, row_length, row_bytes, copy_bytes}
use Rattle.fields.proofs.FieldLaws.{stride-late, stride-third, files-former}
use Rattle.window.specs.Windows.{window_in}
use Rattle.bools.proofs.BoolLaws.{and_l, and_r}
use Rattle.sets.proofs.UptoLaws.{every_of, every-ext}
use Rattle.table.specs.WellFormed.{header_values, length_right, copy_values, desired_right, kept_right, head_right, copy_right, row_right}
use Rattle.table.specs.Asked.{Sized}
use Rattle.table.proofs.WellFormedLaws.{length-row}
use Rattle.straight.specs.Straight.{Straight}

-- of row i of a table: its head; its copies, since files came
unfoldable pub head : List ℕ → ℕ → Bool
head t i = head_right (form_of t) (used_of t) i (row_bytes t i)

unfoldable pub copies : List ℕ → ℕ → Bool
copies t i = every (files_of t) (λ q. copy_right form_value (file_length_of t) (copy_bytes t q i))

-- by what the code has of them
pub copies-by : (t : List ℕ) (i n file : ℕ) (row : List ℕ) → n ≡ files_of t → file ≡ file_length_of t → row ≡ row_bytes t i → every n (λ q. copy_right form_value file (copy_in file q row)) ≡ copies t i
unfolding copies copy_bytes
copies-by t i n file row e f q = rw (e, f, q)

-- each is judged as in the newest form
copy-late : (f file q : ℕ) (row : List ℕ) → 4 ≤ f → copy_right f file (copy_of f file q row) ≡ copy_right form_value file (copy_in file q row)
unfolding copy_right copy_values desired_right kept_right window_in mark_in oldest_in spare_in copy_of form_value
copy-late f file q row h = rw (le-leb 4 f h, le-leb 3 f (omega arith))

module _ (t : List ℕ) (i : ℕ) where
  later-is : 4 ≤ form_of t → row_right t i ≡ (head t i && copies t i)
  unfolding row_right head copies copy_bytes
  later-is h = ap (λ (p : ℕ → Bool). head t i && every (files_of t) p) (fun_ext (λ q. copy-late (form_of t) (file_length_of t) q (row_bytes t i) h))

  -- before files came it was its own copy
  pub former-is : form_of t < 4 → row_right t i ≡ (head_right (form_of t) (used_of t) i (row_bytes t i) && copy_right (form_of t) (file_length_of t) (row_bytes t i))
  unfolding row_right copy_of every
  former-is h = rw (files-former t h, lt-leb 4 (form_of t) h)

-- as long as its files ask for
pub later-long : {t : List ℕ} (s : Sized t) → 4 ≤ form_of t → (i : ℕ) → Within (used_of t) i → length (row_bytes t i) ≡ stride (files_of t) (file_length_of t)
unfolding row_length
later-long {t} s h i w = length-row s i w ∙ stride-late (form_of t) (files_of t) (file_length_of t) h

pub third-long : {t : List ℕ} (s : Sized t) → form_of t ≡ 3 → (i : ℕ) → Within (used_of t) i → length (row_bytes t i) ≡ 608 + file_length_of t
unfolding row_length
third-long {t} s e i w = length-row s i w ∙ ap (λ (f : ℕ). stride_in f (files_of t) (file_length_of t)) e ∙ stride-third (files_of t) (file_length_of t)

-- ---- all of them: by their heads, then by their copies
every-both : (n : ℕ) (p q : ℕ → Bool) → every n (λ i. p i && q i) ≡ (every n p && every n q)
unfolding every
every-both zero p q = refl
every-both (suc n) p q = ap (λ (b : Bool). b && (p (suc n) && q (suc n))) (every-both n p q) ∙ swap (every n p) (every n q) (p (suc n)) (q (suc n))
  where
    swap : (a b c d : Bool) → ((a && b) && (c && d)) ≡ ((a && c) && (b && d))
    swap true true c d = refl
    swap true false true d = refl
    swap true false false d = refl
    swap false b c d = refl

pub rows_are : (t : List ℕ) → 4 ≤ form_of t → (every (used_of t) (head t) && every (used_of t) (copies t)) ≡ every (used_of t) (row_right t)
rows_are t h = sym (every-ext (used_of t) _ _ (λ i w. later-is t i h) ∙ every-both (used_of t) (head t) (copies t))

-- by what was found of all heads and of all copies
pub rows-by : (t : List ℕ) → 4 ≤ form_of t → (a b : Bool) → every (used_of t) (head t) ≡ a → every (used_of t) (copies t) ≡ b → every (used_of t) (row_right t) ≡ (a && b)
rows-by t h a b p q = sym (rows_are t h) ∙ ap₂ (λ (x y : Bool). x && y) p q

-- ---- what was asked, and what follows of the whole
pub head-no : {row : Bool} (first rest : Bool) → row ≡ (first && rest) → first ≡ false → row ≡ false
head-no first rest e q = e ∙ ap (λ (b : Bool). b && rest) q

pub head-yes : {row : Bool} (first rest : Bool) → row ≡ (first && rest) → first ≡ true → row ≡ rest
head-yes first rest e q = e ∙ ap (λ (b : Bool). b && rest) q

-- the used rows lie within a table whose header and length are right
pub sized-by : (t : List ℕ) → (header_values t && length_right t) ≡ true → Sized t
sized-by t e = record { header = and_l (header_values t) (length_right t) e; bytes = and_r (header_values t) (length_right t) e }

-- ---- a table as most calls meet it: its heads are right, and its copies are left to be asked
module _ (t : List ℕ) (e : form_of t ≡ form_value) where
  pub late : 4 ≤ form_of t
  unfolding form_value
  late = omega arith

  pub straight-heads : Straight t → every (used_of t) (head t) ≡ true
  unfolding head
  straight-heads s = every_of (used_of t) _ (λ i w. ap (λ (f : ℕ). head_right f (used_of t) i (row_bytes t i)) e ∙ s.heads i w)
