-- What is claimed of a table with a row more, as statements; the proofs are in proofs/.
use Rattle.std.specs.Prelude.{◌≡◌, cond, List, ℕ, suc, eqb, length, drop}
use Rattle.sets.specs.Upto.{Within}
use Rattle.octets.specs.Bytes.{bytes_of, part}
use Rattle.fields.specs.Layout.{store, link, body_length, bare_row, used_of, first_of, file_length_of, files_of, link_of, rows_end, row_bytes}
use Rattle.linking.specs.Linking.{behind}
use Rattle.joining.specs.Joining.{row_before}

-- "Joining alters only the new row, the header's count and first index, and the one link before it": u is t with a row more, named x, of county y
pub record OneMore (t u : List ℕ) (x y : ℕ) : Type 0 where
  pub bytes : length u ≡ length t
  -- the header: form and capacity; the count; the first index; the rest
  pub low : part 0 2 u ≡ part 0 2 t
  pub count : part 2 1 u ≡ bytes_of 1 (suc (used_of t))
  pub front : part 3 1 u ≡ bytes_of 1 (cond (eqb (row_before t x) 0) (suc (used_of t)) (first_of t))
  pub high : part 4 12 u ≡ part 4 12 t
  pub rows : (i : ℕ) → Within (used_of t) i → row_bytes u i ≡ cond (eqb (row_before t x) i) (store link (suc (used_of t)) (row_bytes t i)) (row_bytes t i)
  -- the new row: its name, its link, its county, and zeros
  pub new : row_bytes u (suc (used_of t)) ≡ bare_row x (behind (first_of t) (link_of t) (row_before t x)) y (body_length (files_of t) (file_length_of t))
  pub rest : drop (rows_end t (suc (used_of t))) u ≡ drop (rows_end t (suc (used_of t))) t
