-- What no call after a founding but a joining alters: header, names, links and counties. And what follows: chain order, the header's and the chain's part of question 1.
use mathlib.Core.Path.{◌≡◌, refl, ◌∙◌, ap, fun_ext}
use mathlib.Core.Bool.{Bool, true, false, cond}
use mathlib.Core.List.{List}
use Prim.Native.Nat.{ℕ, zero, suc, ◌≤◌}
use native.Mathlib.Decide.{dec_le}
use native.Mathlib.Omega.{arith}
use lib.ListN.{drop}
use Rattle.sets.specs.Upto.{Within}
use Rattle.octets.specs.Bytes.{all_zero}
use Rattle.fields.specs.Layout.{get, form, capacity, used, first, file_length, file_count, rest_in, name, link, county, form_of, capacity_of, used_of, first_of, file_length_of, files_of, name_of, link_of, county_of, rows_end, row_bytes}
use Rattle.table.specs.Chain.{order_of, frame_of}
use Rattle.table.specs.WellFormed.{header_values, length_right, visits_each, names_rise, unused_zero}
use Rattle.blocks.specs.Blocks.{block}
use Rattle.table.proofs.CountyLaws.{county-same, frame_same}
use Rattle.table.proofs.TableLaws.{Like, like-get, like-end, Changed, behind}

pub record SameFrame (t u : List ℕ) : Type 0 where
  pub like : Like t u
  pub names : name_of u ≡ name_of t
  pub links : link_of u ≡ link_of t
  pub counties : county_of u ≡ county_of t

module _ {t u : List ℕ} (f : SameFrame t u) where
  pub same-used : used_of u ≡ used_of t
  unfolding used_of used
  same-used = like-get f.like used (omega arith)

  pub same-capacity : capacity_of u ≡ capacity_of t
  unfolding capacity_of capacity
  same-capacity = like-get f.like capacity (omega arith)

  pub same_first : first_of u ≡ first_of t
  unfolding first_of first
  same_first = like-get f.like first (omega arith)

  pub same-file : file_length_of u ≡ file_length_of t
  unfolding file_length_of file_length
  same-file = like-get f.like file_length (omega arith)

  pub same-form : form_of u ≡ form_of t
  unfolding form_of form
  same-form = like-get f.like form (omega arith)

  pub same-files : files_of u ≡ files_of t
  unfolding files_of file_count
  same-files = rw (same-form, like-get f.like file_count (omega arith))

  same_rest : rest_in (form_of t) u ≡ rest_in (form_of t) t
  unfolding rest_in
  same_rest = rw (f.like.header 7 9 (omega arith), f.like.header 6 10 (omega arith))

  pub same-header : header_values u ≡ header_values t
  unfolding header_values
  same-header = rw (same-form, same-capacity, same-used, same_first, same-file, same-files, same_rest)

  pub same-long : length_right u ≡ length_right t
  unfolding length_right
  same-long = rw (f.like.long, same-capacity, like-end f.like (capacity_of t))

  pub same-visits : visits_each u ≡ visits_each t
  unfolding visits_each
  same-visits = rw (f.links, same-used, same_first)

  pub same-rise : names_rise u ≡ names_rise t
  unfolding names_rise
  same-rise = rw (f.links, f.names, same-used, same_first)

  pub same-frame : frame_of u ≡ frame_of t
  unfolding order_of
  same-frame = frame_same t u (rw (f.links, same-used, same_first)) f.counties

-- a row that keeps these
pub record KeepsFrame (row new : List ℕ) : Type 0 where
  pub name : get name new ≡ get name row
  pub link : get link new ≡ get link row
  pub county : get county new ≡ get county row

-- ---- a table some of whose rows are changed, and all keep name, link and county
module _ {t u : List ℕ} {n : ℕ} {s : ℕ → Bool} {g : ℕ → List ℕ → List ℕ} (c : Changed t u n s g) where
  row_same : (field : List ℕ → ℕ) → ((i : ℕ) → Within n i → s i ≡ true → field (g i (row_bytes t i)) ≡ field (row_bytes t i))
      → (i : ℕ) → field (row_bytes u i) ≡ field (row_bytes t i)
  unfolding row_bytes block
  row_same field keeps zero = refl
  row_same field keeps (suc k) = go (dec_le (suc k) n)
    where
      go : Dec (suc k ≤ n) → field (row_bytes u (suc k)) ≡ field (row_bytes t (suc k))
      go (yes l) = ap field (c.rows (suc k) (omega arith)) ∙ by (s (suc k)) refl
        where
          by : (b : Bool) → s (suc k) ≡ b → field (cond b (g (suc k) (row_bytes t (suc k))) (row_bytes t (suc k))) ≡ field (row_bytes t (suc k))
          by true e = keeps (suc k) (omega arith) e
          by false e = refl
      go (no l) = ap field (behind c (suc k) (omega arith))

  pub frame-of : ((i : ℕ) → Within n i → s i ≡ true → KeepsFrame (row_bytes t i) (g i (row_bytes t i))) → SameFrame t u
  unfolding name_of link_of used_of used
  frame-of k = record {
    like = c.like;
    names = fun_ext (row_same (get name) (λ i w m. (k i w m).name));
    links = fun_ext (row_same (get link) (λ i w m. (k i w m).link));
    counties = county-same t u (like-get c.like used (omega arith)) (λ i w. row_same (get county) (λ i w m. (k i w m).county) i);
  }

  -- the unused rows stay zero
  pub zero-stays : used_of t ≡ n → used_of u ≡ used_of t → unused_zero u ≡ unused_zero t
  unfolding unused_zero
  zero-stays e q = ap all_zero (ap (λ (a : ℕ). drop a u) (ap (rows_end u) q ∙ like-end c.like (used_of t)) ∙ c.tail (rows_end t (used_of t)) (rw e (omega arith)))
