-- The target's row lent.
use mathlib.Core.Path.{◌≡◌, refl, sym, ◌∙◌, ap, ap₂}
use mathlib.Core.List.{List, ◌++◌}
use Prim.Native.Nat.{ℕ, zero, suc, ◌+◌, ◌-◌, ◌≤◌}
use native.Mathlib.Omega.{arith}
use lib.ListN.{length, take, drop}
use lib.Seq.{take-append_seam}
use Rattle.sets.specs.Upto.{Within}
use Rattle.octets.specs.Bytes.{put}
use Rattle.octets.proofs.CodeLaws.{part-back, part-is, part_length}
use Rattle.blocks.specs.Blocks.{with_block}
use Rattle.fields.specs.Layout.{used_of, row_length, rows_end, row_bytes, with_row}
use Rattle.table.specs.Asked.{Sized}
use Rattle.table.proofs.WellFormedLaws.{row_in, row-part}

with-row : (t : List ℕ) (i : ℕ) → 1 ≤ i → (f : List ℕ → List ℕ) → with_row t i f ≡ put (rows_end t (i - 1)) (f (row_bytes t i)) t
unfolding with_row with_block rows_end row_bytes
with-row t zero w f = absurd (omega arith)
with-row t (suc k) w f = let z : suc k - 1 ≡ k = omega arith in rw z

module _ {t : List ℕ} (z : Sized t) (i : ℕ) (w : Within (used_of t) i) (size at : ℕ) (e : size ≡ row_length t) (q : at ≡ rows_end t (i - 1)) where
  pub row_fits : at + size ≤ length t
  row_fits = omega (arith, e, q, row_in z i w)

  pub row_cut : take ((at + size) - at) (drop at t) ≡ row_bytes t i
  row_cut = part-is t at size (rows_end t (i - 1)) (row_length t) q e ∙ sym (row-part z i w)

  pub cut-length : length (take ((at + size) - at) (drop at t)) ≡ size
  cut-length = part_length at size t row_fits

  pub row_back : (f : List ℕ → List ℕ) (ys : List ℕ) → length ys ≡ length (take ((at + size) - at) (drop at t)) → ys ≡ f (take ((at + size) - at) (drop at t))
      → take at t ++ (ys ++ drop ((at + size) - at) (drop at t)) ≡ with_row t i f
  row_back f ys n r =
      part-back at size t ys ys refl (n ∙ cut-length)
      ∙ ap₂ (λ (a : ℕ) (p : List ℕ). put a p t) q (r ∙ ap f row_cut) ∙ sym (with-row t i w.0 f)

-- the front of a page is what was put there
pub front-is : (xs ys zs : List ℕ) (n : ℕ) → xs ≡ zs → length zs ≡ n → take (n - 0) (xs ++ ys) ≡ zs
front-is xs ys zs n put-there long = let e : n - 0 ≡ length zs = omega arith in rw (put-there, e) (take-append_seam zs ys)
