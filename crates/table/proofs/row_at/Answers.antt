use mathlib.Core.Path.{◌≡◌, refl, sym, ◌∙◌}
use mathlib.Core.List.{List}
use Prim.Native.Nat.{ℕ, ◌+◌, ◌-◌, ◌*◌, ◌≤◌}
use native.Mathlib.Omega.{arith}
use borrow.Author.Rules.{rules}
use lib.ListN.{length, take, drop}
use Rattle.sets.specs.Upto.{Within}
use Rattle.octets.proofs.CodeLaws.{part-is}
use Rattle.fields.specs.Layout.{used_of, row_length, rows_end, row_bytes}
use Rattle.table.specs.Asked.{Sized}
use Rattle.table.proofs.WellFormedLaws.{row_in, row-part, row-long}
use Rattle.table.proofs.row_at.Goals as goal

-- the row ends within the table
inside : {t : List ℕ} {size i : ℕ} → Sized t × (size ≡ row_length t) × Within (used_of t) i → 16 + (i - 1) * size + size ≤ length t
unfolding rows_end
inside {t} {size} {i} p = rw p.1 (row_in p.0 i p.2)

row_is : {t : List ℕ} {size i : ℕ} → Sized t × (size ≡ row_length t) × Within (used_of t) i
    → take ((16 + (i - 1) * size + size) - (16 + (i - 1) * size)) (drop (16 + (i - 1) * size) t) ≡ row_bytes t i
unfolding rows_end
row_is {t} {size} {i} p = rw p.1 (part-is t (rows_end t (i - 1)) (row_length t) _ _ refl refl ∙ sym (row-part p.0 i p.2))

pub overflow_mul-start : goal.overflow_mul-start
overflow_mul-start c = omega (arith, inside c.requires)

pub overflow_add-start : goal.overflow_add-start
overflow_add-start c = omega (arith, inside c.requires)

pub overflow_add-result : goal.overflow_add-result
overflow_add-result c = omega (arith, inside c.requires)

pub slice_bounds-result-end : goal.slice_bounds-result-end
slice_bounds-result-end c = omega (arith, inside c.requires)

pub returns : goal.returns
returns c = let p = c.requires in let e = row_is p in (e, rw e (row-long p.0 _ p.2))
