-- The grid marks of lists, by their counties.
use Rattle.std.specs.Prelude.{Bool, not, cond, ◌||◌, ℕ, eqb}
use Rattle.sets.specs.Upto.{every, some, count}
use Rattle.sets.specs.Sets.{has}
use Rattle.grid.specs.Sizes.{mark_fits, new_mark}
use Rattle.fields.specs.declared.Laid.{Laid}
use Rattle.fields.specs.Layout.{is_empty, is_tall}
use Rattle.counties.specs.Counties.{several}

-- "A list of more than one county has grid mark 3 in a wide table, .. and 2 in a tall one": the mark of a list of N members that is laid now; within one county as before
unfoldable pub mark_now : Bool → Bool → ℕ → ℕ
mark_now tall is_several N = cond is_several (cond tall 2 3) (new_mark tall N)

-- the list that a founding or a check lays of the rows r, in a tall table or in a wide one
unfoldable pub laid_now : Bool → (ℕ → ℕ) → ℕ → Laid
laid_now tall county r = record { members = r; mark = mark_now tall (several county (has r)) (count 64 (has r)) }

-- ---- question 1
-- a list by itself: of more than one county, mark 3 or 2; ".. where no other list has it": within one county, as before
unfoldable pub mark_right : (ℕ → ℕ) → Laid → Bool
mark_right county l = cond (several county (has l.members)) (eqb l.mark 3 || eqb l.mark 2) (mark_fits l.mark (count 64 (has l.members)))

-- "A table with grid mark 2 is tall", by the lists of its rows 1 to n
unfoldable pub tall_table : ℕ → (ℕ → Laid) → Bool
tall_table n lists = some n (λ i. is_tall (lists i))

-- "every list in it has mark 2, an empty one 0"
unfoldable pub tall_right : ℕ → (ℕ → Laid) → Bool
tall_right n lists = not (tall_table n lists) || every n (λ i. is_empty (lists i) || is_tall (lists i))
