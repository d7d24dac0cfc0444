-- A list of rows on two levels: "Within a list, each county's members form a grid, and the counties that have members form one above, in rising order."
use Rattle.std.specs.Prelude.{Bool, cond, ◌&&◌, List, ℕ, ◌-◌, eqb, leb, ltb, length, get_or}
use Rattle.sets.specs.Upto.{some, count, upward}
use Rattle.sets.specs.Sets.{has}
use Rattle.quorums.specs.declared.Kind.{Kind}
use Rattle.fields.specs.declared.Laid.{Laid}
use Rattle.counties.specs.Levels.{level, level_choice}

-- what is known of all rows, whether they answer or not: their chain order, and "each row gets a county, 1 to 8"; "counties count with names and links"
pub record Frame : Type 0 where
  pub order : List ℕ
  pub county : ℕ → ℕ

-- counties given one for each row, row 1 first; no other row has one
unfoldable pub county_at : List ℕ → ℕ → ℕ
county_at places i = cond (leb 1 i && leb i (length places)) (get_or places (i - 1) 0) 0

-- the counties, "in rising order"
unfoldable pub counties : List ℕ
counties = upward 8 1

-- "each county's members": of those that pass p, the ones in county j
unfoldable pub in_county : (ℕ → ℕ) → (ℕ → Bool) → ℕ → ℕ → Bool
in_county county p j i = p i && eqb (county i) j

-- "the counties that have members": j is one of 1 to 8, and some one of those that pass p is in it
unfoldable pub has_members : (ℕ → ℕ) → (ℕ → Bool) → ℕ → Bool
has_members county p j = leb 1 j && leb j 8 && some 64 (in_county county p j)

-- "A list of more than one county"
unfoldable pub several : (ℕ → ℕ) → (ℕ → Bool) → Bool
several county p = ltb 1 (count 64 (has_members county p))

-- "A set holds a read (write) quorum if the counties in which it holds one form a read (write) quorum above."
unfoldable pub levels : Kind → ℕ → Frame → (ℕ → Bool) → (ℕ → Bool) → Bool
levels kind mark f p s = level kind mark counties (has_members f.county p) (λ j. level kind mark f.order (in_county f.county p j) s)

-- "A machine's own choice, a read's or a write's, uses its name on both levels": row i is chosen within its county, and the county above
unfoldable pub levels_choice : Kind → ℕ → Frame → (ℕ → Bool) → ℕ → ℕ → Bool
levels_choice kind mark f p a i =
    level_choice kind mark f.order (in_county f.county p (f.county i)) a i
    && level_choice kind mark counties (has_members f.county p) a (f.county i)

-- ---- of a list; "A quorum is judged, and a choice made, .. by the grid its list was laid in"; "rows outside the list count for nothing here"
unfoldable pub list_quorum : Kind → Frame → Laid → (ℕ → Bool) → Bool
list_quorum kind f l s = levels kind l.mark f (has l.members) s

unfoldable pub list_choice : Kind → Frame → Laid → ℕ → ℕ → Bool
list_choice kind f l a i = levels_choice kind l.mark f (has l.members) a i
