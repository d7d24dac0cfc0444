-- Lists of more than one county, computed from both sides: their marks, their quorums, the rows that they cannot do without, their choices.
use Rattle.std.specs.Prelude.{◌≡◌, Bool, true, false, not, List, [], ◌∷◌, ℕ, ◌-◌, ◌^◌, length}
use Rattle.sets.specs.Upto.{Within, upward, among}
use Rattle.sets.specs.Sets.{has, losing}
use Rattle.quorums.specs.declared.Kind.{Kind}
use Rattle.quorums.specs.declared.Kind.TheVariants.{Read, Write}
use Rattle.quorums.specs.Starred.{Each}
use Rattle.fields.specs.declared.Laid.{Laid}
use Rattle.counties.specs.Counties.{Frame, county_at, list_quorum, list_choice}
use Rattle.counties.specs.Marks.{laid_now}

-- rows 1 upward in this order, row i in the county at place i
unfoldable pub rows_in : List ℕ → Frame
rows_in places = record { order = upward (length places) 1; county = county_at places }

-- all of them as one list, laid now in a tall table or in a wide one
unfoldable pub all_laid : Bool → List ℕ → Laid
all_laid tall places = laid_now tall (rows_in places).county (2 ^ length places - 1)

pub data Line : Type 0 where
  -- the list has this mark
  Mark : (tall : Bool) (places : List ℕ) (mark : ℕ) → Line
  -- these rows are a quorum of the kind, or are not
  Quorum : (tall : Bool) (places rows : List ℕ) (kind : Kind) (answer : Bool) → Line
  -- without these rows, and without no other, all the rest are no quorum of the kind
  Needed : (tall : Bool) (places : List ℕ) (kind : Kind) (rows : List ℕ) → Line
  -- the choice of the name a is these rows
  Choice : (tall : Bool) (places : List ℕ) (kind : Kind) (a : ℕ) (rows : List ℕ) → Line

-- what a line says
unfoldable pub Says : Line → Type 0
Says (Mark tall places mark) = (all_laid tall places).mark ≡ mark
Says (Quorum tall places rows kind answer) = list_quorum kind (rows_in places) (all_laid tall places) (among rows) ≡ answer
Says (Needed tall places kind rows) = (i : ℕ) → Within (length places) i
    → list_quorum kind (rows_in places) (all_laid tall places) (losing (has (all_laid tall places).members) i) ≡ not (among rows i)
Says (Choice tall places kind a rows) = (i : ℕ) → Within (length places) i → list_choice kind (rows_in places) (all_laid tall places) a i ≡ among rows i

-- three machines of county 1 and one of county 2; four and one
unfoldable pub three_and_one : List ℕ
three_and_one = 1 ∷ 1 ∷ 1 ∷ 2 ∷ []

unfoldable pub four_and_one : List ℕ
four_and_one = 1 ∷ 1 ∷ 1 ∷ 1 ∷ 2 ∷ []

-- two counties of two, and of four
unfoldable pub two_and_two : List ℕ
two_and_two = 1 ∷ 1 ∷ 2 ∷ 2 ∷ []

unfoldable pub four_and_four : List ℕ
four_and_four = 1 ∷ 1 ∷ 1 ∷ 1 ∷ 2 ∷ 2 ∷ 2 ∷ 2 ∷ []

-- three counties, the second of four
unfoldable pub one_four_one : List ℕ
one_four_one = 1 ∷ 2 ∷ 2 ∷ 2 ∷ 2 ∷ 3 ∷ []

-- four counties of one, falling along the chain
unfoldable pub four_of_one : List ℕ
four_of_one = 8 ∷ 5 ∷ 3 ∷ 1 ∷ []

-- five on the level above; five on each below
unfoldable pub five_of_one : List ℕ
five_of_one = 1 ∷ 2 ∷ 3 ∷ 4 ∷ 5 ∷ []

unfoldable pub two_of_five : List ℕ
two_of_five = 1 ∷ 2 ∷ 1 ∷ 2 ∷ 1 ∷ 2 ∷ 1 ∷ 2 ∷ 1 ∷ 2 ∷ []

-- ---- marks
unfoldable pub mark_lines : List Line
mark_lines =
    Mark false three_and_one 3
    ∷ Mark true three_and_one 2
    ∷ Mark false five_of_one 3
    ∷ Mark true five_of_one 2
    -- within one county as before
    ∷ Mark false (4 ∷ 4 ∷ 4 ∷ 4 ∷ 4 ∷ []) 1
    ∷ Mark false (4 ∷ 4 ∷ 4 ∷ 4 ∷ []) 0
    ∷ Mark true (4 ∷ 4 ∷ 4 ∷ 4 ∷ 4 ∷ []) 2
    ∷ []

-- ---- quorums
unfoldable pub quorum_lines : List Line
quorum_lines =
    Quorum false three_and_one (1 ∷ 2 ∷ 4 ∷ []) Write true
    ∷ Quorum false three_and_one (2 ∷ 3 ∷ 4 ∷ []) Read true
    ∷ Quorum false three_and_one (1 ∷ 2 ∷ 3 ∷ []) Read false
    ∷ Quorum false three_and_one (1 ∷ 3 ∷ 4 ∷ []) Read false
    ∷ Quorum false three_and_one (2 ∷ 4 ∷ []) Read false
    -- in a tall table either county reads
    ∷ Quorum true three_and_one (4 ∷ []) Read true
    ∷ Quorum true three_and_one (4 ∷ []) Write false
    ∷ Quorum true three_and_one (1 ∷ 2 ∷ []) Read true
    ∷ Quorum true two_and_two (2 ∷ []) Read true
    ∷ Quorum true two_and_two (1 ∷ 3 ∷ []) Write false
    ∷ Quorum true two_and_two (1 ∷ 2 ∷ 3 ∷ 4 ∷ []) Write true
    -- two counties of two: a wide table reads by all four
    ∷ Quorum false two_and_two (1 ∷ 2 ∷ 3 ∷ 4 ∷ []) Write true
    -- counties 1, 3 | 5, 8 above: rows 4, 3 | 2, 1
    ∷ Quorum false four_of_one (4 ∷ 3 ∷ []) Read true
    ∷ Quorum false four_of_one (4 ∷ 2 ∷ []) Read false
    ∷ Quorum false four_of_one (4 ∷ 2 ∷ 1 ∷ []) Write true
    ∷ Quorum false four_of_one (4 ∷ 3 ∷ []) Write false
    -- five above: 1, 2 | 3, 4 | 5
    ∷ Quorum false five_of_one (1 ∷ 2 ∷ []) Read true
    ∷ Quorum false five_of_one (1 ∷ 2 ∷ 4 ∷ []) Write true
    ∷ Quorum false five_of_one (1 ∷ 3 ∷ 5 ∷ []) Read false
    ∷ Quorum true five_of_one (1 ∷ 2 ∷ 4 ∷ []) Write true
    -- five within each: 1, 3 | 5, 7 | 9 and 2, 4 | 6, 8 | 10
    ∷ Quorum false two_of_five (1 ∷ 3 ∷ 2 ∷ 4 ∷ []) Read true
    ∷ Quorum false two_of_five (1 ∷ 5 ∷ 2 ∷ 4 ∷ []) Read false
    ∷ Quorum false two_of_five (1 ∷ 3 ∷ 7 ∷ 2 ∷ 4 ∷ 8 ∷ []) Write true
    ∷ Quorum false two_of_five (1 ∷ 3 ∷ 7 ∷ 2 ∷ 4 ∷ []) Write false
    ∷ []

-- ---- losses: what (d) and (e) say of one county is not so of several
unfoldable pub loss_lines : List Line
loss_lines =
    Needed false four_and_one Read (5 ∷ [])
    ∷ Needed true four_and_one Write (5 ∷ [])
    ∷ Needed false three_and_one Read (2 ∷ 4 ∷ [])
    ∷ Needed false two_and_two Read (1 ∷ 2 ∷ 3 ∷ 4 ∷ [])
    ∷ Needed true two_and_two Write (1 ∷ 2 ∷ 3 ∷ 4 ∷ [])
    -- two counties bear the loss of any one machine with four machines in each, three with four in the second, four with one in each
    ∷ Needed false four_and_four Write []
    ∷ Needed true four_and_four Write []
    ∷ Needed false (1 ∷ 1 ∷ 1 ∷ 2 ∷ 2 ∷ 2 ∷ 2 ∷ []) Write (2 ∷ [])
    ∷ Needed false one_four_one Write []
    ∷ Needed true one_four_one Write []
    ∷ Needed false (1 ∷ 2 ∷ 2 ∷ 2 ∷ 3 ∷ []) Write (3 ∷ [])
    ∷ Needed false four_of_one Write []
    ∷ Needed true four_of_one Write []
    ∷ Needed false (1 ∷ 2 ∷ 3 ∷ []) Write (2 ∷ [])
    ∷ []

-- ---- choices
unfoldable pub choice_lines : List Line
choice_lines =
    Choice false four_of_one Read 2 (4 ∷ 3 ∷ [])
    ∷ Choice false four_of_one Read 3 (2 ∷ 1 ∷ [])
    ∷ Choice false four_of_one Write 2 (4 ∷ 3 ∷ 2 ∷ [])
    ∷ Choice false two_of_five Read 1 (5 ∷ 7 ∷ 6 ∷ 8 ∷ [])
    -- a write takes a write's choice in every county that it chose
    ∷ Choice false two_of_five Write 1 (3 ∷ 5 ∷ 7 ∷ 4 ∷ 6 ∷ 8 ∷ [])
    ∷ Choice true two_of_five Read 1 (6 ∷ 8 ∷ [])
    ∷ Choice false three_and_one Write 1 (2 ∷ 3 ∷ 4 ∷ [])
    -- four machines, where m + n − 1 is 3 for a list of four within one county
    ∷ Choice false three_and_one Write 2 (1 ∷ 2 ∷ 3 ∷ 4 ∷ [])
    ∷ []

-- all 53 hold
unfoldable pub ShownHold : Type 0
ShownHold =
    ((length mark_lines ≡ 7) × Each Says mark_lines)
    × ((length quorum_lines ≡ 24) × Each Says quorum_lines)
    × ((length loss_lines ≡ 14) × Each Says loss_lines)
    × ((length choice_lines ≡ 8) × Each Says choice_lines)
