-- The lines of specs/Shown hold: by computing the definitions.
use mathlib.Core.Path.{◌≡◌, refl}
use mathlib.Core.Bool.{Bool, true, not}
use lib.Dec.{eqb}
use lib.ListN.{length}
use borrow.Author.Tests.{eqb-true}
use Rattle.sets.specs.Upto.{every, some, count, upward, keep, among}
use Rattle.sets.specs.Sets.{has, losing}
use Rattle.sets.proofs.UptoLaws.{every-at}
use Rattle.grid.specs.Sizes.{root, root_up, published, new_five, exchanged, grid_by, new_mark, spare, row_of, column_of, height}
use Rattle.quorums.specs.Quorums.{touches, covers, read_quorum, write_quorum, quorum, is_position, read_choice, write_choice, choice}
use Rattle.quorums.proofs.StarredLaws.{all_pass, each_of, same, same-is}
use Rattle.counties.specs.Levels.{seats, at_seat, level, level_choice}
use Rattle.counties.specs.Counties.{county_at, counties, in_county, has_members, several, levels, levels_choice, list_quorum, list_choice}
use Rattle.counties.specs.Marks.{mark_now, laid_now}
use Rattle.counties.specs.Shown.{rows_in, all_laid, Line, Mark, Quorum, Needed, Choice, Says, three_and_one, four_and_one, two_and_two, four_and_four, one_four_one, four_of_one, five_of_one, two_of_five, mark_lines, quorum_lines, loss_lines, choice_lines, ShownHold}

-- a test of a line, which tells what the line says
line_holds : Line → Bool
line_holds (Mark tall places mark) = eqb (all_laid tall places).mark mark
line_holds (Quorum tall places rows kind answer) = same (list_quorum kind (rows_in places) (all_laid tall places) (among rows)) answer
line_holds (Needed tall places kind rows) = every (length places) (λ i. same (list_quorum kind (rows_in places) (all_laid tall places) (losing (has (all_laid tall places).members) i)) (not (among rows i)))
line_holds (Choice tall places kind a rows) = every (length places) (λ i. same (list_choice kind (rows_in places) (all_laid tall places) a i) (among rows i))

line-says : (l : Line) → line_holds l ≡ true → Says l
unfolding line_holds Says
line-says (Mark tall places mark) h = eqb-true _ mark h
line-says (Quorum tall places rows kind answer) h = same-is _ answer h
line-says (Needed tall places kind rows) h = λ i w. same-is _ (not (among rows i)) (every-at (length places) _ h i w)
line-says (Choice tall places kind a rows) h = λ i w. same-is _ (among rows i) (every-at (length places) _ h i w)

marks-computed : all_pass line_holds mark_lines ≡ true
unfolding all_pass line_holds mark_lines rows_in county_at all_laid three_and_one five_of_one in_county has_members several mark_now laid_now some count has new_mark
marks-computed = refl

quorums-computed : all_pass line_holds quorum_lines ≡ true
unfolding all_pass line_holds quorum_lines rows_in county_at all_laid three_and_one two_and_two four_of_one five_of_one two_of_five same list_quorum levels counties in_county has_members several mark_now laid_now seats at_seat level
    upward keep among every some count has root root_up published new_five exchanged grid_by new_mark column_of touches covers read_quorum write_quorum quorum
quorums-computed = refl

losses-computed : all_pass line_holds loss_lines ≡ true
unfolding all_pass line_holds loss_lines rows_in county_at all_laid three_and_one four_and_one two_and_two four_and_four one_four_one four_of_one five_of_one same list_quorum levels counties in_county has_members several mark_now laid_now seats at_seat level
    upward keep among losing every some count has root root_up published new_five exchanged grid_by new_mark column_of touches covers read_quorum write_quorum quorum
losses-computed = refl

choices-computed : all_pass line_holds choice_lines ≡ true
unfolding all_pass line_holds choice_lines rows_in county_at all_laid three_and_one four_of_one two_of_five same list_choice levels_choice counties in_county has_members several mark_now laid_now seats at_seat level_choice
    upward keep among every some count has root root_up published new_five exchanged grid_by new_mark spare row_of column_of height is_position read_choice write_choice choice
choices-computed = refl

pub shown-hold : ShownHold
unfolding ShownHold mark_lines quorum_lines loss_lines choice_lines
shown-hold = (
  (refl, each_of Says line_holds line-says mark_lines marks-computed),
  (refl, each_of Says line_holds line-says quorum_lines quorums-computed),
  (refl, each_of Says line_holds line-says loss_lines losses-computed),
  (refl, each_of Says line_holds line-says choice_lines choices-computed),
)
