-- The lines of specs/Shown hold: by computing the definitions. And a sheet that lets a club write.
use mathlib.Core.Path.{◌≡◌, refl}
use mathlib.Core.Bool.{Bool, true, ◌&&◌}
use mathlib.Core.List.{List, [], ◌∷◌}
use Prim.Native.Nat.{ℕ, ◌-◌}
use lib.Dec.{eqb}
use lib.ListN.{length, get_or}
use borrow.Author.Tests.{eqb-true}
use Rattle.bools.proofs.BoolLaws.{and_l, and_r}
use Rattle.sets.specs.Upto.{every}
use Rattle.sets.proofs.UptoLaws.{every-at}
use Rattle.blocks.specs.Blocks.{block, with_block, with_blocks}
use Rattle.octets.specs.Bytes.{number, bytes_of, part, put, zeros}
use Rattle.fields.specs.Layout.{get, store}
use Rattle.asking.specs.Asking.{first_no}
use Rattle.quorums.proofs.StarredLaws.{all_pass, each_of, same, same-is}
use Rattle.sheet.specs.Sheet.{sum, line_of, assured, ceiling, counting, total, assured_of, ceiling_of, count_of, total_of, all_assured, remainder, all_beyond, line_right, sheet_right, is_club, by_club, counted, cleared}
use Rattle.sheet.specs.Shown.{club, lines_of, sheet_of, last_only, Line, Right, Asked, Same, Says, three, right_lines, asked_lines, left_lines, ShownHold}

-- a test of a line, which tells what the line says
line_holds : Line → Bool
line_holds (Right sheet answer) = same (sheet_right sheet) answer
line_holds (Asked sheet x refusal) = sheet_right sheet && eqb (first_no (by_club sheet x [])) refusal
line_holds (Same one other) = eqb (length one) (length other) && every 196 (λ k. eqb (get_or one (k - 1) 0) (get_or other (k - 1) 0))

line-says : (l : Line) → line_holds l ≡ true → Says l
unfolding line_holds Says
line-says (Right sheet answer) h = same-is _ answer h
line-says (Asked sheet x refusal) h = (and_l _ _ h, eqb-true _ refusal (and_r (sheet_right sheet) _ h))
line-says (Same one other) h = (eqb-true _ _ (and_l _ _ h), λ k w. eqb-true _ _ (every-at 196 _ (and_r (eqb (length one) (length other)) _ h) k w))

right-computed : all_pass line_holds right_lines ≡ true
unfolding all_pass line_holds right_lines three lines_of sheet_of last_only same every block number bytes_of part zeros get sum line_of assured ceiling counting total assured_of ceiling_of count_of total_of all_assured remainder all_beyond line_right sheet_right
right-computed = refl

asked-computed : all_pass line_holds asked_lines ≡ true
unfolding all_pass line_holds asked_lines three lines_of sheet_of every block with_block with_blocks number bytes_of part put zeros get store first_no sum line_of assured ceiling counting total assured_of ceiling_of count_of total_of all_assured remainder all_beyond line_right sheet_right is_club by_club counted cleared
asked-computed = refl

left-computed : all_pass line_holds left_lines ≡ true
unfolding all_pass line_holds left_lines three lines_of sheet_of last_only every block with_block with_blocks number bytes_of part put zeros get store counting counted cleared
left-computed = refl

pub shown-hold : ShownHold
unfolding ShownHold right_lines asked_lines left_lines
shown-hold = ((refl, each_of Says line_holds line-says right_lines right-computed), (refl, each_of Says line_holds line-says asked_lines asked-computed), (refl, each_of Says line_holds line-says left_lines left-computed))

-- ---- a sheet by which club 1 may write as often as there are writes
unfoldable pub open_sheet : List ℕ
open_sheet = sheet_of (club 0 1_000_000 0 ∷ []) 1_000_000

pub open-right : sheet_right open_sheet ≡ true
unfolding open_sheet lines_of sheet_of every block number bytes_of part zeros get sum line_of assured ceiling counting total assured_of ceiling_of count_of total_of all_assured remainder all_beyond line_right sheet_right
open-right = refl

pub open-asks : first_no (by_club open_sheet 1 []) ≡ 0
unfolding open_sheet lines_of sheet_of block number bytes_of part zeros get first_no sum line_of assured ceiling counting total assured_of ceiling_of count_of total_of all_assured remainder all_beyond is_club by_club
open-asks = refl
