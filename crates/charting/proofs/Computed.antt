-- The charts computed: how many numbers they have, what some of them are, and the calls' answers.
use mathlib.Core.Path.{◌≡◌, refl}
use mathlib.Core.Bool.{Bool, true, not, ◌&&◌, ◌||◌, and-false}
use Prim.Native.Nat.{ℕ, ◌+◌, ◌-◌, ◌≤◌}
use native.Mathlib.Omega.{arith}
use lib.Dec.{leb, eqb}
use lib.ListN.{length, replicate}
use borrow.Author.Tests.{leb-true, eqb-true}
use Rattle.bools.proofs.BoolLaws.{and_l, and_r}
use Rattle.sets.specs.Upto.{Within, every, some, upward, keep}
use Rattle.sets.specs.Sets.{has, losing}
use Rattle.sets.proofs.UptoLaws.{every-at}
use Rattle.grid.specs.Sizes.{root, root_up, published, new_five, exchanged, grid_by, mark_fits, column_of}
use Rattle.grid.proofs.SizeLaws.{mark-low}
use Rattle.quorums.specs.Quorums.{touches, covers, read_quorum, write_quorum, quorum}
use Rattle.quorums.proofs.StarredLaws.{all_pass, each_of}
use Rattle.octets.specs.Bytes.{bytes_of, put}
use Rattle.asking.specs.Asking.{first_no}
use Rattle.charting.specs.Charts.{smallest, chart, in_places, has_chart, places, chart_questions, charted}
use Rattle.charting.specs.Claims.{ThreeHasNoChart, PlacesSuffice, ChartsShown, ListShown, Case, Asked, Answered, cases, CasesHold}

-- ---- charts and calls
pub charts-shown : ChartsShown
unfolding ChartsShown chart smallest keep upward grid_by new_five exchanged root root_up published column_of every some has losing touches covers read_quorum write_quorum quorum
charts-shown = (refl, refl, refl, refl)

pub list-shown : ListShown
unfolding ListShown charted chart_questions first_no places has_chart mark_fits in_places bytes_of put chart smallest keep upward grid_by new_five exchanged root root_up published column_of every some has losing touches covers read_quorum write_quorum quorum
list-shown = refl

-- a test of each case, which tells what the case says
case_holds : Case → Bool
case_holds (Asked N mark bytes refusal value) = let o = charted N mark (replicate bytes 0) in eqb o.refusal refusal && eqb o.value value

case-says : (c : Case) → case_holds c ≡ true → Answered c
unfolding case_holds Answered
case-says (Asked N mark bytes refusal value) h = (eqb-true _ refusal (and_l _ _ h), eqb-true _ value (and_r (eqb (charted N mark (replicate bytes 0)).refusal refusal) _ h))

computed : all_pass case_holds cases ≡ true
unfolding all_pass case_holds cases charted chart_questions first_no places has_chart mark_fits in_places bytes_of put chart smallest keep upward grid_by new_five exchanged root root_up published column_of every some has losing touches covers read_quorum write_quorum quorum
computed = refl

pub cases-hold : CasesHold
unfolding CasesHold cases
cases-hold = (refl, each_of Answered case_holds case-says cases computed)

-- ---- no list within one county has mark 3
pub three-has-no-chart : ThreeHasNoChart
unfolding ThreeHasNoChart charted chart_questions first_no has_chart mark_fits
three-has-no-chart N list = rw (and-false (leb N 9), and-false (leb 1 N))

-- ---- no chart has more numbers than there are places: one test over the marks 0 to 2 and the lengths 1 to 9
roomy : ℕ → ℕ → Bool
roomy mark N = not (has_chart N mark) || leb (length (chart (grid_by mark N) N)) places

all-roomy : every 3 (λ m. every 9 (roomy (m - 1))) ≡ true
unfolding roomy places has_chart mark_fits chart smallest keep upward grid_by new_five exchanged root root_up published column_of every some has losing touches covers read_quorum write_quorum quorum
all-roomy = refl

pub chart-length : (N mark : ℕ) → has_chart N mark ≡ true → Within 9 N
unfolding has_chart
chart-length N mark e =
    let r : (leb N 9 && mark_fits mark N) ≡ true = and_r (leb 1 N) _ e in (leb-true 1 N (and_l _ _ e), leb-true N 9 (and_l _ _ r))

pub chart-mark : (N mark : ℕ) → has_chart N mark ≡ true → mark ≤ 2
unfolding has_chart
chart-mark N mark e = mark-low mark N (and_r (leb N 9) _ (and_r (leb 1 N) _ e))

pub places-suffice : PlacesSuffice
unfolding PlacesSuffice roomy
places-suffice N mark e =
    let m : mark + 1 - 1 ≡ mark = omega arith in
    let row = every-at 3 _ all-roomy (mark + 1) (omega (arith, chart-mark N mark e)) in
    let r : roomy mark N ≡ true = (rw m at (every-at 9 _ row N (chart-length N mark e))) in
    leb-true _ places (rw e at r)
