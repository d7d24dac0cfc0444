use mathlib.Core.Path.{◌≡◌, refl, sym, ◌∙◌, ap}
use mathlib.Core.Bool.{true}
use Prim.Native.Nat.{ℕ, ◌≤◌}
use native.Mathlib.Omega.{arith}
use borrow.Author.Tests.{le-leb}
use lib.ListN.{length}
use Rattle.grid.specs.declared.Grid.{Grid}
use Rattle.grid.specs.Sizes.{grid_by}
use Rattle.grid.proofs.SizeLaws.{laid-fits}
use Rattle.octets.specs.Bytes.{put}
use Rattle.asking.specs.Asking.{result_number}
use Rattle.charting.specs.Charts.{chart, in_places, has_chart, places, Charted}
use Rattle.charting.specs.Claims.{PlacesSuffice}
use Rattle.charting.proofs.Computed.{chart-length, chart-mark, places-suffice}
use Rattle.charting.proofs.ChartLaws.{charted-17, charted-5, charted-done}
use Rattle.charts.proofs.chart.Goals.{After-of_mark-g, Else-not-has_chart}
use Rattle.charts.proofs.chart.Goals as goal

-- result and list, by what the call leaves
leaves : {o x : Charted} {r : ℕ} → o ≡ x → r ≡ result_number x.refusal x.value → (r ≡ result_number o.refusal o.value) × (x.list ≡ o.list)
leaves e q = (q ∙ sym (ap (λ (y : Charted). result_number y.refusal y.value) e), sym (ap (λ (y : Charted). y.list) e))

-- question 17 is yes
there-is : (c : Else-not-has_chart) → let a = c.args in has_chart a.length a.mark ≡ true
there-is c = sym c.has_chart.ensures ∙ c.if-not-has_chart.false

-- so the grid is that of the mark, and its chart has a place for each number
the-grid : (c : After-of_mark-g) → let a = c.args in has_chart a.length a.mark ≡ true → c.of_mark-g.result ≡ grid_by a.mark a.length
the-grid c there =
    let a = c.args in
    c.of_mark-g.ensures ∙ rw (le-leb a.length 64 (omega (arith, chart-length a.length a.mark there)))

few : (c : After-of_mark-g) → let a = c.args in has_chart a.length a.mark ≡ true → length (chart c.of_mark-g.result a.length) ≤ 64
unfolding PlacesSuffice places
few c there = let a = c.args in rw (the-grid c there) (places-suffice a.length a.mark there)

pub returns-then-not-has_chart : goal.returns-then-not-has_chart
returns-then-not-has_chart c =
    let a = c.args in
    leaves (charted-17 a.length a.mark a.list.now (sym c.has_chart.ensures ∙ c.if-not-has_chart.true)) refl

pub returns-then-list-lt128 : goal.returns-then-list-lt128
returns-then-list-lt128 c =
    let a = c.args in
    leaves (charted-5 a.length a.mark a.list.now (there-is (goal.at.returns-then-list-lt128 c).Else-not-has_chart) (omega arith)) refl

pub overflow_cast-mark : goal.overflow_cast-mark
overflow_cast-mark c = let a = c.args in omega (arith, chart-mark a.length a.mark (there-is (goal.at.overflow_cast-mark c).Else-not-has_chart))

pub draw-requires : goal.draw-requires
draw-requires c =
    let a = c.args in
    let s = goal.at.draw-requires c in
    let there = there-is s.Else-not-has_chart in
    let l = chart-length a.length a.mark there in
    (rw (the-grid s.After-of_mark-g there) (laid-fits a.mark a.length l.0), l.1, few s.After-of_mark-g there, omega arith)

pub overflow_cast-result : goal.overflow_cast-result
overflow_cast-result c = let s = goal.at.overflow_cast-result c in omega (arith, c.draw.ensures.0, few s.After-of_mark-g (there-is s.Else-not-has_chart))

pub returns : goal.returns
returns c =
    let d = c.draw in
    let s = goal.at.returns c in
    let there = there-is s.Else-not-has_chart in
    let g = the-grid s.After-of_mark-g there in
    let a = c.args in
    let t = leaves (charted-done a.length a.mark a.list.now there (omega arith))
    (ap (result_number 0) (d.ensures.0 ∙ ap (λ (x : Grid). length (chart x a.length)) g)) in
    (t.0, d.ensures.1 ∙ ap (λ (x : Grid). put 0 (in_places (chart x a.length)) a.list.now) g ∙ t.1)
