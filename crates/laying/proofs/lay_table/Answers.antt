use mathlib.Core.Path.{◌≡◌, refl, sym, ◌∙◌, ap, ap₂}
use Prim.Native.Nat.{ℕ, ◌+◌, ◌*◌, ◌/◌, ◌<◌}
use native.Mathlib.Omega.{arith}
use lib.Dec.{eqb}
use lib.ListN.{length}
use Rattle.fields.specs.Layout.{body_length, stride}
use Rattle.laying.proofs.LaidLaws.{none-laid, all_laid, Turn, laid-fits, lent-zeros, laid-long, laid-turn, all-rows}
use Rattle.laying.proofs.NameLaws.{name-at, place_at}
use Rattle.octets.proofs.ByteLaws.{length-zeros}
use Rattle.counties.specs.Counties.{county_at}
use Rattle.counties.specs.Marks.{laid_now}
use Rattle.grouping.specs.Grouped.{county_by}
use Rattle.protocol.specs.Calls.{names_in, founded_list}
use Rattle.laying.proofs.lay_table.Goals.{After-laid_now-list, After-row_size-size, In-loop-i}
use Rattle.laying.proofs.lay_table.Goals as goal

-- the rows fill the table behind its header
rows_long : (c : After-row_size-size) → let a = c.args in 16 + a.capacity * c.row_size-size.result ≡ length a.t.now
rows_long c = omega (arith, ap (λ (x : ℕ). c.args.capacity * x) c.row_size-size.ensures, c.requires.0)

-- the list is that of all used rows, laid by their counties
list-is : (c : After-laid_now-list) → let a = c.args in c.laid_now-list.result ≡ founded_list a.choice a.counties.now (length a.names.now / 2)
unfolding founded_list
list-is c =
    c.laid_now-list.ensures
    ∙ ap₂ (laid_now (eqb c.args.choice 1)) (ap county_by c.new.ensures ∙ c.of_places-sets.ensures.1) (all-rows (length c.args.names.now / 2) c.first.result.bits (omega (arith, c.requires.3, c.requires.4, c.requires.5)) (omega arith) c.first.ensures)

turn : (l : In-loop-i) → let a = l.args in
    Turn a.capacity (length a.names.now / 2) l.laid_now-list.result a.files a.file (body_length a.files a.file) (names_in a.names.now) (county_at a.counties.now) l.loop-i.i l.loop-i.at l.row_size-size.result l.loop-i.t
unfolding stride
turn l =
    let p = l.requires in
    record { room = p.5.1; below = omega (arith, l.loop-i-test.true, p.4); wide = l.row_size-size.ensures; laid = l.loop-i.invariant.1 }

-- a county is at hand for the row
given : (l : In-loop-i) → l.loop-i.i < length l.args.counties.now
given l = let p = l.requires in omega (arith, l.loop-i-test.true, p.4, p.6)

pub of_places-sets-requires : goal.of_places-sets-requires
of_places-sets-requires c = let p = c.requires in (omega (arith, p.3, p.5, p.6), p.7)

pub new-requires : goal.new-requires
new-requires c = c.of_places-sets.ensures.0

pub row_size-size-requires : goal.row_size-size-requires
row_size-size-requires c = let p = c.requires in (p.1.1, p.2.1)

pub overflow_mul-at : goal.overflow_mul-at
overflow_mul-at c = omega (arith, rows_long (goal.at.overflow_mul-at c).After-row_size-size)

pub overflow_sub-at : goal.overflow_sub-at
overflow_sub-at c = omega (arith, rows_long (goal.at.overflow_sub-at c).After-row_size-size)

pub set_header-requires : goal.set_header-requires
set_header-requires c = omega (arith, c.fill.auto.s, c.requires.0)

pub loop-i-init : goal.loop-i-init
unfolding stride
loop-i-init c = (
  refl,
  none-laid _ _ _ _ _ _ _ _ _ c.args.t.now _ _ (omega (arith, rows_long (goal.at.loop-i-init c).After-row_size-size)) c.requires.0 c.requires.3 (omega (arith, c.requires.3, c.requires.4, c.requires.5)) c.fill.ensures c.set_header.ensures,
)

pub u16_at-x-requires : goal.u16_at-x-requires
u16_at-x-requires c = omega (arith, c.loop-i-test.true)

pub bounds-counties-i : goal.bounds-counties-i
bounds-counties-i c = omega (arith, given (goal.at.bounds-counties-i c).In-loop-i)

pub overflow_add-at : goal.overflow_add-at
overflow_add-at c = omega (arith, laid-fits (turn (goal.at.overflow_add-at c).In-loop-i))

pub slice_bounds-found_row-end : goal.slice_bounds-found_row-end
slice_bounds-found_row-end c = omega (arith, laid-fits (turn (goal.at.slice_bounds-found_row-end c).In-loop-i))

pub next_row-requires : goal.next_row-requires
next_row-requires c = (omega (arith, c.loop-i-test.true), omega (arith, c.requires.3, c.requires.4, c.requires.5))

pub found_row-requires : goal.found_row-requires
found_row-requires c =
    omega (arith, ap length (lent-zeros (turn (goal.at.found_row-requires c).In-loop-i)), length-zeros (32 + (let a = c.args in body_length a.files a.file)))

pub overflow_add-at-in-loop-i : goal.overflow_add-at-in-loop-i
overflow_add-at-in-loop-i c = omega (arith, laid-fits (turn (goal.at.overflow_add-at-in-loop-i c).In-loop-i))

pub loop-i-preserved : goal.loop-i-preserved
loop-i-preserved c =
    let k = c.loop-i.i in
    let row = c.found_row in (
      laid-long (turn (goal.at.loop-i-preserved c).In-loop-i) row.new.row row.auto.row ∙ c.loop-i.invariant.0,
      laid-turn (turn (goal.at.loop-i-preserved c).In-loop-i) _ _ _ _ row.ensures (c.u16_at-x.ensures ∙ name-at _ _ (omega (arith, c.loop-i-test.true)))
          (sym (place_at k c.args.counties.now (given (goal.at.loop-i-preserved c).In-loop-i))) (omega arith) (omega (arith, c.requires.7 k (given (goal.at.loop-i-preserved c).In-loop-i))) c.next_row.ensures,
    )

pub shape_of-t : goal.shape_of-t
shape_of-t c = c.loop-i.invariant.0 ∙ c.set_header.auto.t ∙ c.fill.auto.s

pub returns : goal.returns
returns c =
    let l = c.loop-i in
    let e : l.i ≡ length c.args.names.now / 2 = omega arith in
    all_laid _ _ _ _ _ _ _ _ _ _ _ _ refl (list-is (goal.at.returns c).After-laid_now-list) (omega (arith, c.requires.4)) (omega (arith, c.requires.4)) (rw e at l.invariant.1)
