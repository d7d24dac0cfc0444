use mathlib.Core.Path.{◌≡◌, sym, subst, ◌∙◌, ap, ap₂}
use native.Mathlib.Omega.{arith}
use Prim.Native.Nat.{ℕ, ◌+◌, ◌<◌}
use Rattle.sets.specs.Upto.{Within}
use Rattle.fields.specs.Layout.{get, name, epoch, list, county, stride, used_of, row_length, row_bytes, name_of, epoch_of, list_of}
use Rattle.fields.proofs.FieldLaws.{stride-late}
use Rattle.table.proofs.WellFormedLaws.{header, few-rows, long}
use Rattle.grouping.specs.Grouped.{county_by}
use Rattle.straight.specs.Straight.{Placed, Settled}
use Rattle.straight.proofs.PassLaws.{Passed, none_passed, one-passed, grouped, straight}
use Rattle.straight.proofs.look.Goals.{After-loop-k, After-row_size-size, In-Some, In-loop-k}
use Rattle.straight.proofs.look.Goals as goal

-- rows are as long as was found
size_is : (c : After-row_size-size) → c.row_size-size.result ≡ row_length c.args.t.now
unfolding row_length
size_is c = c.row_size-size.ensures ∙ ap₂ stride c.files.ensures c.file_length.ensures ∙ sym (stride-late _ _ _ c.requires.1)

-- the row of this turn is a used one
turn : (c : In-loop-k) → Within (used_of c.args.t.now) (c.loop-k.k + 1) × (c.loop-k.k < 64)
turn c =
    let w : Within (used_of c.args.t.now) (c.loop-k.k + 1) = omega (arith, c.loop-k-test.true, c.used-used.ensures) in
    (w, omega (arith, w, few-rows c.requires.0))

-- and this is known of it
placed : (c : In-Some) → let t = c.args.t.now in
    Placed (used_of t) (c.loop-k.k + 1) (row_bytes t (c.loop-k.k + 1)) × (c.in-Some.county ≡ get county (row_bytes t (c.loop-k.k + 1)))
placed c =
    rw (c.used-used.ensures, c.row_at-row.ensures.0) at c.in-Some.ensures

pub first-requires : goal.first-requires
first-requires c = long c.requires.0

pub files-requires : goal.files-requires
files-requires c = long c.requires.0

pub file_length-requires : goal.file_length-requires
file_length-requires c = long c.requires.0

pub row_size-size-requires : goal.row_size-size-requires
row_size-size-requires c =
    let h = header c.requires.0.header in
    (omega (arith, c.files.ensures, h.files), omega (arith, c.file_length.ensures, h.file))

pub used-used-requires : goal.used-used-requires
used-used-requires c = long c.requires.0

pub row_at-first-requires : goal.row_at-first-requires
row_at-first-requires c = (c.requires.0, size_is (goal.at.row_at-first-requires c).After-row_size-size, omega (arith, (header c.requires.0.header).used))

pub loop-k-init : goal.loop-k-init
loop-k-init c = none_passed _ c.requires.0

pub row_at-row-requires : goal.row_at-row-requires
row_at-row-requires c = (c.requires.0, size_is (goal.at.row_at-row-requires c).After-row_size-size, (turn c).0)

pub county_of-requires : goal.county_of-requires
county_of-requires c =
    (omega (arith, (turn (goal.at.county_of-requires c).In-loop-k).0, c.used-used.ensures), omega (arith, c.used-used.ensures, few-rows c.requires.0), c.row_at-row.ensures.1)

pub put-requires : goal.put-requires
put-requires c = ((turn (goal.at.put-requires c).In-loop-k).1, omega (arith, (placed (goal.at.put-requires c).In-Some).0.placed, (placed (goal.at.put-requires c).In-Some).1))

pub other_with-requires : goal.other_with-requires
unfolding epoch_of list_of
other_with-requires c =
    (c.requires.0, size_is (goal.at.other_with-requires c).After-row_size-size, c.loop-k.invariant.second, (turn (goal.at.other_with-requires c).In-loop-k).0, c.epoch-first_epoch.ensures ∙ ap (get epoch) c.row_at-first.ensures.0, c.list-first_list.ensures ∙ ap list c.row_at-first.ensures.0)

pub loop-k-preserved : goal.loop-k-preserved
unfolding name_of
loop-k-preserved c =
    let l = c.loop-k in
    one-passed l.invariant (omega (arith, (turn (goal.at.loop-k-preserved c).In-loop-k).0)) _ _ c.name-name.result (c.name-name.ensures ∙ ap (get name) c.row_at-row.ensures.0) (omega (arith, c.if-name-low.false)) (omega arith)
    (placed (goal.at.loop-k-preserved c).In-Some).0 c.in-Some-other_with.ensures (c.put.ensures _ (sym (placed (goal.at.loop-k-preserved c).In-Some).1) l.invariant.filled)

-- all were passed
all-passed : (c : After-loop-k) → let t = c.args.t.now in
    Passed t c.loop-k.sets (used_of t) c.loop-k.other c.loop-k.low
all-passed c =
    let t = c.args.t.now in
    let e : c.loop-k.k ≡ used_of t = omega (arith, c.loop-k-test.false, c.loop-k.invariant.few, c.used-used.ensures) in
    subst (λ (n : ℕ). Passed t c.loop-k.sets n c.loop-k.other c.loop-k.low) e c.loop-k.invariant

pub new-requires : goal.new-requires
new-requires c = (grouped c.requires.0 (all-passed (goal.at.new-requires c).After-loop-k)).apart

pub lists_right-requires : goal.lists_right-requires
lists_right-requires c =
    (c.requires.0, size_is (goal.at.lists_right-requires c).After-row_size-size, c.used-used.ensures, omega (arith, c.loop-k.invariant.second, c.used-used.ensures))

pub returns : goal.returns
returns c =
    let p = all-passed (goal.at.returns c).After-loop-k in
    let g = grouped c.requires.0 p in
    λ e. (straight c.requires.0 p (omega (arith, c.first.ensures)) (subst (λ (y : ℕ → ℕ). Settled c.args.t.now y c.loop-k.other) (ap county_by c.new.ensures ∙ g.county) (c.lists_right.ensures e)), g)
