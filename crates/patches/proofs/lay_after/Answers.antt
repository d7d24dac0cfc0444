use mathlib.Core.Path.{◌∙◌, ap}
use mathlib.Core.Bool.{cond}
use mathlib.Core.List.{List, [], ◌∷◌}
use native.Mathlib.Omega.{arith}
use Prim.Native.Nat.{ℕ, ◌-◌, ◌*◌}
use lib.Dec.{leb}
use Rattle.sets.specs.Upto.{Within}
use Rattle.octets.proofs.CodeLaws.{part_length}
use Rattle.window.specs.Windows.{width, patch_in, record_of, next, record_right, laid}
use Rattle.windows.specs.Visits.{window}
use Rattle.patches.proofs.RecordLaws.{cut_record}
use Rattle.patches.proofs.LayLaws.{laying-none, to-within, to-right, count_less, laying-more, laying-all}
use Rattle.patches.proofs.lay_after.Goals.{In-loop-next}
use Rattle.patches.proofs.lay_after.Goals as goal

-- the record at hand is one of the 16
within : (c : In-loop-next) → Within 16 c.loop-next.next
unfolding window
within c = to-within c.args.w.whole c.requires c.loop-next.invariant (omega (arith, c.loop-next-test.true))

pub loop-next-init : goal.loop-next-init
unfolding window
loop-next-init c = laying-none (window _ _) _ _

pub overflow_sub-at : goal.overflow_sub-at
overflow_sub-at c = omega (arith, within c)

pub overflow_mul-at : goal.overflow_mul-at
overflow_mul-at c = omega (arith, within c)

pub overflow_add-at : goal.overflow_add-at
overflow_add-at c = omega (arith, within (goal.at.overflow_add-at c).In-loop-next)

pub slice_bounds-lay_where-end : goal.slice_bounds-lay_where-end
slice_bounds-lay_where-end c = omega (arith, within (goal.at.slice_bounds-lay_where-end c).In-loop-next, c.args.w.whole)

pub lay_where-requires : goal.lay_where-requires
unfolding window record_of width
lay_where-requires c =
    let v = within (goal.at.lay_where-requires c).In-loop-next in (
      part_length ((c.loop-next.next - 1) * 36) 36 c.args.w.records.now (omega (arith, v, c.args.w.whole)),
      ap (record_right _) (cut_record c.args.w.records.now c.loop-next.next v.0) ∙ to-right c.args.w.whole c.requires c.loop-next.invariant v.0,
    )

pub next_of-next-requires : goal.next_of-next-requires
next_of-next-requires c = within (goal.at.next_of-next-requires c).In-loop-next

pub overflow_add-count : goal.overflow_add-count
unfolding window
overflow_add-count c = omega (arith, c.loop-next.invariant.few)

pub loop-next-smaller : goal.loop-next-smaller
unfolding window
loop-next-smaller c =
    omega (arith, count_less c.args.w.whole c.requires c.loop-next.invariant (within (goal.at.loop-next-smaller c).In-loop-next).0)

pub loop-next-preserved : goal.loop-next-preserved
unfolding window next record_of width
loop-next-preserved c =
    let v = within (goal.at.loop-next-preserved c).In-loop-next in
    laying-more c.args.w.whole c.requires c.loop-next.invariant c.next_of-next.result _ v.0 c.next_of-next.ensures
    (c.lay_where.ensures ∙ ap (λ (r : List ℕ). cond (leb c.args.skip c.loop-next.count) (laid (patch_in r ∷ []) c.loop-next.contents) c.loop-next.contents) (cut_record c.args.w.records.now c.loop-next.next v.0))
    c.lay_where.auto.contents

pub shape_of-contents : goal.shape_of-contents
unfolding window
shape_of-contents c = c.loop-next.invariant.sized

pub returns : goal.returns
unfolding window
returns c = laying-all c.args.w.whole c.requires c.loop-next.invariant (omega (arith, c.loop-next-test.false))
