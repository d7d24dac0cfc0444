use Prim.Native.Nat.{◌+◌, ◌-◌, ◌*◌, ◌≤◌}
use native.Mathlib.Omega.{arith}
use lib.ListN.{length}
use Rattle.table.proofs.CopyLaws.{copy-inside, copy-back}
use Rattle.enroll.proofs.mark_other.Goals.{Start}
use Rattle.enroll.proofs.mark_other.Goals as goal

-- the copy ends within the row
inside : (c : Start) → 32 + (c.args.q - 1) * c.args.size + c.args.size ≤ length c.args.row.now
inside c = copy-inside c.args.row.now c.args.size c.args.q c.requires.0 c.requires.1

pub overflow_mul-at : goal.overflow_mul-at
overflow_mul-at c = omega (arith, inside (goal.at.overflow_mul-at c).Start)

pub overflow_add-at : goal.overflow_add-at
overflow_add-at c = omega (arith, inside (goal.at.overflow_add-at c).Start)

pub overflow_add-at-2 : goal.overflow_add-at-2
overflow_add-at-2 c = omega (arith, inside (goal.at.overflow_add-at-2 c).Start)

pub slice_bounds-mark_copy-end : goal.slice_bounds-mark_copy-end
slice_bounds-mark_copy-end c = inside (goal.at.slice_bounds-mark_copy-end c).Start

pub returns : goal.returns
returns c =
    let a = c.args in
    rw c.if-good.false (copy-back a.row.now a.size a.q c.requires.0 (inside (goal.at.returns c).Start) _ _ c.mark_copy.auto.copy c.mark_copy.ensures)
