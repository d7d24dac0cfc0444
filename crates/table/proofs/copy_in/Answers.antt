use Rattle.table.proofs.CopyLaws.{copy-inside, copy-lent, copy-long}
use Prim.Native.Nat.{◌+◌, ◌-◌, ◌*◌, ◌≤◌}
use native.Mathlib.Omega.{arith}
use borrow.Author.Rules.{rules}
use lib.ListN.{length}
use Rattle.table.proofs.copy_in.Goals.{Start}
use Rattle.table.proofs.copy_in.Goals as goal

-- the copy ends within the row
inside : (c : Start) → 32 + (c.args.q - 1) * c.args.size + c.args.size ≤ length c.args.row.now
inside c = copy-inside c.args.row.now c.args.size c.args.q c.requires.0 c.requires.1

pub overflow_mul-start : goal.overflow_mul-start
overflow_mul-start c = omega (arith, inside c)

pub overflow_add-start : goal.overflow_add-start
overflow_add-start c = omega (arith, inside c)

pub overflow_add-end : goal.overflow_add-end
overflow_add-end c = omega (arith, inside c)

pub slice_bounds-result-end : goal.slice_bounds-result-end
slice_bounds-result-end c = inside c

pub returns : goal.returns
returns c =
    let a = c.args in
    let r = inside (goal.at.returns c).Start in
    (copy-lent a.row.now a.size a.q c.requires.0 r, copy-long a.row.now a.size a.q c.requires.0 r)
