use mathlib.Core.Path.{sym, subst}
use mathlib.Core.List.{List}
use Prim.Native.Nat.{ℕ, ◌+◌, ◌-◌, ◌*◌, ◌≤◌}
use native.Mathlib.Omega.{arith}
use lib.ListN.{length}
use Rattle.window.specs.Windows.{window_of}
use Rattle.windows.specs.Visits.{RightFor}
use Rattle.table.proofs.CopyLaws.{copy-inside, copy-lent, copy-long, copy-back}
use Rattle.store.proofs.write_row.Goals.{Start}
use Rattle.store.proofs.write_row.Goals as goal

-- the copy ends within the row
inside : (c : Start) → 32 + (c.args.q - 1) * c.args.size + c.args.size ≤ length c.args.row.now
inside c = copy-inside c.args.row.now c.args.size c.args.q c.requires.0 c.requires.1

pub overflow_mul-at : goal.overflow_mul-at
overflow_mul-at c = omega (arith, inside (goal.at.overflow_mul-at c).Start)

pub overflow_add-at : goal.overflow_add-at
overflow_add-at c = omega (arith, inside (goal.at.overflow_add-at c).Start)

pub overflow_add-at-2 : goal.overflow_add-at-2
overflow_add-at-2 c = omega (arith, inside (goal.at.overflow_add-at-2 c).Start)

pub slice_bounds-write_copy-end : goal.slice_bounds-write_copy-end
slice_bounds-write_copy-end c = inside (goal.at.slice_bounds-write_copy-end c).Start

pub write_copy-requires : goal.write_copy-requires
write_copy-requires c =
    let a = c.args in (
      omega (arith, copy-long a.row.now a.size a.q c.requires.0 (inside (goal.at.write_copy-requires c).Start), c.requires.2),
      subst (λ (copy : List ℕ). (file : ℕ) × RightFor file (window_of copy)) (sym (copy-lent a.row.now a.size a.q c.requires.0 (inside (goal.at.write_copy-requires c).Start))) c.requires.3,
    )

pub returns : goal.returns
returns c =
    let a = c.args in
    copy-back a.row.now a.size a.q c.requires.0 (inside (goal.at.returns c).Start) _ _ c.write_copy.auto.copy c.write_copy.ensures
