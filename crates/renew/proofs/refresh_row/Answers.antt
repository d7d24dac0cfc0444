use mathlib.Core.Path.{sym, ◌∙◌, subst}
use Prim.Native.Nat.{ℕ, ◌+◌, ◌-◌, ◌*◌, ◌≤◌}
use native.Mathlib.Omega.{arith}
use lib.ListN.{length}
use Rattle.window.specs.Windows.{window_of}
use Rattle.windows.specs.Visits.{RightFor}
use Rattle.table.proofs.CopyLaws.{copy-inside, copy-long, copy-back}
use Rattle.renew.proofs.refresh_row.Goals.{Start}
use Rattle.renew.proofs.refresh_row.Goals as goal

-- the copy ends within the row
inside : (c : Start) → 32 + (c.args.q - 1) * c.args.size + c.args.size ≤ length c.args.row.now
inside c = copy-inside c.args.row.now c.args.size c.args.q c.requires.0 c.requires.1

pub overflow_mul-at : goal.overflow_mul-at
overflow_mul-at c = omega (arith, inside (goal.at.overflow_mul-at c).Start)

pub overflow_add-at : goal.overflow_add-at
overflow_add-at c = omega (arith, inside (goal.at.overflow_add-at c).Start)

pub overflow_add-at-2 : goal.overflow_add-at-2
overflow_add-at-2 c = omega (arith, inside (goal.at.overflow_add-at-2 c).Start)

pub slice_bounds-refresh_copy-end : goal.slice_bounds-refresh_copy-end
slice_bounds-refresh_copy-end c = inside (goal.at.slice_bounds-refresh_copy-end c).Start

pub refresh_copy-requires : goal.refresh_copy-requires
refresh_copy-requires c =
    let a = c.args in
    let n = copy-long a.row.now a.size a.q c.requires.0 (inside (goal.at.refresh_copy-requires c).Start) in
    (omega (arith, n, c.requires.2), n ∙ sym c.requires.3, subst (λ (k : ℕ). RightFor (k - 588) (window_of a.source.now)) (sym n) c.requires.4)

pub returns : goal.returns
returns c =
    let a = c.args in
    copy-back a.row.now a.size a.q c.requires.0 (inside (goal.at.returns c).Start) _ _ c.refresh_copy.auto.copy c.refresh_copy.ensures
