use mathlib.Core.Path.{◌≡◌, ◌∙◌, ap}
use Prim.Native.Nat.{ℕ, suc, ◌+◌, ◌-◌, ◌*◌}
use native.Mathlib.Omega.{arith}
use Rattle.blocks.specs.Blocks.{with_block}
use Rattle.fields.specs.Layout.{store, link}
use Rattle.admit.proofs.AdmitLaws.{row_ends, block_back}
use Rattle.admit.proofs.link_row.Goals.{Else-p-eq0}
use Rattle.admit.proofs.link_row.Goals as goal

-- row p ends where p rows end
ends : (c : Else-p-eq0) → let a = c.args in (a.p - 1) * a.size + a.size ≡ a.p * a.size
ends c = let a = c.args in row_ends a.p a.size (omega (arith, c.if-p-eq0.false))

pub returns-then-p-eq0 : goal.returns-then-p-eq0
unfolding with_block
returns-then-p-eq0 c = rw c.if-p-eq0.true

pub overflow_mul-at : goal.overflow_mul-at
overflow_mul-at c = omega (arith, ends c, c.requires.1)

pub overflow_add-at : goal.overflow_add-at
overflow_add-at c = omega (arith, ends c, c.requires.1)

pub overflow_add-at-2 : goal.overflow_add-at-2
overflow_add-at-2 c = omega (arith, ends c, c.requires.1)

pub slice_bounds-set_link-end : goal.slice_bounds-set_link-end
slice_bounds-set_link-end c = omega (arith, ends c, c.requires.1)

pub returns : goal.returns
returns c =
    let a = c.args in
    let n = c.set_link in
    let row : suc (a.p - 1) ≡ a.p = omega (arith, c.if-p-eq0.false) in
    block_back _ _ _ (store link a.next) _ (omega (arith, ends (goal.at.returns c).Else-p-eq0, c.requires.1)) n.auto.row n.ensures
    ∙ ap (λ (i : ℕ). with_block 16 a.size i (store link a.next) a.t.now) row
