use mathlib.Core.Path.{◌≡◌}
use Prim.Native.Nat.{◌-◌, ◌*◌}
use native.Mathlib.Omega.{arith}
use Rattle.columns.proofs.ColumnLaws.{no-row}
use Rattle.columns.proofs.ShiftLaws.{shift-more, row-less, some-row}
use Rattle.columns.proofs.columns_above.Goals as goal

pub loop-row-init : goal.loop-row-init
loop-row-init c =
    let f = c.requires.0 in
    let n = c.args.g.cols in
    (some-row _ _ f, f.tight, rw c.first.ensures (no-row n _ (omega (arith, f.narrow)) _ (omega (arith, f.room))))

pub with_first-c-requires : goal.with_first-c-requires
with_first-c-requires c =
    let l = c.loop-row in
    let a = c.args in
    let n = a.g.cols in
    let less = row-less l.row n (omega arith) in
    let rows : a.length - (l.row - 1) * n - n ≡ a.length - l.row * n = omega (arith, less) in
    (omega (arith, c.requires.0.narrow), omega arith, rw (rows, shift-more a.set ((l.row - 1) * n) n, less) l.invariant.2)
