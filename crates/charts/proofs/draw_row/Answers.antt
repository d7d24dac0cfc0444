use mathlib.Core.Path.{◌≡◌, sym, ◌∙◌}
use Prim.Native.Nat.{◌/◌, ◌^◌}
use native.Mathlib.Omega.{arith}
use Rattle.charts.proofs.TurnLaws.{same_block, draw-room, at_turn, list-turn}
use Rattle.charts.proofs.draw_row.Goals.{After-struct_known-1}
use Rattle.charts.proofs.draw_row.Goals as goal

pub is_smallest-wanted-requires : goal.is_smallest-wanted-requires
is_smallest-wanted-requires c =
    let l = c.loop-set in
    let e : l.set / 2 ^ c.args.g.cols ≡ c.args.start / 2 ^ c.args.g.cols = same_block _ _ l.set c.requires.4 (omega arith) (omega arith) in
    (c.requires.0, omega arith, rw e c.columns_above-above.ensures)

pub enter-at-requires : goal.enter-at-requires
enter-at-requires c w =
    let l = c.loop-set in
    omega (arith, draw-room c.args.g c.args.members l.set l.at l.invariant.2 c.requires.2 (omega (arith, c.requires.5)) (sym c.is_smallest-wanted.ensures ∙ w))

pub loop-set-preserved : goal.loop-set-preserved
loop-set-preserved c =
    let e = c.enter-at in
    let w = c.is_smallest-wanted.ensures in
    let l = c.loop-set in
    let a = c.args in (
      l.invariant.0,
      e.auto.list ∙ l.invariant.1,
      e.ensures.0 ∙ at_turn a.g a.members l.set l.at l.invariant.2 _ w,
      λ xs q. e.ensures.1 ∙ list-turn a.g a.members l.set l.at l.invariant.2 _ w xs l.list (l.invariant.3 xs q),
    )
