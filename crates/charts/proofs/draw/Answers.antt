use mathlib.Core.Path.{◌≡◌, refl, ◌∙◌}
use Prim.Native.Nat.{◌*◌, ◌%◌, ◌^◌}
use native.Mathlib.Nat.{mul-mod_left}
use native.Mathlib.Omega.{arith}
use Rattle.sets.proofs.DigitLaws.{shl_one}
use Rattle.charts.proofs.TurnLaws.{block-fits, blocks-end, power-multiple, draw-start, draw-end}
use Rattle.charts.proofs.draw.Goals as goal

pub loop-row-init : goal.loop-row-init
loop-row-init c =
    let a = c.args in
    let s = draw-start a.g a.members a.list.now in
    let z : 0 * ((1 * 2 ^ a.g.cols) % 2 ^ 64) ≡ 0 = omega arith in
    (shl_one a.members (omega arith), shl_one a.g.cols (omega (arith, c.requires.0.narrow)), refl, rw z s.0, rw z s.1)

pub draw_row-at-requires : goal.draw_row-at-requires
draw_row-at-requires c =
    let l = c.loop-row in
    let fits = block-fits _ _ l.row c.loop-row-test.true in
    rw l.invariant.1
    (c.requires.0, c.requires.1, c.requires.2, omega arith, mul-mod_left l.row (2 ^ c.args.g.cols), (rw (l.invariant.1, l.invariant.0) at fits), (rw l.invariant.1 at l.invariant.3))

pub returns : goal.returns
returns c =
    let l = c.loop-row in
    let a = c.args in
    let whole = blocks-end ((1 * 2 ^ a.g.cols) % 2 ^ 64) ((1 * 2 ^ a.members) % 2 ^ 64) l.row (rw (l.invariant.1, l.invariant.0) (power-multiple a.g.cols a.members c.requires.0.narrow)) (omega (arith, c.loop-row-test.false)) in
    draw-end a.g a.members _ l.at (whole ∙ l.invariant.0) l.invariant.3 a.list.now _ l.invariant.4
