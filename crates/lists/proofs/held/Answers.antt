use mathlib.Core.Path.{◌≡◌, sym, ap, ◌∙◌}
use mathlib.Core.List.{List, []}
use Prim.Native.Nat.{ℕ, suc, ◌+◌, ◌-◌, ◌≤◌, ◌<◌}
use native.Mathlib.Nat.{lt_of_lt_of_le}
use lib.Pow.{pow_mono}
use native.Mathlib.Omega.{arith}
use lib.ListN.{length, get_or, drop}
use lib.Seq.{drop-length}
use Rattle.lists.proofs.SeatLaws.{row-place, held_next, held-few, none-held}
use Rattle.counties.specs.Levels.{seats, at_seat}
use Rattle.sets.proofs.SetLaws.{has-empty}
use Rattle.sets.specs.Upto.{keep}
use Rattle.sets.specs.Sets.{has}
use Rattle.lists.proofs.held.Goals as goal

pub loop-j-init : goal.loop-j-init
unfolding seats keep
loop-j-init c =
    let chain = c.args.chain.now in
    let z : length chain - c.len-j.result ≡ 0 = omega arith in
    let none : drop c.len-j.result chain ≡ [] = ap (λ (m : ℕ). drop m chain) c.len-j.ensures.length ∙ drop-length chain in
    (rw z (omega arith), has-empty ∙ none-held (has c.args.set.bits) ∙ ap (λ (xs : List ℕ). at_seat (seats xs (has c.args.members.bits)) (has c.args.set.bits)) (sym none))

pub pushed-positions-requires : goal.pushed-positions-requires
pushed-positions-requires c =
    let few : length c.args.chain.now - c.loop-j.j ≤ 63 = omega (arith, c.loop-j-test.true) in
    lt_of_lt_of_le c.loop-j.invariant.0 (pow_mono few)

pub loop-j-preserved : goal.loop-j-preserved
loop-j-preserved c =
    let l = c.loop-j in
    let chain = c.args.chain.now in
    let j = l.j - 1 in
    let back : j + 1 ≡ l.j = omega (arith, c.loop-j-test.true) in
    let inside : j < length chain = omega (arith, c.loop-j-test.true) in
    let w = c.len-j.ensures.each j inside in
    let row = row-place c.place_at-place.result (get_or chain j 0) c.place_at-place.ensures (omega arith) in
    let more : length chain - j ≡ suc (length chain - l.j) = omega (arith, c.loop-j-test.true) in (
      rw (more, c.pushed-positions.ensures) (held-few l.positions.bits (length chain - l.j) c.at.result c.at-in-loop-j.result l.invariant.0),
      ap has c.pushed-positions.ensures ∙ held_next chain (has c.args.members.bits) (has c.args.set.bits) j l.positions.bits _ inside
          (l.invariant.1 ∙ ap (λ (m : ℕ). at_seat (seats (drop m chain) (has c.args.members.bits)) (has c.args.set.bits)) (sym back))
          (c.at-in-loop-j.ensures ∙ ap (has c.args.set.bits) row)
          _ (c.at.ensures ∙ ap (has c.args.members.bits) row),
    )

pub returns : goal.returns
returns c =
    let l = c.loop-j in
    let e : l.j ≡ 0 = omega (arith, c.loop-j-test.false) in
    rw e at l.invariant.1
