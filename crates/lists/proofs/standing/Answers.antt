use mathlib.Core.Bool.{Bool, ◌&&◌}
use mathlib.Core.Path.{sym, ap, ◌∙◌, fun_ext}
use Prim.Native.Nat.{ℕ, ◌-◌}
use native.Mathlib.Omega.{arith}
use lib.Dec.{eqb}
use lib.ListN.{length, get_or}
use Rattle.lists.proofs.SeatLaws.{row-place, none-standing, standing-next, standing-all}
use Rattle.counties.specs.Levels.{at_seat}
use Rattle.bools.proofs.BoolLaws.{and_r}
use Rattle.rows.specs.declared.Members.{Members}
use Rattle.sets.proofs.SetLaws.{has-empty, first-within}
use Rattle.sets.proofs.MemberLaws.{only, none-taken, all-taken, in-set, one-taken}
use Rattle.sets.specs.Sets.{has, no_row, gaining, joining, cut_to, first_rows}
use Rattle.sets.specs.Upto.{Within, some}
use Rattle.lists.proofs.standing.Goals.{In-Some}
use Rattle.lists.proofs.standing.Goals as goal

-- the lowest of those left is one of them
position : (c : In-Some) → Within (length c.args.chain.now) c.in-Some.i
unfolding cut_to
position c =
    let s = c.in-Some.ensures.steps in
    first-within (length c.args.chain.now) c.in-Some.i (and_r (has c.args.positions.bits c.in-Some.i) _
    (ap (λ (f : ℕ → Bool). f c.in-Some.i) (sym c.loop-i.invariant.0) ∙ in-set c.loop-i.invariant.2 s.0 s.1))

pub loop-i-init : goal.loop-i-init
loop-i-init c = (
  ap (λ (m : Members). has m.left.bits) (c.into_iter-i-iterator.ensures.into_iter_gives ∙ c.members-i-items.ensures) ∙ c.cut.ensures
      ∙ ap (cut_to (has c.args.positions.bits)) (c.first.ensures ∙ ap first_rows c.len.ensures.length),
  no_row,
  none-taken _,
  has-empty ∙ none-standing _,
)

pub overflow_sub-i : goal.overflow_sub-i
overflow_sub-i c = omega (arith, position c)

pub place_at-requires : goal.place_at-requires
place_at-requires c = omega (arith, position c)

pub loop-i-preserved : goal.loop-i-preserved
loop-i-preserved c =
    let l = c.loop-i in
    let i = c.in-Some.i in
    let chain = c.args.chain.now in
    let s = c.in-Some.ensures.steps in
    let here = position (goal.at.loop-i-preserved c).In-Some in
    let f = has l.set.bits in
    let w = c.len.ensures.each (i - 1) (omega arith) in
    let r : Within 64 (get_or chain (i - 1) 0) = omega arith in (
      l.invariant.0,
      joining l.invariant.1 (only i),
      one-taken l.invariant.2 s.0 s.1 (s.2, s.3),
      c.add-set.ensures ∙ ap (gaining f) (row-place c.place_at.result (get_or chain (i - 1) 0) c.place_at.ensures r)
          ∙ standing-next chain (omega arith) i l.invariant.1 f here r l.invariant.3,
    )

pub returns : goal.returns
returns c =
    let l = c.loop-i in
    let chain = c.args.chain.now in
    let all = all-taken l.invariant.2 (omega arith) c.in-None.ensures.steps.0 in
    l.invariant.3 ∙ fun_ext (λ i.
    ap (λ (q : ℕ → Bool). some 64 (λ k. q k && at_seat chain (eqb i) k)) (sym all ∙ l.invariant.0)
    ∙ standing-all chain (omega arith) (has c.args.positions.bits) i)
