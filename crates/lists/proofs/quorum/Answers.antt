use mathlib.Core.Path.{ap, ◌∙◌}
use mathlib.Core.Bool.{Bool, not}
use Prim.Native.Nat.{ℕ}
use native.Mathlib.Omega.{arith}
use Rattle.bools.proofs.BoolLaws.{not-not}
use Rattle.lists.proofs.SeatLaws.{level-law, none_beside, lone-quorum}
use Rattle.sets.specs.Upto.{some}
use Rattle.sets.proofs.SetLaws.{has_within}
use Rattle.sets.specs.Sets.{has, cut_to}
use Rattle.lists.proofs.quorum.Goals as goal

pub returns-then-is_empty : goal.returns-then-is_empty
returns-then-is_empty c =
    let a = c.args in
    ap not c.is_empty-then-is_empty.ensures ∙ not-not _ ∙ ap (some 64) (c.cut.ensures ∙ ap (λ (f : ℕ → Bool). cut_to f (has a.set.bits)) c.lone.ensures)
    ∙ lone-quorum (has a.members.bits) (none_beside _ c.rest.ensures.0 c.is_empty.ensures c.if-is_empty.true) a.kind a.mark a.chain.now (λ i e. has_within 64 a.members.bits i (omega arith) e) (has a.set.bits)

pub returns : goal.returns
returns c =
    let a = c.args in
    c.holds.ensures ∙ level-law a.kind a.mark a.chain.now (has a.members.bits) _ _ c.size-length.ensures c.of_mark.ensures (has a.set.bits) _ c.held_positions.ensures
