use mathlib.Core.Path.{◌≡◌, sym, ◌∙◌, ap}
use mathlib.Core.Bool.{Bool, ◌&&◌}
use mathlib.Core.List.{List}
use Prim.Native.Nat.{ℕ}
use native.Mathlib.Omega.{arith}
use lib.Dec.{eqb}
use Rattle.lists.proofs.SeatLaws.{choice-law, all-seated, none_beside, lone-choice}
use Rattle.sets.proofs.UptoLaws.{every-at}
use Rattle.sets.proofs.SetLaws.{has_within}
use Rattle.sets.specs.Upto.{some}
use Rattle.sets.specs.Sets.{has}
use Rattle.counties.specs.Levels.{seats, at_seat}
use Rattle.grid.proofs.SizeLaws.{taken-fits}
use Rattle.lists.proofs.choice.Goals as goal

pub returns-then-is_empty : goal.returns-then-is_empty
returns-then-is_empty c =
    let a = c.args in
    c.lone.ensures ∙ lone-choice (has a.members.bits) (none_beside _ c.rest.ensures.0 c.is_empty.ensures c.if-is_empty.true) a.kind a.mark a.chain.now (λ i e. has_within 64 a.members.bits i (omega arith) e) a.name

pub choose-chosen-requires : goal.choose-chosen-requires
choose-chosen-requires c = taken-fits c.args.mark _ _ c.of_mark.ensures

pub returns-then-fills : goal.returns-then-fills
returns-then-fills c =
    let chosen = c.choose-chosen in
    let a = c.args in
    let chain = a.chain.now in
    let all : seats chain (has a.members.bits) ≡ chain = all-seated (has a.members.bits) chain (λ k h.
    every-at c.len.result (has a.members.bits) (sym c.fills.ensures ∙ c.if-fills.true) _ (rw c.len.ensures.length (c.len.ensures.each k h))) in
    choice-law a.kind a.mark chain (has a.members.bits) _ _ c.size-length.ensures c.of_mark.ensures a.name _ _ chosen.ensures
    (c.standing.ensures ∙ ap {B = ℕ → Bool} (λ (rows : List ℕ) (i : ℕ). some 64 (λ k. has chosen.result.bits k && at_seat rows (eqb i) k)) (sym all))

pub returns : goal.returns
returns c =
    let chosen = c.choose-chosen in
    let a = c.args in
    choice-law a.kind a.mark a.chain.now (has a.members.bits) _ _ c.size-length.ensures c.of_mark.ensures a.name _ _ chosen.ensures c.seated_members.ensures
