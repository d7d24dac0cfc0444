use mathlib.Core.Path.{sym, ap, ◌∙◌}
use mathlib.Core.List.{List}
use Prim.Native.Nat.{ℕ}
use Rattle.lists.proofs.StraightLaws.{straight_chain}
use Rattle.counties.specs.Levels.{seats, at_seat}
use Rattle.sets.specs.Sets.{has}
use Rattle.lists.proofs.held_positions.Goals as goal

pub straight-requires : goal.straight-requires
straight-requires c = c.rows.ensures.0.places

pub returns-then-straight : goal.returns-then-straight
returns-then-straight c =
    let a = c.args in
    c.held_straight.ensures
    ∙ ap (λ (xs : List ℕ). at_seat (seats xs (has a.members.bits)) (has a.set.bits)) (rw c.len-then-straight.ensures.length (sym (straight_chain c.rows.ensures (c.straight.ensures c.if-straight.true))))
