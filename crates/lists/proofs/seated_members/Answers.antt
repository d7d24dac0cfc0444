use mathlib.Core.Bool.{Bool, ◌&&◌}
use mathlib.Core.Path.{sym, ap, ◌∙◌}
use mathlib.Core.List.{List}
use Prim.Native.Nat.{ℕ}
use lib.Dec.{eqb}
use Rattle.lists.proofs.StraightLaws.{straight_chain}
use Rattle.counties.specs.Levels.{seats, at_seat}
use Rattle.sets.specs.Upto.{some}
use Rattle.sets.specs.Sets.{has}
use Rattle.lists.proofs.seated_members.Goals as goal

pub straight-requires : goal.straight-requires
straight-requires c = c.rows.ensures.0.places

pub returns-then-straight : goal.returns-then-straight
returns-then-straight c =
    let a = c.args in
    c.seated_straight.ensures ∙ ap {B = ℕ → Bool} (λ (xs : List ℕ) (i : ℕ). some 64 (λ k. has a.positions.bits k && at_seat (seats xs (has a.members.bits)) (eqb i) k))
    (rw c.len-then-straight.ensures.length (sym (straight_chain c.rows.ensures (c.straight.ensures c.if-straight.true))))
