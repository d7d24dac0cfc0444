-- The members of a set, taken one by one.
use Rattle.std.specs.Prelude.{◌≡◌, true, not, ℕ, ◌-◌, ◌≤◌, Option, MatchOption}
use Rattle.sets.specs.Upto.{some, lowest}
use Rattle.sets.specs.Sets.{has, losing}
use Rattle.rows.specs.declared.Members.{Members}

-- the lowest of those left is taken; where none is left, there is none to take
abbrev pub TakesLowest : Members → Option ℕ → Members → Type 0
TakesLowest old r new =
    MatchOption r ((not (some 64 (has old.left.bits)) ≡ true) × (new ≡ old))
    (λ i. (some 64 (has old.left.bits) ≡ true) × (i ≡ lowest 64 (has old.left.bits)) × (has new.left.bits ≡ losing (has old.left.bits) (lowest 64 (has old.left.bits))) × (new.left.bits ≤ old.left.bits - 1))
