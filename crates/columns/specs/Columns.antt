-- What the code keeps of a set of positions: the columns of its grid.
use Rattle.std.specs.Prelude.{◌≡◌, Bool, true, ◌&&◌, ℕ, eqb, leb}
use Rattle.sets.specs.Upto.{Within, count}
use Rattle.sets.specs.Sets.{joining}
use Rattle.grid.specs.Sizes.{column_of}
use Rattle.quorums.specs.Quorums.{touches, covers}

-- how many members column j has
unfoldable pub held_in : ℕ → ℕ → (ℕ → Bool) → ℕ → ℕ
held_in n N held j = count N (λ k. held k && eqb j (column_of n k))

-- it has two members in column j
unfoldable pub twice : ℕ → ℕ → (ℕ → Bool) → ℕ → Bool
twice n N held j = leb 2 (held_in n N held j)

-- three sets of columns tell of the positions 1 to N of a grid with n columns: those touched, those with two members, those whole
pub record ColumnsOf (touched' two' whole' : ℕ → Bool) (n N : ℕ) (held : ℕ → Bool) : Type 0 where
  pub touched : (j : ℕ) → Within n j → touched' j ≡ touches n N held j
  pub two : (j : ℕ) → Within n j → two' j ≡ twice n N held j
  pub whole : (j : ℕ) → Within n j → whole' j ≡ covers n N held j
  -- and no other column is in any of them
  pub inside : (j : ℕ) → joining two' whole' j ≡ true → Within n j
  pub touched-inside : (j : ℕ) → touched' j ≡ true → Within n j
