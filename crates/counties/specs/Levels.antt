-- A level: those that pass a test, rows or counties, laid in one grid in a given order.
use Rattle.std.specs.Prelude.{Bool, ◌&&◌, List, ℕ, ◌-◌, eqb, leb, length, get_or}
use Rattle.sets.specs.Upto.{some, count, keep}
use Rattle.quorums.specs.declared.Kind.{Kind}
use Rattle.grid.specs.Sizes.{grid_by}
use Rattle.quorums.specs.Quorums.{quorum, choice}

-- "Members in chain order fill row by row": those that pass p, in their order
unfoldable pub seats : List ℕ → (ℕ → Bool) → List ℕ
seats order p = keep p order

-- who is at position k, counted from 1, passes
unfoldable pub at_seat : List ℕ → (ℕ → Bool) → ℕ → Bool
at_seat rows p k = leb 1 k && leb k (length rows) && p (get_or rows (k - 1) 0)

-- ---- those that pass p, laid in the grid of their number by a mark; "the length N of a list is how many members it has"
-- those of s hold a quorum of them
unfoldable pub level : Kind → ℕ → List ℕ → (ℕ → Bool) → (ℕ → Bool) → Bool
level kind mark order p s = let N = count 64 p in quorum kind (grid_by mark N) N (at_seat (seats order p) s)

-- i is in the choice that the name a makes over them: it stands at a chosen position
unfoldable pub level_choice : Kind → ℕ → List ℕ → (ℕ → Bool) → ℕ → ℕ → Bool
level_choice kind mark order p a i = let N = count 64 p in some N (λ k. choice kind (grid_by mark N) N a k && at_seat (seats order p) (eqb i) k)
