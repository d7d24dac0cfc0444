-- "One machine lost": what the members of a list hold without one of them, by positions.
use Rattle.std.specs.Prelude.{◌≡◌, Bool, true, false, ◌||◌, ◌≢◌, List, [], ◌∷◌, ℕ, ◌*◌, ◌≤◌, length}
use Rattle.sets.specs.Sets.{losing}
use Rattle.grid.specs.declared.Grid.{Grid}
use Rattle.grid.specs.Sizes.{grid_by, new_mark}
use Rattle.quorums.specs.declared.Kind.TheVariants.{Write}
use Rattle.quorums.specs.Quorums.{quorum, is_position}
use Rattle.quorums.specs.Starred.{Each}

-- "the members without any one of them hold a write quorum": of N members laid by the mark, those at all positions but k
unfoldable pub bears : ℕ → ℕ → ℕ → Bool
bears mark N k = quorum Write (grid_by mark N) N (losing (is_position N) k)

-- s misses at most one of those that pass p: of any two it has one
unfoldable pub AllButOne : (ℕ → Bool) → (ℕ → Bool) → Type 0
AllButOne p s = (i j : ℕ) → p i ≡ true → p j ≡ true → i ≢ j → (s i || s j) ≡ true

-- the one reason, for any grid and any length: two columns or more, and two positions or more in each
unfoldable pub RoomBearsLoss : Type 0
RoomBearsLoss = (g : Grid) (N : ℕ) → 2 ≤ g.cols → 2 * g.cols ≤ N → (held : ℕ → Bool) → AllButOne (is_position N) held → quorum Write g N held ≡ true

-- "for each list of 4 to 64 members as now laid": from four on, whatever the length; "Tall lists of four or more bear the loss of one machine too"
unfoldable pub FourBearLoss : Type 0
FourBearLoss = (tall : Bool) (N k : ℕ) → 4 ≤ N → bears (new_mark tall N) N k ≡ true

-- ---- shorter lists
pub data Loss : Type 0 where
  -- of N, all positions but k hold a write quorum, or do not
  Without : (N k : ℕ) (answer : Bool) → Loss

-- as now laid, in a wide table and in a tall one
unfoldable pub Bears : Loss → Type 0
Bears (Without N k answer) = (tall : Bool) → bears (new_mark tall N) N k ≡ answer

-- "Three bear the loss of the first or third and not the second. Two or one bear none."
unfoldable pub shorter : List Loss
shorter =
    Without 3 1 true
    ∷ Without 3 2 false
    ∷ Without 3 3 true
    ∷ Without 2 1 false
    ∷ Without 2 2 false
    ∷ Without 1 1 false
    ∷ []

-- all six hold
unfoldable pub ShorterHold : Type 0
ShorterHold = (length shorter ≡ 6) × Each Bears shorter
