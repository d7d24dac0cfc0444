-- What is claimed of the seats of a list in chain order, on a well-formed table.
use Rattle.std.specs.Prelude.{◌≡◌, Bool, true, false, List, ℕ, ◌-◌, ◌^◌, ◌≤◌, ◌<◌, length, get_or}
use Rattle.sets.specs.Upto.{Within, count}
use Rattle.sets.specs.Sets.{has}
use Rattle.fields.specs.declared.Laid.{Laid}
use Rattle.fields.specs.Layout.{is_empty, used_of, county_of}
use Rattle.table.specs.Chain.{order_of, frame_of}
use Rattle.table.specs.WellFormed.{well_formed}
use Rattle.grid.specs.Sizes.{grid_by}
use Rattle.quorums.specs.declared.Kind.{Kind}
use Rattle.quorums.specs.declared.Kind.TheVariants.{Write}
use Rattle.quorums.specs.Losses.{AllButOne}
use Rattle.quorums.specs.ChoiceSizes.{ChoicesSized}
use Rattle.counties.specs.Levels.{seats}
use Rattle.counties.specs.Counties.{levels, levels_choice, list_quorum, list_choice}
use Rattle.counties.specs.Marks.{laid_now}
use Rattle.counties.specs.Claims.{InOne}

-- the row at position k of those that pass p, counted from 1
unfoldable pub row_at : List ℕ → (ℕ → Bool) → ℕ → ℕ
row_at t p k = get_or (seats (order_of t) p) (k - 1) 0

-- "Members in chain order fill row by row": there are as many seats as rows that pass, and each of these has one of its own
pub record Seated (t : List ℕ) (p : ℕ → Bool) : Type 0 where
  pub many : length (seats (order_of t) p) ≡ count 64 p
  pub apart : (j k : ℕ) → Within (count 64 p) j → Within (count 64 p) k → row_at t p j ≡ row_at t p k → j ≡ k
  pub member : (k : ℕ) → Within (count 64 p) k → p (row_at t p k) ≡ true
  pub seat : (i : ℕ) → p i ≡ true → (k : ℕ) × Within (count 64 p) k × (row_at t p k ≡ i)

-- of used rows: the members of a list, or some of them
unfoldable pub EveryListIsSeated : Type 0
EveryListIsSeated = (t : List ℕ) → well_formed t ≡ true → (p : ℕ → Bool) → ((i : ℕ) → p i ≡ true → Within (used_of t) i) → Seated t p

-- a choice over used rows on two levels, laid in any mark's grids, holds a quorum of its kind; and so do all of them
unfoldable pub EveryChoiceHolds : Type 0
EveryChoiceHolds = (t : List ℕ) → well_formed t ≡ true → (p : ℕ → Bool) → ((i : ℕ) → p i ≡ true → Within (used_of t) i) → 1 ≤ count 64 p
    → (kind : Kind) (mark a : ℕ) → (levels kind mark (frame_of t) p (levels_choice kind mark (frame_of t) p a) ≡ true) × (levels kind mark (frame_of t) p p ≡ true)

-- "for each list of 4 to 64 members as now laid, the members without any one of them hold a write quorum": a list of used rows "within one county", and
-- any set that misses at most one of them
unfoldable pub ListBearsLoss : Type 0
ListBearsLoss = (t : List ℕ) → well_formed t ≡ true → (tall : Bool) (l : Laid) → l ≡ laid_now tall (county_of t) l.members → l.members < 2 ^ used_of t
    → InOne (county_of t) (has l.members) → 4 ≤ count 64 (has l.members)
    → (s : ℕ → Bool) → AllButOne (has l.members) s → list_quorum Write (frame_of t) l s ≡ true

-- "called at most m + n − 1, a done read n, by the grid of the coordinator's own list": the sizes of the choices over a list of used rows "within one
-- county"
unfoldable pub ChoiceSizes : Type 0
ChoiceSizes = (t : List ℕ) → well_formed t ≡ true → (l : Laid) → l.members < 2 ^ used_of t → InOne (county_of t) (has l.members) → is_empty l ≡ false
    → ChoicesSized (grid_by l.mark (count 64 (has l.members))) (λ kind a. count 64 (list_choice kind (frame_of t) l a))
