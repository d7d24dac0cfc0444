-- What is claimed of charts, as statements; the proofs are in proofs/.
use Rattle.std.specs.Prelude.{◌≡◌, Bool, true, ◌&&◌, List, [], ◌∷◌, ℕ, ◌*◌, ◌^◌, ◌≤◌, ◌<◌, ltb, length, get_or, drop, replicate}
use Rattle.sets.specs.Upto.{Within, among, rises_from}
use Rattle.sets.specs.Sets.{has}
use Rattle.grid.specs.declared.Grid.{Grid}
use Rattle.grid.specs.Sizes.{grid_by}
use Rattle.quorums.specs.declared.Kind.TheVariants.{Write}
use Rattle.quorums.specs.Quorums.{quorum}
use Rattle.quorums.specs.Starred.{Each}
use Rattle.octets.specs.Bytes.{number, part}
use Rattle.charting.specs.Charts.{smallest, chart, has_chart, places, charted}

-- ---- "One argument serves every grid mark": of any grid and any length
-- "every smallest write quorum": a number is in the chart exactly where it is below 2 ^ N and a smallest write quorum
unfoldable pub ChartIs : Type 0
ChartIs = (g : Grid) (N x : ℕ) → among (chart g N) x ≡ (ltb x (2 ^ N) && smallest g N (has x))

-- "in rising order, each once"; none is 0
unfoldable pub ChartRises : Type 0
ChartRises = (g : Grid) (N : ℕ) → rises_from 0 (λ x. x) (chart g N) ≡ true

-- a smallest write quorum stays a write quorum with more members
unfoldable pub MoreMembers : Type 0
MoreMembers = (g : Grid) (N : ℕ) (s t : ℕ → Bool) → smallest g N s ≡ true → ((k : ℕ) → Within N k → s k ≡ true → t k ≡ true) → quorum Write g N t ≡ true

-- every write quorum holds one of the chart: so the chart tells which sets are write quorums
unfoldable pub HoldsCharted : Type 0
HoldsCharted = (g : Grid) (N : ℕ) (held : ℕ → Bool) → quorum Write g N held ≡ true
    → (x : ℕ) × (among (chart g N) x ≡ true) × ((k : ℕ) → has x k ≡ true → held k ≡ true)

-- ---- the call
-- no chart that can be asked for has more numbers than the list has places
unfoldable pub PlacesSuffice : Type 0
PlacesSuffice = (N mark : ℕ) → has_chart N mark ≡ true → length (chart (grid_by mark N) N) ≤ places

-- the places from the first on hold the numbers of the chart, in their order
unfoldable pub PlacesHold : Type 0
PlacesHold = (N mark : ℕ) (list : List ℕ) (i : ℕ) → i < (charted N mark list).value
    → number (part (2 * i) 2 (charted N mark list).list) ≡ get_or (chart (grid_by mark N) N) i 0

-- "unused places stay", an odd last byte too: behind as many places as the value says the list is as it was lent; refused, all of it is
unfoldable pub UnusedStay : Type 0
UnusedStay = (N mark : ℕ) (list : List ℕ) → (length (charted N mark list).list ≡ length list)
    × (drop (2 * (charted N mark list).value) (charted N mark list).list ≡ drop (2 * (charted N mark list).value) list)

-- "the wall chart, where mark 3 gives 17": it is for lists within one county
unfoldable pub ThreeHasNoChart : Type 0
ThreeHasNoChart = (N : ℕ) (list : List ℕ) → (charted N 3 list).refusal ≡ 17

-- ---- computed
-- "Four published members give 7, 11, 13, 14"; the published five, the new five and the tall five
unfoldable pub ChartsShown : Type 0
ChartsShown = (chart (grid_by 0 4) 4 ≡ 7 ∷ 11 ∷ 13 ∷ 14 ∷ [])
    × (chart (grid_by 0 5) 5 ≡ 7 ∷ 14 ∷ 21 ∷ 28 ∷ [])
    × (chart (grid_by 1 5) 5 ≡ 11 ∷ 14 ∷ 23 ∷ 26 ∷ 29 ∷ [])
    × (chart (grid_by 2 5) 5 ≡ 11 ∷ 14 ∷ 23 ∷ 26 ∷ 29 ∷ [])

-- the chart of four in a list of 9s
unfoldable pub ListShown : Type 0
ListShown = (charted 4 0 (replicate 129 9)).list ≡ 7 ∷ 0 ∷ 11 ∷ 0 ∷ 13 ∷ 0 ∷ 14 ∷ 0 ∷ replicate 121 9

-- a call with a list of so many bytes, and its refusal and value
pub data Case : Type 0 where
  Asked : (N mark bytes refusal value : ℕ) → Case

unfoldable pub Answered : Case → Type 0
Answered (Asked N mark bytes refusal value) = let o = charted N mark (replicate bytes 0) in (o.refusal ≡ refusal) × (o.value ≡ value)

-- each question from both sides, and 17 before 5
unfoldable pub cases : List Case
cases =
    Asked 4 0 128 0 4
    ∷ Asked 4 0 127 5 0
    ∷ Asked 4 0 0 5 0
    ∷ Asked 1 0 128 0 1
    ∷ Asked 1 2 129 0 1
    ∷ Asked 0 0 128 17 0
    ∷ Asked 0 2 128 17 0
    ∷ Asked 9 0 200 0 27
    ∷ Asked 10 0 200 17 0
    ∷ Asked 10 2 127 17 0
    ∷ Asked 4_294_967_300 0 128 17 0
    ∷ Asked 5 1 128 0 5
    ∷ Asked 4 1 128 17 0
    ∷ Asked 6 1 128 17 0
    ∷ Asked 6 2 128 0 6
    ∷ Asked 6 0 128 0 12
    ∷ Asked 4 3 128 17 0
    ∷ Asked 5 257 128 17 0
    ∷ []

-- all 18 hold
unfoldable pub CasesHold : Type 0
CasesHold = (length cases ≡ 18) × Each Answered cases
