-- The wall chart: every smallest write quorum of a list, by positions, as numbers.
use Rattle.std.specs.Prelude.{Bool, not, cond, ◌&&◌, List, [], ◌∷◌, ◌++◌, ℕ, ◌*◌, ◌^◌, eqb, leb, length}
use Rattle.sets.specs.Upto.{every, upward, keep}
use Rattle.sets.specs.Sets.{has, losing}
use Rattle.grid.specs.declared.Grid.{Grid}
use Rattle.grid.specs.Sizes.{grid_by, mark_fits}
use Rattle.quorums.specs.declared.Kind.TheVariants.{Write}
use Rattle.quorums.specs.Quorums.{quorum}
use Rattle.octets.specs.Bytes.{bytes_of, put}
use Rattle.asking.specs.Asking.{Question, first_no}

-- a smallest write quorum: "those that stop being one when any member is taken out"
unfoldable pub smallest : Grid → ℕ → (ℕ → Bool) → Bool
smallest g N held = quorum Write g N held && every N (λ k. not (held k && quorum Write g N (losing held k)))

-- "every smallest write quorum .. Sets are numbers, bit k − 1 for position k, in rising order, each once": of the numbers below 2 ^ N those that are
unfoldable pub chart : Grid → ℕ → List ℕ
chart g N = keep (λ x. smallest g N (has x)) (upward (2 ^ N) 0)

-- "places of 2 bytes": the numbers one behind the other
unfoldable pub in_places : List ℕ → List ℕ
in_places [] = []
in_places (x ∷ xs) = bytes_of 2 x ++ in_places xs

-- ---- the call: a length, a grid mark and a lent list of bytes
-- not "more than nine members, none, or a grid mark that no list of that length can have"
unfoldable pub has_chart : ℕ → ℕ → Bool
has_chart N mark = leb 1 N && (leb N 9 && mark_fits mark N)

-- "a lent list of at least 64 places"
unfoldable pub places : ℕ
places = 64

-- "Too short a list is refused by 5 .. before that .. 17"; a place has 2 bytes
unfoldable pub chart_questions : ℕ → ℕ → List ℕ → List Question
chart_questions N mark list =
    record { ask = 17; yes = has_chart N mark }
    ∷ record { ask = 5; yes = leb (places * 2) (length list) }
    ∷ []

-- what the call leaves: refusal number (0: done), value, the list's bytes
pub record Charted : Type 0 where
  pub refusal : ℕ
  pub value : ℕ
  pub list : List ℕ

-- "the value is how many"; "unused places stay"; a refusal has value 0 and leaves the list as it was lent
unfoldable pub charted : ℕ → ℕ → List ℕ → Charted
charted N mark list =
    let n = first_no (chart_questions N mark list) in
    let sets = chart (grid_by mark N) N in
    cond (eqb n 0) (record { refusal = 0; value = length sets; list = put 0 (in_places sets) list }) (record { refusal = n; value = 0; list = list })
