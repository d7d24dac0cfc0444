-- What is claimed of the size of the set called.
use Rattle.std.specs.Prelude.{◌≡◌, Bool, true, false, List, [], ◌∷◌, ℕ, ◌+◌, ◌-◌, ◌≤◌}
use Rattle.sets.specs.Upto.{count}
use Rattle.sets.specs.Sets.{has}
use Rattle.fields.specs.Layout.{used_of, name_of, list_of, county_of}
use Rattle.table.specs.Chain.{frame_of}
use Rattle.grid.specs.declared.Grid.{Grid}
use Rattle.grid.specs.Sizes.{grid_by}
use Rattle.quorums.specs.declared.Kind.{Kind}
use Rattle.quorums.specs.declared.Kind.TheVariants.{Read, Write}
use Rattle.counties.specs.Claims.{InOne}
use Rattle.protocol.specs.Polls.{stays}
use Rattle.protocol.specs.Calls.{Reading, Writing, read, write, answers, outcome}

-- "the grid of the coordinator's own list"
unfoldable pub own_grid : List ℕ → ℕ → Grid
own_grid t c = grid_by (list_of t c).mark (count 64 (has (list_of t c).members))

-- the call "stayed with P"
unfoldable pub stayed : Kind → List ℕ → ℕ → ℕ → ℕ → Bool
stayed kind t q c r = stays kind (frame_of t) (answers t q r) c (name_of t c) (has r)

-- the facts of (j) "are for lists within one county"
unfoldable pub OwnInOne : List ℕ → ℕ → Type 0
OwnInOne t c = InOne (county_of t) (has (list_of t c).members)

-- "A done write that stayed with P called at most m + n − 1, a done read n"; "or all used rows if it went on to R"
pub record CalledBy (t : List ℕ) : Type 0 where
  pub read-few : (a : Reading) → OwnInOne t a.c → (outcome t (read a)).refusal ≡ 0 → stayed Read t a.file a.c a.r ≡ true → (outcome t (read a)).called ≡ (own_grid t a.c).cols ∷ []
  pub write-few : (a : Writing) → OwnInOne t a.c → (outcome t (write a)).refusal ≡ 0 → stayed Write t a.file a.c a.r ≡ true
      → (n : ℕ) × ((outcome t (write a)).called ≡ n ∷ []) × (n ≤ (own_grid t a.c).rows + (own_grid t a.c).cols - 1)
  pub read_all : (a : Reading) → (outcome t (read a)).refusal ≡ 0 → stayed Read t a.file a.c a.r ≡ false → (outcome t (read a)).called ≡ used_of t ∷ []
  pub write-all : (a : Writing) → (outcome t (write a)).refusal ≡ 0 → stayed Write t a.file a.c a.r ≡ false → (outcome t (write a)).called ≡ used_of t ∷ []

unfoldable pub CalledFew : Type 0
CalledFew = (t : List ℕ) → CalledBy t
