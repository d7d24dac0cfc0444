-- What the answering rows say, and the set that a call works on.
use Rattle.std.specs.Prelude.{Bool, not, cond, ◌&&◌, List, ℕ, eqb, ltb}
use Rattle.sets.specs.Upto.{some, lowest, most}
use Rattle.sets.specs.Sets.{cut_to}
use Rattle.quorums.specs.declared.Kind.{Kind}
use Rattle.fields.specs.declared.Laid.{Laid}
use Rattle.fields.specs.Layout.{no_list, is_empty, epoch_of, list_of, stale_of, version_of, desired_of}
use Rattle.counties.specs.Counties.{Frame, list_quorum, list_choice}

-- "The state gathered by a poll is one value, with a place for each of the 64 rows."
pub record Poll : Type 0 where
  pub stale : ℕ → Bool
  pub version : ℕ → ℕ
  pub desired : ℕ → ℕ
  pub epoch : ℕ → ℕ
  pub list : ℕ → Laid

-- what the rows of s say of file q; every other row reads as 0, its list as none
unfoldable pub polled : List ℕ → ℕ → (ℕ → Bool) → Poll
polled t q s = record {
  stale = λ i. s i && stale_of t q i;
  version = λ i. cond (s i) (version_of t q i) 0;
  desired = λ i. cond (s i) (desired_of t q i) 0;
  epoch = λ i. cond (s i) (epoch_of t i) 0;
  list = λ i. cond (s i) (list_of t i) no_list;
}

-- ---- of a set S of rows, by a poll
module _ (p : Poll) (s : ℕ → Bool) where
  -- the rows of S that have a list: "A row with an empty list is passed over in finding the highest epoch"
  unfoldable pub listed : ℕ → Bool
  listed i = s i && not (is_empty (p.list i))

  -- "the highest epoch in S"
  unfoldable pub highest_epoch : ℕ
  highest_epoch = most 64 listed p.epoch

  -- "V the list of the highest epoch in S": that of the lowest row that has it
  unfoldable pub in_force : Laid
  in_force = p.list (lowest 64 (λ i. listed i && eqb (p.epoch i) highest_epoch))

  unfoldable pub unmarked : ℕ → Bool
  unmarked i = s i && not (p.stale i)

  unfoldable pub marked : ℕ → Bool
  marked i = s i && p.stale i

  -- "the highest version among unmarked rows of S"
  unfoldable pub good_version : ℕ
  good_version = most 64 unmarked p.version

  -- "Good rows are the unmarked rows of S with the highest version among unmarked rows of S."
  unfoldable pub good : ℕ → Bool
  good i = unmarked i && eqb (p.version i) good_version

  -- "S is current if a good row exists and no marked row of S desires more than that version."
  unfoldable pub current : Bool
  current = some 64 good && not (some 64 (λ i. marked i && ltb good_version (p.desired i)))

-- ---- questions 6 and 7, and the set worked on, for what is known of all rows and a poll
module _ (kind : Kind) (f : Frame) (p : Poll) where
  -- "does S hold a read quorum of V; write, check: a write quorum?"; "For an empty P the answer to question 6 is no", and "if S has only such
  -- rows" as have an empty list
  unfoldable pub quorum_held : (ℕ → Bool) → Bool
  quorum_held s = some 64 (listed p s) && list_quorum kind f (in_force p s) s

  -- "P: c's own choice over c's own list, cut down to R", by c's name a
  unfoldable pub own_try : ℕ → ℕ → (ℕ → Bool) → ℕ → Bool
  own_try c a r = cut_to (list_choice kind f (p.list c) a) r

  -- "If questions 6 and 7 are yes for P": then the call stays with P
  unfoldable pub stays : ℕ → ℕ → (ℕ → Bool) → Bool
  stays c a r = let tried = own_try c a r in quorum_held tried && current p tried

  -- ".. the call works on P; otherwise on R."
  unfoldable pub worked_on : ℕ → ℕ → (ℕ → Bool) → ℕ → Bool
  worked_on c a r = cond (stays c a r) (own_try c a r) r
