-- A relay as a system of small steps, taken in any order by its machines and its coordinators. Machines and calls are numbers; a row is its bytes, and nothing here looks into
-- them. There are no locks: a relay has them so that its calls get on, and whatever it does with them, it takes these steps.
use Rattle.std.specs.Prelude.{◌≡◌, cond, ◌⊎◌, List, [], ◌∷◌, ℕ, suc, eqb}

-- what a coordinator heard of a machine: nothing, or its row, and how many rows it had taken before
pub data Answer : Type 0 where
  silent : Answer
  gave : (count : ℕ) (row : List ℕ) → Answer

-- what a decision is shown of a machine: its row, without the count
pub data Shown : Type 0 where
  none : Shown
  some : (row : List ℕ) → Shown

unfoldable pub show : Answer → Shown
show silent = none
show (gave k r) = some r

unfoldable pub shown : (ℕ → Answer) → ℕ → Shown
shown g i = show (g i)

-- decide n rows i: what the call n makes of machine i's row, from the rows shown. Any function
abbrev pub Decision : Type 0
Decision = ℕ → (ℕ → Shown) → ℕ → List ℕ

-- beside the row that a machine keeps: nothing, or the row that it stored for a call. Such a machine is prepared, and in doubt until it takes the row or drops it
pub data Doubt : Type 0 where
  clear : Doubt
  prepared : (call : ℕ) (row : List ℕ) → Doubt

-- a call, at its coordinator
pub data Phase : Type 0 where
  unused : Phase
  gathering : (heard : ℕ → Answer) → Phase
  decided : (heard : ℕ → Answer) → Phase
  -- done, with its commit record on the coordinator's disk
  noted : (heard : ℕ → Answer) → Phase
  -- done, and the record is no longer kept
  forgotten : Phase
  -- ended by a second round, with no record
  confirmed : (heard : ℕ → Answer) → Phase
  -- given up
  dropped : Phase

-- machine i and call n; a message is for both, whoever says it
pub data Message : Type 0 where
  row : (i n count : ℕ) (r : List ℕ) → Message
  store : (i n count : ℕ) (r : List ℕ) → Message
  stored : (i n : ℕ) → Message
  take : (i n : ℕ) → Message
  drop : (i n : ℕ) → Message
  took : (i n : ℕ) → Message
  -- the second round: "still count k?", "still"
  again : (i n count : ℕ) → Message
  still : (i n : ℕ) → Message

-- what the claims speak of: a call had heard all its rows; a call was noted
pub data Event : Type 0 where
  looked : (n : ℕ) → Event
  committed : (n : ℕ) (heard : ℕ → Answer) → Event

-- on the machines' disks: kept, count, doubt. On the coordinators': the notes among the phases. `sent` is all that was ever said. `log` is no part of a relay: the events, the newest first
pub record State : Type 0 where
  pub kept : ℕ → List ℕ
  pub count : ℕ → ℕ
  pub doubt : ℕ → Doubt
  pub phase : ℕ → Phase
  pub sent : List Message
  pub log : List Event

unfoldable pub set : {A : Type 0} → (ℕ → A) → ℕ → A → ℕ → A
set f i a j = cond (eqb j i) a (f j)

-- what was ever sent may arrive at any time, any number of times, or never
unfoldable pub In : Message → List Message → Type 0
In m [] = ⊥
In m (k ∷ ms) = (m ≡ k) ⊎ In m ms

-- for every machine that the call heard
abbrev pub EachOf : (ℕ → Answer) → (ℕ → ℕ → List ℕ → Type 0) → Type 0
EachOf g P = (i k : ℕ) (r : List ℕ) → g i ≡ gave k r → P i k r

-- its coordinator runs the call
unfoldable pub Runs : Phase → Type 0
Runs unused = ⊥
Runs (gathering g) = Unit {0}
Runs (decided g) = Unit {0}
Runs (noted g) = ⊥
Runs forgotten = ⊥
Runs (confirmed g) = ⊥
Runs dropped = ⊥

-- the call is over and its coordinator has no record of it
unfoldable pub NoRecord : Phase → Type 0
NoRecord unused = ⊥
NoRecord (gathering g) = ⊥
NoRecord (decided g) = ⊥
NoRecord (noted g) = ⊥
NoRecord forgotten = Unit {0}
NoRecord (confirmed g) = Unit {0}
NoRecord dropped = Unit {0}

-- ---- what a step changes
unfoldable pub says : State → Message → State
says s m = record { kept = s.kept; count = s.count; doubt = s.doubt; phase = s.phase; sent = m ∷ s.sent; log = s.log }

unfoldable pub turns : State → ℕ → Phase → State
turns s n p = record { kept = s.kept; count = s.count; doubt = s.doubt; phase = set s.phase n p; sent = s.sent; log = s.log }

unfoldable pub logs : State → Event → State
logs s e = record { kept = s.kept; count = s.count; doubt = s.doubt; phase = s.phase; sent = s.sent; log = e ∷ s.log }

unfoldable pub puts : State → ℕ → Doubt → State
puts s i d = record { kept = s.kept; count = s.count; doubt = set s.doubt i d; phase = s.phase; sent = s.sent; log = s.log }

-- the row, its count and the doubt, in one write of the disk
unfoldable pub installs : State → ℕ → List ℕ → State
installs s i r =
    record { kept = set s.kept i r; count = set s.count i (suc (s.count i)); doubt = set s.doubt i clear; phase = s.phase; sent = s.sent; log = s.log }

-- ---- the steps
pub data Step (decide : Decision) : State → State → Type 0 where
  -- a coordinator begins a call, with a number that no call had
  begins : (s : State) (n : ℕ) → s.phase n ≡ unused → Step decide s (turns s n (gathering (λ i. silent)))
  -- a machine gives its row
  gives : (s : State) (i n : ℕ) → Step decide s (says s (row i n (s.count i) (s.kept i)))
  hears : (s : State) (i n k : ℕ) (r : List ℕ) (g : ℕ → Answer) → In (row i n k r) s.sent → s.phase n ≡ gathering g → Step decide s (turns s n (gathering (set g i (gave k r))))
  -- it hears no more and decides
  decides : (s : State) (n : ℕ) (g : ℕ → Answer) → s.phase n ≡ gathering g → Step decide s (logs (turns s n (decided g)) (looked n))
  -- every machine that gave its row is shipped its new one; a row that does not change, as it is
  ships : (s : State) (i n k : ℕ) (r : List ℕ) (g : ℕ → Answer) → s.phase n ≡ decided g → g i ≡ gave k r → Step decide s (says s (store i n k (decide n (shown g) i)))
  -- a machine stores a row beside its own, unless it is in doubt or has taken a row since it gave its own
  stores : (s : State) (i n k : ℕ) (r : List ℕ) → In (store i n k r) s.sent → s.doubt i ≡ clear → k ≡ s.count i → Step decide s (puts s i (prepared n r))
  reports-stored : (s : State) (i n : ℕ) (r : List ℕ) → s.doubt i ≡ prepared n r → Step decide s (says s (stored i n))
  -- when all that gave a row have stored one, the call is noted: now it is done
  notes : (s : State) (n : ℕ) (g : ℕ → Answer) → s.phase n ≡ decided g → EachOf g (λ i k r. In (stored i n) s.sent) → Step decide s (logs (turns s n (noted g)) (committed n g))
  tells-take : (s : State) (i n : ℕ) (g : ℕ → Answer) → s.phase n ≡ noted g → Step decide s (says s (take i n))
  takes : (s : State) (i n : ℕ) (r : List ℕ) → In (take i n) s.sent → s.doubt i ≡ prepared n r → Step decide s (installs s i r)
  -- a machine told to take that is not in doubt for the call has taken
  reports-took : (s : State) (i n : ℕ) → In (take i n) s.sent → ((r : List ℕ) → s.doubt i ≡ prepared n r → ⊥) → Step decide s (says s (took i n))
  -- when all have, the record need not be kept
  forgets : (s : State) (n : ℕ) (g : ℕ → Answer) → s.phase n ≡ noted g → EachOf g (λ i k r. In (took i n) s.sent) → Step decide s (turns s n forgotten)
  -- a coordinator gives up a call that it runs; its crash is this for all of them
  gives_up : (s : State) (n : ℕ) → Runs (s.phase n) → Step decide s (turns s n dropped)
  tells-drop : (s : State) (i n : ℕ) → NoRecord (s.phase n) → Step decide s (says s (drop i n))
  drops : (s : State) (i n : ℕ) (r : List ℕ) → In (drop i n) s.sent → s.doubt i ≡ prepared n r → Step decide s (puts s i clear)
  -- a machine that crashes comes back with what is on its disk
  crashes : (s : State) (i : ℕ) → Step decide s s
  -- a call that changes no row, such as a read or a refused one, may ask every machine once more instead
  asks-again : (s : State) (i n k : ℕ) (r : List ℕ) (g : ℕ → Answer) → s.phase n ≡ decided g → g i ≡ gave k r → Step decide s (says s (again i n k))
  confirms : (s : State) (i n k : ℕ) → In (again i n k) s.sent → s.doubt i ≡ clear → k ≡ s.count i → Step decide s (says s (still i n))
  ends : (s : State) (n : ℕ) (g : ℕ → Answer) → s.phase n ≡ decided g → EachOf g (λ i k r. (decide n (shown g) i ≡ r) × In (still i n) s.sent) → Step decide s (turns s n (confirmed g))

unfoldable pub founded : (ℕ → List ℕ) → State
founded f = record { kept = f; count = λ i. 0; doubt = λ i. clear; phase = λ n. unused; sent = []; log = [] }

-- any interleaving, from machines that keep the rows f
pub data Reached (decide : Decision) (f : ℕ → List ℕ) : State → Type 0 where
  start : Reached decide f (founded f)
  then : (s t : State) → Reached decide f s → Step decide s t → Reached decide f t

-- t is reached from s
pub data Later (decide : Decision) (s : State) : State → Type 0 where
  now : Later decide s s
  later : (t u : State) → Later decide s t → Step decide t u → Later decide s u
