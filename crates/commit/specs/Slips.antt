-- The rules of the steps, each left out alone: a relay that keeps all the others loses data.
use Rattle.std.specs.Prelude.{◌≡◌, List, ℕ}
use Rattle.commit.specs.Steps.{Answer, gave, shown, Decision, clear, prepared, gathering, decided, noted, forgotten, confirmed, dropped, silent, row, store, stored, take, drop, took, again, still, looked, committed, State, set, In, EachOf, says, turns, logs, puts, installs, Step, founded}
use Rattle.commit.specs.Atomic.{Atomic}

pub data Slip : Type 0 where
  number-again : Slip
  stores-over : Slip
  stores-late : Slip
  says-stored : Slip
  notes-early : Slip
  notes-changed : Slip
  gives-up-noted : Slip
  takes-early : Slip
  takes-untold : Slip
  takes-uncounted : Slip
  says-took : Slip
  forgets-early : Slip
  drops-noted : Slip
  drops-running : Slip
  drops-untold : Slip
  crash-loses : Slip
  asks-early : Slip
  confirms-doubt : Slip
  confirms-late : Slip
  ends-early : Slip
  ends-changed : Slip

-- a step without its rule
pub data Slips (decide : Decision) : Slip → State → State → Type 0 where
  -- the number of a call that was given up is used again
  begins' : (s : State) (n : ℕ) → s.phase n ≡ dropped → Slips decide number-again s (turns s n (gathering (λ i. silent)))
  -- a row is stored over one in doubt
  stores-over' : (s : State) (i n k : ℕ) (r : List ℕ) → In (store i n k r) s.sent → k ≡ s.count i → Slips decide stores-over s (puts s i (prepared n r))
  -- whatever the machine took since it gave its row
  stores-late' : (s : State) (i n k : ℕ) (r : List ℕ) → In (store i n k r) s.sent → s.doubt i ≡ clear → Slips decide stores-late s (puts s i (prepared n r))
  -- "stored" without having stored
  says-stored' : (s : State) (i n : ℕ) → Slips decide says-stored s (says s (stored i n))
  -- noted before the rows are stored
  notes-early' : (s : State) (n : ℕ) (g : ℕ → Answer) → s.phase n ≡ decided g → Slips decide notes-early s (logs (turns s n (noted g)) (committed n g))
  -- noted when the rows that change are stored
  notes-changed' : (s : State) (n : ℕ) (g : ℕ → Answer) → s.phase n ≡ decided g → EachOf g (λ i k r. (decide n (shown g) i ≡ r → ⊥) → In (stored i n) s.sent)
      → Slips decide notes-changed s (logs (turns s n (noted g)) (committed n g))
  -- the commit record is lost
  gives-up' : (s : State) (n : ℕ) (g : ℕ → Answer) → s.phase n ≡ noted g → Slips decide gives-up-noted s (turns s n dropped)
  -- told to take before the note
  tells-take' : (s : State) (i n : ℕ) (g : ℕ → Answer) → s.phase n ≡ decided g → Slips decide takes-early s (says s (take i n))
  takes-untold' : (s : State) (i n : ℕ) (r : List ℕ) → s.doubt i ≡ prepared n r → Slips decide takes-untold s (installs s i r)
  -- a row taken and not counted
  takes-uncounted' : (s : State) (i n : ℕ) (r : List ℕ) → In (take i n) s.sent → s.doubt i ≡ prepared n r
      → Slips decide takes-uncounted s (record { kept = set s.kept i r; count = s.count; doubt = set s.doubt i clear; phase = s.phase; sent = s.sent; log = s.log })
  -- "took" while in doubt
  reports-took' : (s : State) (i n : ℕ) → In (take i n) s.sent → Slips decide says-took s (says s (took i n))
  forgets' : (s : State) (n : ℕ) (g : ℕ → Answer) → s.phase n ≡ noted g → Slips decide forgets-early s (turns s n forgotten)
  -- told to drop though the call is noted, or runs
  tells-drop' : (s : State) (i n : ℕ) (g : ℕ → Answer) → s.phase n ≡ noted g → Slips decide drops-noted s (says s (drop i n))
  tells-drop-running' : (s : State) (i n : ℕ) (g : ℕ → Answer) → s.phase n ≡ decided g → Slips decide drops-running s (says s (drop i n))
  drops' : (s : State) (i n : ℕ) (r : List ℕ) → s.doubt i ≡ prepared n r → Slips decide drops-untold s (puts s i clear)
  crashes' : (s : State) (i : ℕ) → Slips decide crash-loses s (puts s i clear)
  -- the second round is asked before the first is over
  asks-early' : (s : State) (i n k : ℕ) (r : List ℕ) (g : ℕ → Answer) → s.phase n ≡ gathering g → g i ≡ gave k r → Slips decide asks-early s (says s (again i n k))
  confirms-doubt' : (s : State) (i n k : ℕ) → In (again i n k) s.sent → k ≡ s.count i → Slips decide confirms-doubt s (says s (still i n))
  confirms-late' : (s : State) (i n k : ℕ) → In (again i n k) s.sent → s.doubt i ≡ clear → Slips decide confirms-late s (says s (still i n))
  -- without a second round
  ends-early' : (s : State) (n : ℕ) (g : ℕ → Answer) → s.phase n ≡ decided g → EachOf g (λ i k r. decide n (shown g) i ≡ r) → Slips decide ends-early s (turns s n (confirmed g))
  -- a call that changes rows ends by its second round
  ends-changed' : (s : State) (n : ℕ) (g : ℕ → Answer) → s.phase n ≡ decided g → EachOf g (λ i k r. In (still i n) s.sent) → Slips decide ends-changed s (turns s n (confirmed g))

pub data ReachedBut (decide : Decision) (f : ℕ → List ℕ) (b : Slip) : State → Type 0 where
  start : ReachedBut decide f b (founded f)
  step : (s t : State) → ReachedBut decide f b s → Step decide s t → ReachedBut decide f b t
  slip : (s t : State) → ReachedBut decide f b s → Slips decide b s t → ReachedBut decide f b t

-- a run with that slip whose rows are not those of its calls made one at a time, or in which a call saw others
unfoldable pub Loses : Slip → Type 0
Loses b = (decide : Decision) × (f : ℕ → List ℕ) × (s : State) × ReachedBut decide f b s × (Atomic decide f s → ⊥)

unfoldable pub EveryRuleNeeded : Type 0
EveryRuleNeeded = (b : Slip) → Loses b
