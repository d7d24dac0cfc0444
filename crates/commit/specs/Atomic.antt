-- Every call is atomic: what is claimed of every interleaving.
use Rattle.std.specs.Prelude.{◌≡◌, Bool, true, false, cond, ◌⊎◌, List, [], ◌∷◌, ℕ}
use Rattle.commit.specs.Steps.{Answer, silent, gave, Shown, none, some, shown, Decision, Doubt, clear, prepared, Phase, unused, gathering, decided, noted, forgotten, confirmed, dropped, Event, looked, committed, State, Reached, Later}

-- ---- the list of calls
-- a call that has ended, and what it heard
pub record Entry : Type 0 where
  pub call : ℕ
  pub heard : ℕ → Answer

-- a call that ended by its second round stands where it had heard all its rows
unfoldable pub if_confirmed : Phase → ℕ → List Entry → List Entry
if_confirmed unused n es = es
if_confirmed (gathering g) n es = es
if_confirmed (decided g) n es = es
if_confirmed (noted g) n es = es
if_confirmed forgotten n es = es
if_confirmed (confirmed g) n es = record { call = n; heard = g } ∷ es
if_confirmed dropped n es = es

-- and a noted one where it was noted
unfoldable pub entries : (ℕ → Phase) → List Event → List Entry
entries phase [] = []
entries phase (looked n ∷ es) = if_confirmed (phase n) n (entries phase es)
entries phase (committed n g ∷ es) = record { call = n; heard = g } ∷ entries phase es

-- the calls that have ended, the newest first
unfoldable pub calls : State → List Entry
calls s = entries s.phase s.log

-- ---- the same calls made one at a time
-- R of a call: the machines that it heard
unfoldable pub answered : Answer → Bool
answered silent = false
answered (gave k r) = true

-- the rows of R, out of all rows
unfoldable pub given : (ℕ → Answer) → (ℕ → List ℕ) → ℕ → Shown
given g rows i = cond (answered (g i)) (some (rows i)) none

-- the rows after one call, made in one step: each row of R is as it decides on the rows of R
unfoldable pub made : Decision → Entry → (ℕ → List ℕ) → ℕ → List ℕ
made decide e rows i = cond (answered (e.heard i)) (decide e.call (given e.heard rows) i) (rows i)

-- and after a list of calls
unfoldable pub after : Decision → (ℕ → List ℕ) → List Entry → ℕ → List ℕ
after decide f [] = f
after decide f (e ∷ es) = made decide e (after decide f es)

-- ---- the row that counts: the stored one if its call is noted, else the kept one
unfoldable pub if_noted : Phase → List ℕ → List ℕ → List ℕ
if_noted unused r k = k
if_noted (gathering g) r k = k
if_noted (decided g) r k = k
if_noted (noted g) r k = r
if_noted forgotten r k = k
if_noted (confirmed g) r k = k
if_noted dropped r k = k

unfoldable pub current_of : Doubt → (ℕ → Phase) → List ℕ → List ℕ
current_of clear phase k = k
current_of (prepared n r) phase k = if_noted (phase n) r k

unfoldable pub current : State → ℕ → List ℕ
current s i = current_of (s.doubt i) s.phase (s.kept i)

-- ---- the claims
-- each call decided on the very rows that the calls before it left in its R
unfoldable pub Saw : Decision → (ℕ → List ℕ) → List Entry → Type 0
Saw decide f [] = Unit {0}
Saw decide f (e ∷ es) = (shown e.heard ≡ given e.heard (after decide f es)) × Saw decide f es

pub record Atomic (decide : Decision) (f : ℕ → List ℕ) (s : State) : Type 0 where
  pub rows : (i : ℕ) → current s i ≡ after decide f (calls s) i
  pub saw : Saw decide f (calls s)

-- whatever is decided, whatever the rows at first, in any interleaving: the machines' rows are those of the calls made one at a time, and so is what each call saw
unfoldable pub EveryCallAtomic : Type 0
EveryCallAtomic = (decide : Decision) (f : ℕ → List ℕ) (s : State) → Reached decide f s → Atomic decide f s

-- the caller has been told, or may be
unfoldable pub Ended : Phase → Type 0
Ended unused = ⊥
Ended (gathering g) = ⊥
Ended (decided g) = ⊥
Ended (noted g) = Unit {0}
Ended forgotten = Unit {0}
Ended (confirmed g) = Unit {0}
Ended dropped = ⊥

unfoldable pub Among : ℕ → List Entry → Type 0
Among n [] = ⊥
Among n (e ∷ es) = (e.call ≡ n) ⊎ Among n es

unfoldable pub Distinct : List Entry → Type 0
Distinct [] = Unit {0}
Distinct (e ∷ es) = (Among e.call es → ⊥) × Distinct es

-- no call is lost that has ended, none is made that has not, and none twice
pub record Ledger (s : State) : Type 0 where
  pub all : (n : ℕ) → Ended (s.phase n) → Among n (calls s)
  pub only : (n : ℕ) → Among n (calls s) → Ended (s.phase n)
  pub once : Distinct (calls s)

unfoldable pub EveryCallOnce : Type 0
EveryCallOnce = (decide : Decision) (f : ℕ → List ℕ) (s : State) → Reached decide f s → Ledger s

-- once ended, a call stays so
unfoldable pub NoneLost : Type 0
NoneLost = (decide : Decision) (s t : State) → Later decide s t → (n : ℕ) → Ended (s.phase n) → Ended (t.phase n)

-- wherever n stands, m stands before it
unfoldable pub Precedes : ℕ → ℕ → List Entry → Type 0
Precedes m n [] = Unit {0}
Precedes m n (e ∷ es) = (e.call ≡ n → Among m es) × Precedes m n es

-- a call that had ended when another had not begun stands before it: so each lies between its begin and its end
unfoldable pub InRealTime : Type 0
InRealTime = (decide : Decision) (f : ℕ → List ℕ) (s t : State) → Reached decide f s → Later decide s t → (m n : ℕ) → Ended (s.phase m) → s.phase n ≡ unused → Precedes m n (calls t)
