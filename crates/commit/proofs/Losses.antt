-- Every rule of the steps is needed: for each, a run without it, computed.
use mathlib.Core.Path.{◌≡◌, refl, sym, ◌∙◌, ap, subst}
use mathlib.Core.Bool.{cond}
use mathlib.Core.Logic.{◌⊎◌, inl, inr}
use mathlib.Core.List.{List, [], ◌∷◌}
use Prim.Native.Nat.{ℕ, ◌-◌}
use lib.Dec.{eqb}
use Rattle.commit.specs.Steps.{Answer, silent, gave, Shown, none, some, show, shown, Decision, Doubt, clear, prepared, Phase, unused, gathering, decided, noted, forgotten, confirmed, dropped, Message, row, store, stored, take, drop, took, again, still, Event, looked, committed, State, set, In, EachOf, Runs, NoRecord, says, turns, logs, puts, installs, Step, begins, gives, hears, decides, ships, stores, reports-stored, notes, tells-take, takes, reports-took, forgets, gives_up, tells-drop, drops, crashes, asks-again, confirms, ends, founded}
use Rattle.commit.specs.Atomic.{if_confirmed, entries, calls, answered, given, made, after, if_noted, current_of, current, Saw, Atomic}
use Rattle.commit.specs.Slips.{Slip, number-again, stores-over, stores-late, says-stored, notes-early, notes-changed, gives-up-noted, takes-early, takes-untold, takes-uncounted, says-took, forgets-early, drops-noted, drops-running, drops-untold, crash-loses, asks-early, confirms-doubt, confirms-late, ends-early, ends-changed, Slips, begins', stores-over', stores-late', says-stored', notes-early', notes-changed', gives-up', tells-take', takes-untold', takes-uncounted', reports-took', forgets', tells-drop', tells-drop-running', drops', crashes', asks-early', confirms-doubt', confirms-late', ends-early', ends-changed', ReachedBut, start, step, slip, Loses, EveryRuleNeeded}
use Rattle.commit.proofs.Invariant.{set-elim, no}

row_of : Shown → List ℕ
row_of none = []
row_of (some r) = r

-- call 3 reads; every other call puts its number before each row
own : Decision
own n g i = cond (eqb n 3) (row_of (g i)) (n ∷ row_of (g i))

-- the call n changes row n alone, to its number before the other row
other : Decision
other n g i = cond (eqb i n) (n ∷ row_of (g (3 - n))) (row_of (g i))

nothing : ℕ → List ℕ
nothing i = []

-- ---- what a call heard, machine by machine
pub each_none : (P : ℕ → ℕ → List ℕ → Type 0) → EachOf (λ i. silent) P
each_none P i k r q = absurd (no cc)

pub each_set : (g : ℕ → Answer) (i k : ℕ) (r : List ℕ) (P : ℕ → ℕ → List ℕ → Type 0) → P i k r → EachOf g P → EachOf (set g i (gave k r)) P
each_set g i k r P a h j c x = set-elim (λ (y : Answer). y ≡ gave c x → P j c x) g i (gave k r) j (λ q z. it q z) (λ q z. h j c x z)
  where
    it : j ≡ i → gave k r ≡ gave c x → P j c x
    it q z =
        let y : k ≡ c = cc in
        let w : r ≡ x = cc in
        subst (λ (b : ℕ). P b c x) (sym q) (subst (λ (b : ℕ). P i b x) y (subst (λ (b : List ℕ). P i k b) w a))

-- of machine 1 alone, with the row [] and the count 0; of machines 1 and 2
one : (P : ℕ → ℕ → List ℕ → Type 0) → P 1 0 [] → EachOf (set (λ i. silent) 1 (gave 0 [])) P
one P a = each_set (λ i. silent) 1 0 [] P a (each_none P)

both : (k : ℕ) (r : List ℕ) (P : ℕ → ℕ → List ℕ → Type 0) → P 1 0 [] → P 2 k r → EachOf (set (set (λ i. silent) 1 (gave 0 [])) 2 (gave k r)) P
both k r P a b = each_set (set (λ i. silent) 1 (gave 0 [])) 2 k r P b (one P a)

-- ---- runs: a step more, a slip
infixl 5 ◌▷◌ ◌▶◌
◌▷◌ : {d : Decision} {f : ℕ → List ℕ} {b : Slip} {s t : State} → ReachedBut d f b s → Step d s t → ReachedBut d f b t
h ▷ w = step _ _ h w

◌▶◌ : {d : Decision} {f : ℕ → List ℕ} {b : Slip} {s t : State} → ReachedBut d f b s → Slips d b s t → ReachedBut d f b t
h ▶ w = slip _ _ h w

-- call 1 has decided on the row of machine 1
decided-1 : (b : Slip) → (s : State) × ReachedBut own nothing b s
unfolding founded set says turns logs puts installs In own nothing row_of shown show Runs NoRecord
decided-1 b = (_, start ▷ begins _ 1 refl ▷ gives _ 1 1 ▷ hears _ 1 1 0 [] _ (inl refl) refl ▷ decides _ 1 _ refl)

-- and that machine has said that it stored the new one
ready-1 : (b : Slip) → (s : State) × ReachedBut own nothing b s
unfolding founded set says turns logs puts installs In own nothing row_of shown show Runs NoRecord decided-1
ready-1 b = (_, (decided-1 b).1 ▷ ships _ 1 1 0 [] _ refl refl ▷ stores _ 1 1 0 (1 ∷ []) (inl refl) refl refl ▷ reports-stored _ 1 1 (1 ∷ []) refl)

-- and the call is noted
noted-1 : (b : Slip) → (s : State) × ReachedBut own nothing b s
unfolding founded set says turns logs puts installs In own nothing row_of shown show Runs NoRecord decided-1 ready-1
noted-1 b = (_, (ready-1 b).1 ▷ notes _ 1 _ refl (one _ (inl refl)))

-- calls 1 and 2 have decided on the same row of machine 1
decided-2 : (b : Slip) → (s : State) × ReachedBut own nothing b s
unfolding founded set says turns logs puts installs In own nothing row_of shown show Runs NoRecord decided-1 ready-1
decided-2 b = (_, (decided-1 b).1 ▷ begins _ 2 refl ▷ gives _ 1 2 ▷ hears _ 1 2 0 [] _ (inl refl) refl ▷ decides _ 2 _ refl)

-- call 1 writes both rows while call 3 reads: it heard the old row of machine 1, which is in doubt, and the new row of machine 2, which has taken it
torn : (b : Slip) → (s : State) × ReachedBut own nothing b s
unfolding founded set says turns logs puts installs In own nothing row_of shown show Runs NoRecord
torn b = (
  _,
  start ▷ begins _ 3 refl ▷ gives _ 1 3 ▷ hears _ 1 3 0 [] _ (inl refl) refl ▷ begins _ 1 refl ▷ gives _ 1 1
      ▷ hears _ 1 1 0 [] _ (inl refl) refl ▷ gives _ 2 1 ▷ hears _ 2 1 0 [] _ (inl refl) refl ▷ decides _ 1 _ refl ▷ ships _ 1 1 0 [] _ refl refl
      ▷ ships _ 2 1 0 [] _ refl refl ▷ stores _ 1 1 0 (1 ∷ []) (inr (inl refl)) refl refl ▷ stores _ 2 1 0 (1 ∷ []) (inl refl) refl refl
      ▷ reports-stored _ 1 1 (1 ∷ []) refl ▷ reports-stored _ 2 1 (1 ∷ []) refl ▷ notes _ 1 _ refl (both 0 [] _ (inr (inl refl)) (inl refl))
      ▷ tells-take _ 2 1 _ refl ▷ takes _ 2 1 (1 ∷ []) (inl refl) refl ▷ gives _ 2 3 ▷ hears _ 2 3 1 (1 ∷ []) _ (inl refl) refl ▷ decides _ 3 _ refl,
)

-- ---- the losses
nil_not : (x : ℕ) (l : List ℕ) → [] ≡ x ∷ l → ⊥
nil_not x l e = no cc

more-not : (x y : ℕ) → x ∷ [] ≡ x ∷ y ∷ [] → ⊥
more-not x y e = let z : ◌≡◌ {A = List ℕ} [] (y ∷ []) = cc in no cc

-- a row that is not what the calls made one at a time leave
lost : (d : Decision) (b : Slip) (s : State) → ReachedBut d nothing b s → (i : ℕ) (x y : List ℕ) → current s i ≡ x → after d nothing (calls s) i ≡ y → (x ≡ y → ⊥) → Loses b
unfolding Loses
lost d b s h i x y p q z = (d, nothing, s, h, λ a. z (sym p ∙ a.rows i ∙ q))

loses-number-again : Loses number-again
unfolding Loses founded set says turns logs puts installs In own nothing row_of shown show Runs NoRecord if_confirmed entries calls answered given made after if_noted current_of current Saw decided-1 ready-1
loses-number-again =
    lost own number-again _ ((ready-1 number-again).1 ▷ gives_up _ 1 tt ▷ tells-drop _ 1 1 tt ▷ drops _ 1 1 (1 ∷ []) (inl refl) refl ▶ begins' _ 1 refl
    ▷ hears _ 1 1 0 [] _ (inr (inr (inr (inl refl)))) refl ▷ decides _ 1 _ refl
    ▷ notes _ 1 _ refl (one _ (inr (inl refl)))) 1 [] (1 ∷ []) refl refl (nil_not 1 [])

loses-stores-over : Loses stores-over
unfolding Loses founded set says turns logs puts installs In own nothing row_of shown show Runs NoRecord if_confirmed entries calls answered given made after if_noted current_of current Saw decided-1 decided-2
loses-stores-over =
    lost own stores-over _ ((decided-2 stores-over).1 ▷ ships _ 1 1 0 [] _ refl refl ▷ ships _ 1 2 0 [] _ refl refl
    ▷ stores _ 1 1 0 (1 ∷ []) (inr (inl refl)) refl refl ▷ reports-stored _ 1 1 (1 ∷ []) refl ▶ stores-over' _ 1 2 0 (2 ∷ []) (inr (inl refl)) refl
    ▷ notes _ 1 _ refl (one _ (inl refl))) 1 [] (1 ∷ []) refl refl (nil_not 1 [])

loses-stores-late : Loses stores-late
unfolding Loses founded set says turns logs puts installs In own nothing row_of shown show Runs NoRecord if_confirmed entries calls answered given made after if_noted current_of current Saw decided-1 decided-2
loses-stores-late =
    lost own stores-late _ ((decided-2 stores-late).1 ▷ ships _ 1 1 0 [] _ refl refl ▷ stores _ 1 1 0 (1 ∷ []) (inl refl) refl refl
    ▷ reports-stored _ 1 1 (1 ∷ []) refl ▷ notes _ 1 _ refl (one _ (inl refl)) ▷ tells-take _ 1 1 _ refl ▷ takes _ 1 1 (1 ∷ []) (inl refl) refl
    ▷ ships _ 1 2 0 [] _ refl refl ▶ stores-late' _ 1 2 0 (2 ∷ []) (inl refl) refl ▷ reports-stored _ 1 2 (2 ∷ []) refl
    ▷ notes _ 2 _ refl (one _ (inl refl))) 1 (2 ∷ []) (2 ∷ 1 ∷ []) refl refl (more-not 2 1)

loses-says-stored : Loses says-stored
unfolding Loses founded set says turns logs puts installs In own nothing row_of shown show Runs NoRecord if_confirmed entries calls answered given made after if_noted current_of current Saw decided-1
loses-says-stored =
    lost own says-stored _ ((decided-1 says-stored).1 ▶ says-stored' _ 1 1
    ▷ notes _ 1 _ refl (one _ (inl refl))) 1 [] (1 ∷ []) refl refl (nil_not 1 [])

loses-notes-early : Loses notes-early
unfolding Loses founded set says turns logs puts installs In own nothing row_of shown show Runs NoRecord if_confirmed entries calls answered given made after if_noted current_of current Saw decided-1
loses-notes-early = lost own notes-early _ ((decided-1 notes-early).1 ▶ notes-early' _ 1 _ refl) 1 [] (1 ∷ []) refl refl (nil_not 1 [])

-- each call leaves the row that the other changes: write skew
loses-notes-changed : Loses notes-changed
unfolding Loses founded set says turns logs puts installs In own nothing row_of shown show Runs NoRecord if_confirmed entries calls answered given made after if_noted current_of current Saw other
loses-notes-changed =
    lost other notes-changed _ (start ▷ begins _ 1 refl ▷ begins _ 2 refl ▷ gives _ 1 1 ▷ hears _ 1 1 0 [] _ (inl refl) refl ▷ gives _ 2 1
    ▷ hears _ 2 1 0 [] _ (inl refl) refl ▷ gives _ 1 2 ▷ hears _ 1 2 0 [] _ (inl refl) refl ▷ gives _ 2 2 ▷ hears _ 2 2 0 [] _ (inl refl) refl
    ▷ decides _ 1 _ refl ▷ decides _ 2 _ refl ▷ ships _ 1 1 0 [] _ refl refl ▷ stores _ 1 1 0 (1 ∷ []) (inl refl) refl refl
    ▷ reports-stored _ 1 1 (1 ∷ []) refl ▷ ships _ 2 2 0 [] _ refl refl ▷ stores _ 2 2 0 (2 ∷ []) (inl refl) refl refl
    ▷ reports-stored _ 2 2 (2 ∷ []) refl ▶ notes-changed' _ 1 _ refl (both 0 [] _ (λ c. (inr (inr (inl refl)))) (λ c. absurd (c refl)))
    ▶ notes-changed' _ 2 _ refl (both 0 [] _ (λ c. absurd (c refl)) (λ c. (inl refl)))) 2 (2 ∷ []) (2 ∷ 1 ∷ []) refl refl (more-not 2 1)

loses-gives-up-noted : Loses gives-up-noted
unfolding Loses founded set says turns logs puts installs In own nothing row_of shown show Runs NoRecord if_confirmed entries calls answered given made after if_noted current_of current Saw decided-1 ready-1 noted-1
loses-gives-up-noted = lost own gives-up-noted _ ((noted-1 gives-up-noted).1 ▶ gives-up' _ 1 _ refl) 1 [] (1 ∷ []) refl refl (nil_not 1 [])

loses-takes-early : Loses takes-early
unfolding Loses founded set says turns logs puts installs In own nothing row_of shown show Runs NoRecord if_confirmed entries calls answered given made after if_noted current_of current Saw decided-1 ready-1
loses-takes-early =
    lost own takes-early _ ((ready-1 takes-early).1 ▶ tells-take' _ 1 1 _ refl
    ▷ takes _ 1 1 (1 ∷ []) (inl refl) refl) 1 (1 ∷ []) [] refl refl (λ e. nil_not 1 [] (sym e))

loses-takes-untold : Loses takes-untold
unfolding Loses founded set says turns logs puts installs In own nothing row_of shown show Runs NoRecord if_confirmed entries calls answered given made after if_noted current_of current Saw decided-1 ready-1
loses-takes-untold = lost own takes-untold _ ((ready-1 takes-untold).1 ▶ takes-untold' _ 1 1 (1 ∷ []) refl) 1 (1 ∷ []) [] refl refl (λ e. nil_not 1 [] (sym e))

loses-takes-uncounted : Loses takes-uncounted
unfolding Loses founded set says turns logs puts installs In own nothing row_of shown show Runs NoRecord if_confirmed entries calls answered given made after if_noted current_of current Saw decided-1 decided-2
loses-takes-uncounted =
    lost own takes-uncounted _ ((decided-2 takes-uncounted).1 ▷ ships _ 1 1 0 [] _ refl refl ▷ stores _ 1 1 0 (1 ∷ []) (inl refl) refl refl
    ▷ reports-stored _ 1 1 (1 ∷ []) refl ▷ notes _ 1 _ refl (one _ (inl refl)) ▷ tells-take _ 1 1 _ refl
    ▶ takes-uncounted' _ 1 1 (1 ∷ []) (inl refl) refl ▷ ships _ 1 2 0 [] _ refl refl ▷ stores _ 1 2 0 (2 ∷ []) (inl refl) refl refl
    ▷ reports-stored _ 1 2 (2 ∷ []) refl ▷ notes _ 2 _ refl (one _ (inl refl))) 1 (2 ∷ []) (2 ∷ 1 ∷ []) refl refl (more-not 2 1)

loses-says-took : Loses says-took
unfolding Loses founded set says turns logs puts installs In own nothing row_of shown show Runs NoRecord if_confirmed entries calls answered given made after if_noted current_of current Saw decided-1 ready-1 noted-1
loses-says-took =
    lost own says-took _ ((noted-1 says-took).1 ▷ tells-take _ 1 1 _ refl ▶ reports-took' _ 1 1 (inl refl)
    ▷ forgets _ 1 _ refl (one _ (inl refl))) 1 [] (1 ∷ []) refl refl (nil_not 1 [])

loses-forgets-early : Loses forgets-early
unfolding Loses founded set says turns logs puts installs In own nothing row_of shown show Runs NoRecord if_confirmed entries calls answered given made after if_noted current_of current Saw decided-1 ready-1 noted-1
loses-forgets-early = lost own forgets-early _ ((noted-1 forgets-early).1 ▶ forgets' _ 1 _ refl) 1 [] (1 ∷ []) refl refl (nil_not 1 [])

loses-drops-noted : Loses drops-noted
unfolding Loses founded set says turns logs puts installs In own nothing row_of shown show Runs NoRecord if_confirmed entries calls answered given made after if_noted current_of current Saw decided-1 ready-1 noted-1
loses-drops-noted =
    lost own drops-noted _ ((noted-1 drops-noted).1 ▶ tells-drop' _ 1 1 _ refl
    ▷ drops _ 1 1 (1 ∷ []) (inl refl) refl) 1 [] (1 ∷ []) refl refl (nil_not 1 [])

loses-drops-running : Loses drops-running
unfolding Loses founded set says turns logs puts installs In own nothing row_of shown show Runs NoRecord if_confirmed entries calls answered given made after if_noted current_of current Saw decided-1 ready-1
loses-drops-running =
    lost own drops-running _ ((ready-1 drops-running).1 ▶ tells-drop-running' _ 1 1 _ refl ▷ drops _ 1 1 (1 ∷ []) (inl refl) refl
    ▷ notes _ 1 _ refl (one _ (inr (inl refl)))) 1 [] (1 ∷ []) refl refl (nil_not 1 [])

loses-drops-untold : Loses drops-untold
unfolding Loses founded set says turns logs puts installs In own nothing row_of shown show Runs NoRecord if_confirmed entries calls answered given made after if_noted current_of current Saw decided-1 ready-1 noted-1
loses-drops-untold = lost own drops-untold _ ((noted-1 drops-untold).1 ▶ drops' _ 1 1 (1 ∷ []) refl) 1 [] (1 ∷ []) refl refl (nil_not 1 [])

loses-crash-loses : Loses crash-loses
unfolding Loses founded set says turns logs puts installs In own nothing row_of shown show Runs NoRecord if_confirmed entries calls answered given made after if_noted current_of current Saw decided-1 ready-1 noted-1
loses-crash-loses = lost own crash-loses _ ((noted-1 crash-loses).1 ▶ crashes' _ 1) 1 [] (1 ∷ []) refl refl (nil_not 1 [])

-- call 3 has the row of machine 1 confirmed before it hears that of machine 2
asked : (s : State) × ReachedBut own nothing asks-early s
unfolding founded set says turns logs puts installs In own nothing row_of shown show Runs NoRecord
asked = (
  _,
  start ▷ begins _ 3 refl ▷ gives _ 1 3 ▷ hears _ 1 3 0 [] _ (inl refl) refl ▶ asks-early' _ 1 3 0 [] _ refl refl
      ▷ confirms _ 1 3 0 (inl refl) refl refl,
)

asked-torn : (s : State) × ReachedBut own nothing asks-early s
unfolding founded set says turns logs puts installs In own nothing row_of shown show Runs NoRecord asked
asked-torn = (
  _,
  asked.1 ▷ begins _ 1 refl ▷ gives _ 1 1 ▷ hears _ 1 1 0 [] _ (inl refl) refl ▷ gives _ 2 1 ▷ hears _ 2 1 0 [] _ (inl refl) refl
      ▷ decides _ 1 _ refl ▷ ships _ 1 1 0 [] _ refl refl ▷ ships _ 2 1 0 [] _ refl refl ▷ stores _ 1 1 0 (1 ∷ []) (inr (inl refl)) refl refl
      ▷ stores _ 2 1 0 (1 ∷ []) (inl refl) refl refl ▷ reports-stored _ 1 1 (1 ∷ []) refl ▷ reports-stored _ 2 1 (1 ∷ []) refl
      ▷ notes _ 1 _ refl (both 0 [] _ (inr (inl refl)) (inl refl)) ▷ tells-take _ 2 1 _ refl ▷ takes _ 2 1 (1 ∷ []) (inl refl) refl,
)

loses-asks-early : Loses asks-early
unfolding Loses founded set says turns logs puts installs In own nothing row_of shown show Runs NoRecord if_confirmed entries calls answered given made after if_noted current_of current Saw asked asked-torn
loses-asks-early = (
  own,
  nothing,
  _,
  asked-torn.1 ▷ gives _ 2 3 ▷ hears _ 2 3 1 (1 ∷ []) _ (inl refl) refl ▷ decides _ 3 _ refl
      ▷ asks-again _ 2 3 1 (1 ∷ []) _ refl refl ▷ confirms _ 2 3 1 (inl refl) refl refl
      ▷ ends _ 3 _ refl (both 1 (1 ∷ []) _ (refl, (inr (inr (inr (inr (inr (inr (inr (inr (inr (inr (inl refl)))))))))))) (refl, (inl refl))),
  λ a. nil_not 1 [] (ap (λ (x : ℕ → Shown). row_of (x 1)) a.saw.0),
)

loses-confirms-doubt : Loses confirms-doubt
unfolding Loses founded set says turns logs puts installs In own nothing row_of shown show Runs NoRecord if_confirmed entries calls answered given made after if_noted current_of current Saw torn
loses-confirms-doubt = (
  own,
  nothing,
  _,
  (torn confirms-doubt).1 ▷ asks-again _ 1 3 0 [] _ refl refl ▶ confirms-doubt' _ 1 3 0 (inl refl) refl
      ▷ asks-again _ 2 3 1 (1 ∷ []) _ refl refl ▷ confirms _ 2 3 1 (inl refl) refl refl
      ▷ ends _ 3 _ refl (both 1 (1 ∷ []) _ (refl, (inr (inr (inl refl)))) (refl, (inl refl))),
  λ a. nil_not 1 [] (ap (λ (x : ℕ → Shown). row_of (x 1)) a.saw.0),
)

loses-confirms-late : Loses confirms-late
unfolding Loses founded set says turns logs puts installs In own nothing row_of shown show Runs NoRecord if_confirmed entries calls answered given made after if_noted current_of current Saw torn
loses-confirms-late = (
  own,
  nothing,
  _,
  (torn confirms-late).1 ▷ tells-take _ 1 1 _ refl ▷ takes _ 1 1 (1 ∷ []) (inl refl) refl ▷ asks-again _ 1 3 0 [] _ refl refl
      ▶ confirms-late' _ 1 3 0 (inl refl) refl ▷ asks-again _ 2 3 1 (1 ∷ []) _ refl refl ▷ confirms _ 2 3 1 (inl refl) refl refl
      ▷ ends _ 3 _ refl (both 1 (1 ∷ []) _ (refl, (inr (inr (inl refl)))) (refl, (inl refl))),
  λ a. nil_not 1 [] (ap (λ (x : ℕ → Shown). row_of (x 1)) a.saw.0),
)

loses-ends-early : Loses ends-early
unfolding Loses founded set says turns logs puts installs In own nothing row_of shown show Runs NoRecord if_confirmed entries calls answered given made after if_noted current_of current Saw torn
loses-ends-early = (own, nothing, _, (torn ends-early).1 ▶ ends-early' _ 3 _ refl (both 1 (1 ∷ []) _ refl refl), λ a. nil_not 1 [] (ap (λ (x : ℕ → Shown). row_of (x 1)) a.saw.0))

loses-ends-changed : Loses ends-changed
unfolding Loses founded set says turns logs puts installs In own nothing row_of shown show Runs NoRecord if_confirmed entries calls answered given made after if_noted current_of current Saw decided-1
loses-ends-changed =
    lost own ends-changed _ ((decided-1 ends-changed).1 ▷ asks-again _ 1 1 0 [] _ refl refl ▷ confirms _ 1 1 0 (inl refl) refl refl
    ▶ ends-changed' _ 1 _ refl (one _ (inl refl))) 1 [] (1 ∷ []) refl refl (nil_not 1 [])

pub every-rule-needed : EveryRuleNeeded
unfolding EveryRuleNeeded
every-rule-needed number-again = loses-number-again
every-rule-needed stores-over = loses-stores-over
every-rule-needed stores-late = loses-stores-late
every-rule-needed says-stored = loses-says-stored
every-rule-needed notes-early = loses-notes-early
every-rule-needed notes-changed = loses-notes-changed
every-rule-needed gives-up-noted = loses-gives-up-noted
every-rule-needed takes-early = loses-takes-early
every-rule-needed takes-untold = loses-takes-untold
every-rule-needed takes-uncounted = loses-takes-uncounted
every-rule-needed says-took = loses-says-took
every-rule-needed forgets-early = loses-forgets-early
every-rule-needed drops-noted = loses-drops-noted
every-rule-needed drops-running = loses-drops-running
every-rule-needed drops-untold = loses-drops-untold
every-rule-needed crash-loses = loses-crash-loses
every-rule-needed asks-early = loses-asks-early
every-rule-needed confirms-doubt = loses-confirms-doubt
every-rule-needed confirms-late = loses-confirms-late
every-rule-needed ends-early = loses-ends-early
every-rule-needed ends-changed = loses-ends-changed
