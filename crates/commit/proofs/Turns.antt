-- Steps that say something, or turn the phase of a call.
use mathlib.Core.Path.{◌≡◌, refl, sym, ◌∙◌, ap, subst, fun_ext}
use mathlib.Core.Bool.{Bool, true, false, cond}
use mathlib.Core.Logic.{◌⊎◌, inl, inr}
use mathlib.Core.List.{List, [], ◌∷◌}
use Prim.Native.Nat.{ℕ, ◌≤◌, ◌<◌}
use native.Mathlib.Omega.{arith}
use Rattle.commit.specs.Steps.{Answer, silent, gave, Shown, none, some, show, shown, Decision, Doubt, clear, prepared, Phase, unused, gathering, decided, noted, forgotten, confirmed, dropped, Message, row, store, stored, take, drop, took, again, still, looked, committed, State, set, In, EachOf, Runs, NoRecord, says, turns, logs}
use Rattle.commit.specs.Atomic.{if_noted, current_of, current, answered, given, made, after, Saw}
use Rattle.commit.proofs.Invariant.{same?, set_same, set_other, set-elim, number_of, noteds, Past, PhaseOk, DoubtOk, StoreOk, StoredOk, TakeOk, TookOk, AgainOk, Looked, Fine, Inv, no}

module _ (decide : Decision) (f : ℕ → List ℕ) where
  pub said : (s : State) (m : Message) → Fine decide s.kept s.count s.doubt m (s.phase (number_of m)) → Inv decide f s → Inv decide f (says s m)
  unfolding says In current
  said s m h v = record { phases = v.phases; doubted = v.doubted; fine = go; rows = v.rows; saw = v.saw }
    where
      go : (x : Message) → (x ≡ m) ⊎ In x s.sent → Fine decide s.kept s.count s.doubt x (s.phase (number_of x))
      go x (inl e) = subst (λ (y : Message). Fine decide s.kept s.count s.doubt y (s.phase (number_of y))) (sym e) h
      go x (inr a) = v.fine x a

  -- ---- the phase of the call n turns from old to p
  module _ (s : State) (n : ℕ) (old p : Phase) (e : s.phase n ≡ old) (v : Inv decide f s) where
    turn-phases : PhaseOk decide s.kept s.count s.doubt n p → (m : ℕ) → PhaseOk decide s.kept s.count s.doubt m (set s.phase n p m)
    turn-phases h m =
        set-elim (PhaseOk decide s.kept s.count s.doubt m) s.phase n p m (λ q. subst (λ (x : ℕ). PhaseOk decide s.kept s.count s.doubt x p) (sym q) h) (λ q. v.phases m)

    turn-doubts : ((i m : ℕ) (r : List ℕ) → m ≡ n → s.doubt i ≡ prepared m r → DoubtOk decide s.kept s.count i m r old → DoubtOk decide s.kept s.count i m r p)
        → (i m : ℕ) (r : List ℕ) → s.doubt i ≡ prepared m r → DoubtOk decide s.kept s.count i m r (set s.phase n p m)
    turn-doubts h i m r d =
        set-elim (DoubtOk decide s.kept s.count i m r) s.phase n p m (λ q. h i m r q d (subst (DoubtOk decide s.kept s.count i m r) (ap s.phase q ∙ e) (v.doubted i m r d))) (λ q. v.doubted i m r d)

    turn-fine : ((m : Message) → In m s.sent → number_of m ≡ n → Fine decide s.kept s.count s.doubt m old → Fine decide s.kept s.count s.doubt m p)
        → (m : Message) → In m s.sent → Fine decide s.kept s.count s.doubt m (set s.phase n p (number_of m))
    turn-fine h m a =
        set-elim (Fine decide s.kept s.count s.doubt m) s.phase n p (number_of m) (λ q. h m a q (subst (Fine decide s.kept s.count s.doubt m) (ap s.phase q ∙ e) (v.fine m a))) (λ q. v.fine m a)

    turn-rows : ((i m : ℕ) (r : List ℕ) → m ≡ n → s.doubt i ≡ prepared m r → if_noted p r (s.kept i) ≡ if_noted old r (s.kept i))
        → (i : ℕ) → current (turns s n p) i ≡ current s i
    unfolding current turns current_of
    turn-rows h i = go (s.doubt i) refl
      where
        go : (d : Doubt) → s.doubt i ≡ d → current_of d (set s.phase n p) (s.kept i) ≡ current_of d s.phase (s.kept i)
        go clear z = refl
        go (prepared m r) z =
            set-elim (λ (x : Phase). if_noted x r (s.kept i) ≡ if_noted (s.phase m) r (s.kept i)) s.phase n p m (λ q. h i m r q z ∙ ap (λ (x : Phase). if_noted x r (s.kept i)) (sym (ap s.phase q ∙ e))) (λ q. refl)

    turned : PhaseOk decide s.kept s.count s.doubt n p
        → ((i m : ℕ) (r : List ℕ) → m ≡ n → s.doubt i ≡ prepared m r → DoubtOk decide s.kept s.count i m r old → DoubtOk decide s.kept s.count i m r p)
        → ((m : Message) → In m s.sent → number_of m ≡ n → Fine decide s.kept s.count s.doubt m old → Fine decide s.kept s.count s.doubt m p)
        → ((i m : ℕ) (r : List ℕ) → m ≡ n → s.doubt i ≡ prepared m r → if_noted p r (s.kept i) ≡ if_noted old r (s.kept i))
        → Inv decide f (turns s n p)
    unfolding turns
    turned a b c d = record { phases = turn-phases a; doubted = turn-doubts b; fine = turn-fine c; rows = λ i. turn-rows d i ∙ v.rows i; saw = v.saw }

  -- ---- messages, as the phase of their call turns
  module _ (kept : ℕ → List ℕ) (count : ℕ → ℕ) (doubt : ℕ → Doubt) where
    fine-begun : (g : ℕ → Answer) (m : Message) → Fine decide kept count doubt m unused → Fine decide kept count doubt m (gathering g)
    unfolding Fine StoreOk StoredOk TakeOk TookOk AgainOk Looked NoRecord
    fine-begun g (row i n k r) h = h
    fine-begun g (store i n k r) h = h
    fine-begun g (stored i n) h = h
    fine-begun g (take i n) h = h
    fine-begun g (drop i n) h = h
    fine-begun g (took i n) h = h
    fine-begun g (again i n k) h = h
    fine-begun g (still i n) h = h

    fine-heard : (g o : ℕ → Answer) (m : Message) → Fine decide kept count doubt m (gathering g) → Fine decide kept count doubt m (gathering o)
    unfolding Fine StoreOk StoredOk TakeOk TookOk AgainOk Looked NoRecord
    fine-heard g o (row i n k r) h = h
    fine-heard g o (store i n k r) h = h
    fine-heard g o (stored i n) h = h
    fine-heard g o (take i n) h = h
    fine-heard g o (drop i n) h = h
    fine-heard g o (took i n) h = h
    fine-heard g o (again i n k) h = h
    fine-heard g o (still i n) h = h

    fine-decided : (g : ℕ → Answer) (m : Message) → Fine decide kept count doubt m (gathering g) → Fine decide kept count doubt m (decided g)
    unfolding Fine StoreOk StoredOk TakeOk TookOk AgainOk Looked NoRecord
    fine-decided g (row i n k r) h = h
    fine-decided g (store i n k r) h = absurd h
    fine-decided g (stored i n) h = absurd h
    fine-decided g (take i n) h = h
    fine-decided g (drop i n) h = h
    fine-decided g (took i n) h = h
    fine-decided g (again i n k) h = absurd h
    fine-decided g (still i n) h = absurd h

    fine-dropped : (p : Phase) → Runs p → (m : Message) → Fine decide kept count doubt m p → Fine decide kept count doubt m dropped
    unfolding Fine StoreOk StoredOk TakeOk TookOk AgainOk Looked NoRecord Runs
    fine-dropped unused z m h = absurd z
    fine-dropped (gathering g) z (row i n k r) h = h
    fine-dropped (gathering g) z (store i n k r) h = tt
    fine-dropped (gathering g) z (stored i n) h = tt
    fine-dropped (gathering g) z (take i n) h = h
    fine-dropped (gathering g) z (drop i n) h = tt
    fine-dropped (gathering g) z (took i n) h = h
    fine-dropped (gathering g) z (again i n k) h = tt
    fine-dropped (gathering g) z (still i n) h = tt
    fine-dropped (decided g) z (row i n k r) h = h
    fine-dropped (decided g) z (store i n k r) h = tt
    fine-dropped (decided g) z (stored i n) h = tt
    fine-dropped (decided g) z (take i n) h = h
    fine-dropped (decided g) z (drop i n) h = tt
    fine-dropped (decided g) z (took i n) h = h
    fine-dropped (decided g) z (again i n k) h = tt
    fine-dropped (decided g) z (still i n) h = tt
    fine-dropped (noted g) z m h = absurd z
    fine-dropped forgotten z m h = absurd z
    fine-dropped (confirmed g) z m h = absurd z
    fine-dropped dropped z m h = absurd z

    fine-confirmed : (g : ℕ → Answer) (m : Message) → Fine decide kept count doubt m (decided g) → Fine decide kept count doubt m (confirmed g)
    unfolding Fine StoreOk StoredOk TakeOk TookOk AgainOk Looked NoRecord
    fine-confirmed g (row i n k r) h = h
    fine-confirmed g (store i n k r) h = tt
    fine-confirmed g (stored i n) h = tt
    fine-confirmed g (take i n) h = h
    fine-confirmed g (drop i n) h = tt
    fine-confirmed g (took i n) h = h
    fine-confirmed g (again i n k) h = tt
    fine-confirmed g (still i n) h = h

    fine-noted : (g : ℕ → Answer) (m : Message) → Fine decide kept count doubt m (decided g) → Fine decide kept count doubt m (noted g)
    unfolding Fine StoreOk StoredOk TakeOk TookOk AgainOk Looked NoRecord
    fine-noted g (row i n k r) h = h
    fine-noted g (store i n k r) h = h
    fine-noted g (stored i n) h = tt
    fine-noted g (take i n) h = tt
    fine-noted g (drop i n) h = h
    fine-noted g (took i n) h = absurd h
    fine-noted g (again i n k) h = tt
    fine-noted g (still i n) h = h

    fine-forgotten : (g : ℕ → Answer) → (EachOf g (λ i k r. k < count i)) → (m : Message) → Fine decide kept count doubt m (noted g) → Fine decide kept count doubt m forgotten
    unfolding Fine StoreOk StoredOk TakeOk TookOk AgainOk Looked NoRecord
    fine-forgotten g z (row i n k r) h = h
    fine-forgotten g z (store i n k r) h = z i k h.0 h.1
    fine-forgotten g z (stored i n) h = tt
    fine-forgotten g z (take i n) h = tt
    fine-forgotten g z (drop i n) h = tt
    fine-forgotten g z (took i n) h = tt
    fine-forgotten g z (again i n k) h = h
    fine-forgotten g z (still i n) h = h

    dropped-ok : (p : Phase) → Runs p → (r k : List ℕ) → if_noted dropped r k ≡ if_noted p r k
    unfolding Runs if_noted
    dropped-ok unused z r k = refl
    dropped-ok (gathering g) z r k = refl
    dropped-ok (decided g) z r k = refl
    dropped-ok (noted g) z r k = absurd z
    dropped-ok forgotten z r k = absurd z
    dropped-ok (confirmed g) z r k = absurd z
    dropped-ok dropped z r k = refl

  -- ---- step by step
  module _ (s : State) (v : Inv decide f s) where
    pub begun : (n : ℕ) → s.phase n ≡ unused → Inv decide f (turns s n (gathering (λ i. silent)))
    unfolding PhaseOk DoubtOk if_noted
    begun n e =
        turned s n unused (gathering (λ i. silent)) e v (λ i k r q. absurd (no cc)) (λ i m r q z d. d) (λ m a q h. fine-begun s.kept s.count s.doubt (λ i. silent) m h) (λ i m r q z. refl)

    pub row-past : (i n k : ℕ) (r : List ℕ) → In (row i n k r) s.sent → Past s.kept s.count i k r
    unfolding Fine
    row-past i n k r a = v.fine (row i n k r) a

    pub heard-past : (n : ℕ) (g : ℕ → Answer) → s.phase n ≡ gathering g → EachOf g (Past s.kept s.count)
    unfolding PhaseOk
    heard-past n g e = subst (PhaseOk decide s.kept s.count s.doubt n) e (v.phases n)

    pub heard : (i n k : ℕ) (r : List ℕ) (g : ℕ → Answer) → In (row i n k r) s.sent → s.phase n ≡ gathering g → Inv decide f (turns s n (gathering (set g i (gave k r))))
    unfolding PhaseOk DoubtOk if_noted
    heard i n k r g a e =
        turned s n (gathering g) (gathering (set g i (gave k r))) e v past (λ j m x q z d. d) (λ m b q h. fine-heard s.kept s.count s.doubt g (set g i (gave k r)) m h) (λ j m x q z. refl)
      where
        one : (j c : ℕ) (x : List ℕ) → j ≡ i → gave k r ≡ gave c x → Past s.kept s.count j c x
        one j c x q z =
            let y : k ≡ c = cc in
            let w : r ≡ x = cc in
            subst (λ (b : ℕ). Past s.kept s.count b c x) (sym q) (subst (λ (b : ℕ). Past s.kept s.count i b x) y (subst (λ (b : List ℕ). Past s.kept s.count i k b) w (row-past i n k r a)))

        past : (j c : ℕ) (x : List ℕ) → set g i (gave k r) j ≡ gave c x → Past s.kept s.count j c x
        past j c x =
            set-elim (λ (y : Answer). y ≡ gave c x → Past s.kept s.count j c x) g i (gave k r) j (λ q. one j c x q) (λ q. heard-past n g e j c x)

    pub logged : (n : ℕ) → Inv decide f (logs s (looked n))
    unfolding logs noteds current
    logged n = record { phases = v.phases; doubted = v.doubted; fine = v.fine; rows = v.rows; saw = v.saw }

    pub decided-it : (n : ℕ) (g : ℕ → Answer) → s.phase n ≡ gathering g → Inv decide f (turns s n (decided g))
    unfolding PhaseOk DoubtOk if_noted
    decided-it n g e = turned s n (gathering g) (decided g) e v (heard-past n g e) (λ j m x q z d. absurd d) (λ m b q h. fine-decided s.kept s.count s.doubt g m h) (λ j m x q z. refl)

    pub given-up : (n : ℕ) → Runs (s.phase n) → Inv decide f (turns s n dropped)
    unfolding PhaseOk DoubtOk
    given-up n u =
        turned s n (s.phase n) dropped refl v tt (λ j m x q z d. tt) (λ m b q h. fine-dropped s.kept s.count s.doubt (s.phase n) u m h) (λ j m x q z. dropped-ok s.kept s.count s.doubt (s.phase n) u x (s.kept j))

    pub confirmed-it : (n : ℕ) (g : ℕ → Answer) → s.phase n ≡ decided g → Inv decide f (turns s n (confirmed g))
    unfolding PhaseOk DoubtOk if_noted
    confirmed-it n g e = turned s n (decided g) (confirmed g) e v tt (λ j m x q z d. tt) (λ m b q h. fine-confirmed s.kept s.count s.doubt g m h) (λ j m x q z. refl)

    -- ---- the note is no longer needed
    took-past : (i n : ℕ) (g : ℕ → Answer) → s.phase n ≡ noted g → In (took i n) s.sent → (k : ℕ) (r : List ℕ) → g i ≡ gave k r → k < s.count i
    unfolding Fine TookOk number_of
    took-past i n g e a = subst (TookOk s.count i) e (v.fine (took i n) a)

    pub forgot : (n : ℕ) (g : ℕ → Answer) → s.phase n ≡ noted g → EachOf g (λ i k r. In (took i n) s.sent) → Inv decide f (turns s n forgotten)
    unfolding PhaseOk DoubtOk
    forgot n g e t =
        turned s n (noted g) forgotten e v tt (λ j m x q z d. gone j d.0) (λ m b q h. fine-forgotten s.kept s.count s.doubt g past m h) (λ j m x q z. absurd (in-doubt j m x q z))
      where
        past : EachOf g (λ i k r. k < s.count i)
        past i k r h = took-past i n g e (t i k r h) k r h

        gone : (j : ℕ) → g j ≡ gave (s.count j) (s.kept j) → ⊥
        gone j h = omega (arith, past j (s.count j) (s.kept j) h)

        in-doubt : (j m : ℕ) (x : List ℕ) → m ≡ n → s.doubt j ≡ prepared m x → ⊥
        in-doubt j m x q z = gone j (subst (DoubtOk decide s.kept s.count j m x) (ap s.phase q ∙ e) (v.doubted j m x z)).0

    -- ---- the note
    stored-now : (i n : ℕ) (g : ℕ → Answer) → s.phase n ≡ decided g → In (stored i n) s.sent → s.doubt i ≡ prepared n (decide n (shown g) i)
    unfolding Fine StoredOk number_of
    stored-now i n g e a = subst (StoredOk decide s.doubt i n) e (v.fine (stored i n) a)

    decided-past : (n : ℕ) (g : ℕ → Answer) → s.phase n ≡ decided g → EachOf g (Past s.kept s.count)
    unfolding PhaseOk
    decided-past n g e = subst (PhaseOk decide s.kept s.count s.doubt n) e (v.phases n)

    module _ (n : ℕ) (g : ℕ → Answer) (e : s.phase n ≡ decided g) (t : EachOf g (λ i k r. In (stored i n) s.sent)) where
      -- a row that the call heard is the current one
      was : (i k : ℕ) (r : List ℕ) → g i ≡ gave k r → current s i ≡ r
      unfolding current current_of if_noted DoubtOk
      was i k r h =
          let d = stored-now i n g e (t i k r h) in
          let o : gave k r ≡ gave (s.count i) (s.kept i) = sym h ∙ (subst (DoubtOk decide s.kept s.count i n (decide n (shown g) i)) e (v.doubted i n (decide n (shown g) i) d)).0 in
          let w : s.kept i ≡ r = cc in
          ap (λ (x : Doubt). current_of x s.phase (s.kept i)) d ∙ ap (λ (x : Phase). if_noted x (decide n (shown g) i) (s.kept i)) e ∙ w

      saw-them : shown g ≡ given g (after decide f (noteds s.log))
      unfolding shown given show answered
      saw-them = fun_ext (λ i. each i (g i) refl)
        where
          each : (i : ℕ) (a : Answer) → g i ≡ a → show a ≡ cond (answered a) (some (after decide f (noteds s.log) i)) none
          each i silent h = refl
          each i (gave k r) h = ap some (sym (was i k r h) ∙ v.rows i)

      -- its rows count from now on
      rows-silent : (i : ℕ) → g i ≡ silent → current (logs (turns s n (noted g)) (committed n g)) i ≡ current s i
      unfolding current current_of logs turns DoubtOk
      rows-silent i h = go (s.doubt i) refl
        where
          go : (d : Doubt) → s.doubt i ≡ d → current_of d (set s.phase n (noted g)) (s.kept i) ≡ current_of d s.phase (s.kept i)
          go clear z = refl
          go (prepared m x) z =
              ap
              (λ (y : Phase). if_noted y x (s.kept i))
              (set_other s.phase n (noted g) m (λ q. let o : silent ≡ gave (s.count i) (s.kept i) = sym h ∙ (subst (DoubtOk decide s.kept s.count i m x) (ap s.phase q ∙ e) (v.doubted i m x z)).0 in no cc))

      rows-gave : (i k : ℕ) (r : List ℕ) → g i ≡ gave k r → current (logs (turns s n (noted g)) (committed n g)) i ≡ decide n (shown g) i
      unfolding current current_of logs turns if_noted
      rows-gave i k r h =
          ap (λ (x : Doubt). current_of x (set s.phase n (noted g)) (s.kept i)) (stored-now i n g e (t i k r h)) ∙ ap (λ (x : Phase). if_noted x (decide n (shown g) i) (s.kept i)) (set_same s.phase n (noted g) n refl)

      rows-noted : (i : ℕ) → current (logs (turns s n (noted g)) (committed n g)) i ≡ made decide (record { call = n; heard = g }) (after decide f (noteds s.log)) i
      unfolding made answered
      rows-noted i = go (g i) refl
        where
          go : (a : Answer) → g i ≡ a → current (logs (turns s n (noted g)) (committed n g)) i ≡ cond (answered a) (decide n (given g (after decide f (noteds s.log))) i) (after decide f (noteds s.log) i)
          go silent h = rows-silent i h ∙ v.rows i
          go (gave k r) h = rows-gave i k r h ∙ ap (λ (x : ℕ → Shown). decide n x i) saw-them

      pub noted-it : Inv decide f (logs (turns s n (noted g)) (committed n g))
      unfolding logs turns PhaseOk DoubtOk after Saw noteds
      noted-it = record {
        phases = turn-phases s n (decided g) (noted g) e v (λ i k r h. (decided-past n g e i k r h, inl (stored-now i n g e (t i k r h))));
        doubted = turn-doubts s n (decided g) (noted g) e v (λ j m x q z d. d);
        fine = turn-fine s n (decided g) (noted g) e v (λ m b q h. fine-noted s.kept s.count s.doubt g m h);
        rows = rows-noted;
        saw = (saw-them, v.saw);
      }
