-- Every call is atomic.
use mathlib.Core.Path.{◌≡◌, refl, sym, ◌∙◌, ap, subst, fun_ext}
use mathlib.Core.Bool.{Bool, true, false, cond}
use mathlib.Core.List.{List, [], ◌∷◌}
use Prim.Native.Nat.{ℕ}
use Rattle.commit.specs.Steps.{Answer, silent, gave, Shown, none, some, show, shown, Decision, Phase, unused, gathering, decided, noted, forgotten, confirmed, dropped, Event, looked, committed, State, EachOf, Reached}
use Rattle.commit.specs.Atomic.{Entry, if_confirmed, entries, calls, answered, given, made, after, Saw, EveryCallAtomic}
use Rattle.commit.proofs.Invariant.{noteds}
use Rattle.commit.proofs.Kept.{always}
use Rattle.commit.proofs.Looks.{LookOk, Looks, looks}

-- ---- atomic: a call that ended by its second round changes nothing where it stands
module _ (decide : Decision) (f : ℕ → List ℕ) (s : State) where
  -- it saw these rows and leaves them
  module _ (n : ℕ) (g : ℕ → Answer) (rows : ℕ → List ℕ) (o : EachOf g (λ i k r. (r ≡ rows i) × (decide n (shown g) i ≡ r))) where
    saw-rows : shown g ≡ given g rows
    unfolding shown given show answered
    saw-rows = fun_ext (λ i. each i (g i) refl)
      where
        each : (i : ℕ) (a : Answer) → g i ≡ a → show a ≡ cond (answered a) (some (rows i)) none
        each i silent h = refl
        each i (gave k r) h = ap some (o i k r h).0

    leaves-rows : made decide (record { call = n; heard = g }) rows ≡ rows
    unfolding made answered
    leaves-rows = fun_ext (λ i. each i (g i) refl)
      where
        each : (i : ℕ) (a : Answer) → g i ≡ a → cond (answered a) (decide n (given g rows) i) (rows i) ≡ rows i
        each i silent h = refl
        each i (gave k r) h = ap (λ (x : ℕ → Shown). decide n x i) (sym saw-rows) ∙ (o i k r h).1 ∙ (o i k r h).0

  entered : (n : ℕ) (es : List Event) (ks : List Entry) → after decide f ks ≡ after decide f (noteds es) → (p : Phase) → s.phase n ≡ p → LookOk decide f s n es
      → after decide f (if_confirmed p n ks) ≡ after decide f (noteds es)
  unfolding if_confirmed after
  entered n es ks h unused e l = h
  entered n es ks h (gathering g) e l = h
  entered n es ks h (decided g) e l = h
  entered n es ks h (noted g) e l = h
  entered n es ks h forgotten e l = h
  entered n es ks h (confirmed g) e l = ap (made decide (record { call = n; heard = g })) h ∙ leaves-rows n g (after decide f (noteds es)) (l.over g e)
  entered n es ks h dropped e l = h

  after-entries : (es : List Event) → Looks decide f s es → after decide f (entries s.phase es) ≡ after decide f (noteds es)
  unfolding entries noteds Looks after
  after-entries [] a = refl
  after-entries (looked n ∷ es) a = entered n es (entries s.phase es) (after-entries es a.1) (s.phase n) refl a.0
  after-entries (committed n g ∷ es) a = ap (made decide (record { call = n; heard = g })) (after-entries es a)

  saw-it : (n : ℕ) (es : List Event) (ks : List Entry) → after decide f ks ≡ after decide f (noteds es) → Saw decide f ks → (p : Phase) → s.phase n ≡ p → LookOk decide f s n es → Saw decide f (if_confirmed p n ks)
  unfolding if_confirmed Saw
  saw-it n es ks h w unused e l = w
  saw-it n es ks h w (gathering g) e l = w
  saw-it n es ks h w (decided g) e l = w
  saw-it n es ks h w (noted g) e l = w
  saw-it n es ks h w forgotten e l = w
  saw-it n es ks h w (confirmed g) e l = (saw-rows n g (after decide f (noteds es)) (l.over g e) ∙ ap (given g) (sym h), w)
  saw-it n es ks h w dropped e l = w

  saw-entries : (es : List Event) → Looks decide f s es → Saw decide f (noteds es) → Saw decide f (entries s.phase es)
  unfolding entries noteds Looks Saw
  saw-entries [] a w = tt
  saw-entries (looked n ∷ es) a w = saw-it n es (entries s.phase es) (after-entries es a.1) (saw-entries es a.1 w) (s.phase n) refl a.0
  saw-entries (committed n g ∷ es) a w = (w.0 ∙ ap (given g) (sym (after-entries es a)), saw-entries es a w.1)

pub every-call-atomic : EveryCallAtomic
unfolding EveryCallAtomic calls
every-call-atomic decide f s h =
    let v = always decide f s h in
    let l = looks decide f s h in
    record { rows = λ i. v.rows i ∙ ap (λ (x : ℕ → List ℕ). x i) (sym (after-entries decide f s s.log l)); saw = saw-entries decide f s s.log l v.saw }
