-- Every call that has ended is in the list, once, and stands there between its begin and its end.
use mathlib.Core.Path.{◌≡◌, refl, sym, ◌∙◌, ap, subst}
use mathlib.Core.Bool.{Bool, true, false}
use mathlib.Core.Logic.{◌⊎◌, inl, inr}
use mathlib.Core.List.{List, [], ◌∷◌, ◌++◌, append_assoc}
use Prim.Native.Nat.{ℕ}
use Rattle.commit.specs.Steps.{Answer, silent, gave, Decision, Phase, unused, gathering, decided, noted, forgotten, confirmed, dropped, Event, looked, committed, State, set, Runs, says, turns, logs, puts, installs, Step, begins, gives, hears, decides, ships, stores, reports-stored, notes, tells-take, takes, reports-took, forgets, gives_up, tells-drop, drops, crashes, asks-again, confirms, ends, founded, Reached, start, then, Later, now, later}
use Rattle.commit.specs.Atomic.{Entry, if_confirmed, entries, calls, Ended, Among, Distinct, Ledger, EveryCallOnce, NoneLost, Precedes, InRealTime}
use Rattle.commit.proofs.Invariant.{set_same, set_other, set-elim, Looked, no}

-- ---- what the log has of a call: that it looked (false), that it was noted (true)
unfoldable kind_of : Event → Bool
kind_of (looked n) = false
kind_of (committed n g) = true

unfoldable call_of : Event → ℕ
call_of (looked n) = n
call_of (committed n g) = n

unfoldable Logged : Bool → ℕ → List Event → Type 0
Logged b n [] = ⊥
Logged b n (e ∷ es) = ((kind_of e ≡ b) × (call_of e ≡ n)) ⊎ Logged b n es

unfoldable OnceLogged : List Event → Type 0
OnceLogged [] = Unit {0}
OnceLogged (e ∷ es) = (Logged (kind_of e) (call_of e) es → ⊥) × OnceLogged es

unfoldable Done : Phase → Type 0
Done unused = ⊥
Done (gathering g) = ⊥
Done (decided g) = ⊥
Done (noted g) = Unit {0}
Done forgotten = Unit {0}
Done (confirmed g) = ⊥
Done dropped = ⊥

unfoldable Confirmed : Phase → Type 0
Confirmed unused = ⊥
Confirmed (gathering g) = ⊥
Confirmed (decided g) = ⊥
Confirmed (noted g) = ⊥
Confirmed forgotten = ⊥
Confirmed (confirmed g) = Unit {0}
Confirmed dropped = ⊥

-- decided, or confirmed
unfoldable Waits : Phase → Type 0
Waits unused = ⊥
Waits (gathering g) = ⊥
Waits (decided g) = Unit {0}
Waits (noted g) = ⊥
Waits forgotten = ⊥
Waits (confirmed g) = Unit {0}
Waits dropped = ⊥

record LogOk (phase : ℕ → Phase) (log : List Event) : Type 0 where
  was-done : (n : ℕ) → Logged true n log → Done (phase n)
  is-noted : (n : ℕ) → Done (phase n) → Logged true n log
  was-looked : (n : ℕ) → Logged false n log → Looked (phase n)
  has-looked : (n : ℕ) → Waits (phase n) → Logged false n log
  once : OnceLogged log

-- ---- every step keeps it
turned : (s : State) (n : ℕ) (old p : Phase) → s.phase n ≡ old → (Done old → Done p) → (Done p → Done old) → (Looked old → Looked p) → (Waits p → Waits old) → LogOk s.phase s.log → LogOk (set s.phase n p) s.log
turned s n old p e a b c d l = record {
  was-done = λ m h. set-elim Done s.phase n p m (λ q. a (subst Done (ap s.phase q ∙ e) (l.was-done m h))) (λ q. l.was-done m h);
  is-noted = λ m. set-elim (λ (x : Phase). Done x → Logged true m s.log) s.phase n p m (λ q z. l.is-noted m (subst Done (sym (ap s.phase q ∙ e)) (b z))) (λ q. l.is-noted m);
  was-looked = λ m h. set-elim Looked s.phase n p m (λ q. c (subst Looked (ap s.phase q ∙ e) (l.was-looked m h))) (λ q. l.was-looked m h);
  has-looked = λ m. set-elim (λ (x : Phase). Waits x → Logged false m s.log) s.phase n p m (λ q z. l.has-looked m (subst Waits (sym (ap s.phase q ∙ e)) (d z))) (λ q. l.has-looked m);
  once = l.once;
}

looks-in : (s : State) (n : ℕ) (g : ℕ → Answer) → s.phase n ≡ gathering g → LogOk s.phase s.log → LogOk (set s.phase n (decided g)) (looked n ∷ s.log)
unfolding Logged OnceLogged kind_of call_of Done Waits Looked
looks-in s n g e l = record {
  was-done = λ m h. other m (noted-too m h);
  is-noted = λ m. set-elim (λ (x : Phase). Done x → ((false ≡ true) × (n ≡ m)) ⊎ Logged true m s.log) s.phase n (decided g) m (λ q z. absurd z) (λ q z. inr (l.is-noted m z));
  was-looked = λ m h. set-elim Looked s.phase n (decided g) m (λ q. tt) (λ q. looked-too m q h);
  has-looked = λ m. set-elim (λ (x : Phase). Waits x → ((false ≡ false) × (n ≡ m)) ⊎ Logged false m s.log) s.phase n (decided g) m (λ q z. inl (refl, sym q)) (λ q z. inr (l.has-looked m z));
  once = (λ h. subst Looked e (l.was-looked n h), l.once);
}
  where
    noted-too : (m : ℕ) → ((false ≡ true) × (n ≡ m)) ⊎ Logged true m s.log → Logged true m s.log
    noted-too m (inl z) = let w : false ≡ true = z.0 in absurd (no cc)
    noted-too m (inr z) = z

    other : (m : ℕ) → Logged true m s.log → Done (set s.phase n (decided g) m)
    other m h = set-elim Done s.phase n (decided g) m (λ q. subst Done (ap s.phase q ∙ e) (l.was-done m h)) (λ q. l.was-done m h)

    looked-too : (m : ℕ) → (m ≡ n → ⊥) → ((false ≡ false) × (n ≡ m)) ⊎ Logged false m s.log → Looked (s.phase m)
    looked-too m q (inl z) = absurd (q (sym z.1))
    looked-too m q (inr z) = l.was-looked m z

commits-in : (s : State) (n : ℕ) (g : ℕ → Answer) → s.phase n ≡ decided g → LogOk s.phase s.log → LogOk (set s.phase n (noted g)) (committed n g ∷ s.log)
unfolding Logged OnceLogged kind_of call_of Done Waits Looked
commits-in s n g e l = record {
  was-done = λ m h. set-elim Done s.phase n (noted g) m (λ q. tt) (λ q. noted-too m q h);
  is-noted = λ m. set-elim (λ (x : Phase). Done x → ((true ≡ true) × (n ≡ m)) ⊎ Logged true m s.log) s.phase n (noted g) m (λ q z. inl (refl, sym q)) (λ q z. inr (l.is-noted m z));
  was-looked = λ m h. set-elim Looked s.phase n (noted g) m (λ q. tt) (λ q. l.was-looked m (looked-too m h));
  has-looked = λ m. set-elim (λ (x : Phase). Waits x → ((true ≡ false) × (n ≡ m)) ⊎ Logged false m s.log) s.phase n (noted g) m (λ q z. absurd z) (λ q z. inr (l.has-looked m z));
  once = (λ h. subst Done e (l.was-done n h), l.once);
}
  where
    noted-too : (m : ℕ) → (m ≡ n → ⊥) → ((true ≡ true) × (n ≡ m)) ⊎ Logged true m s.log → Done (s.phase m)
    noted-too m q (inl z) = absurd (q (sym z.1))
    noted-too m q (inr z) = l.was-done m z

    looked-too : (m : ℕ) → ((true ≡ false) × (n ≡ m)) ⊎ Logged false m s.log → Logged false m s.log
    looked-too m (inl z) = let w : true ≡ false = z.0 in absurd (no cc)
    looked-too m (inr z) = z

runs-open : (p : Phase) → Runs p → Done p → ⊥
unfolding Runs Done
runs-open unused a b = b
runs-open (gathering g) a b = b
runs-open (decided g) a b = b
runs-open (noted g) a b = a
runs-open forgotten a b = a
runs-open (confirmed g) a b = b
runs-open dropped a b = b

module _ (decide : Decision) (f : ℕ → List ℕ) where
  keeps : (s t : State) → Step decide s t → LogOk s.phase s.log → LogOk t.phase t.log
  unfolding says turns logs puts installs Done Looked Waits
  keeps _ _ (begins s n e) l = turned s n unused (gathering (λ i. silent)) e (λ z. z) (λ z. z) (λ z. z) (λ z. z) l
  keeps _ _ (gives s i n) l = l
  keeps _ _ (hears s i n k r g b e) l = turned s n (gathering g) (gathering (set g i (gave k r))) e (λ z. z) (λ z. z) (λ z. z) (λ z. z) l
  keeps _ _ (decides s n g e) l = looks-in s n g e l
  keeps _ _ (ships s i n k r g e o) l = l
  keeps _ _ (stores s i n k r b c u) l = l
  keeps _ _ (reports-stored s i n r d) l = l
  keeps _ _ (notes s n g e t) l = commits-in s n g e l
  keeps _ _ (tells-take s i n g e) l = l
  keeps _ _ (takes s i n r b d) l = l
  keeps _ _ (reports-took s i n b d) l = l
  keeps _ _ (forgets s n g e t) l = turned s n (noted g) forgotten e (λ z. tt) (λ z. tt) (λ z. tt) (λ z. z) l
  keeps _ _ (gives_up s n u) l = turned s n (s.phase n) dropped refl (runs-open (s.phase n) u) (λ z. absurd z) (λ z. tt) (λ z. absurd z) l
  keeps _ _ (tells-drop s i n o) l = l
  keeps _ _ (drops s i n r b d) l = l
  keeps _ _ (crashes s i) l = l
  keeps _ _ (asks-again s i n k r g e h) l = l
  keeps _ _ (confirms s i n k b c u) l = l
  keeps _ _ (ends s n g e t) l = turned s n (decided g) (confirmed g) e (λ z. z) (λ z. z) (λ z. tt) (λ z. tt) l

  logged : (s : State) → Reached decide f s → LogOk s.phase s.log
  unfolding founded Logged Done Waits OnceLogged
  logged _ start = record { was-done = λ n h. absurd h; is-noted = λ n h. absurd h; was-looked = λ n h. absurd h; has-looked = λ n h. absurd h; once = tt }
  logged _ (then s t h w) = keeps s t w (logged s h)

-- ---- the list, by the log
confirmed-in : (p : Phase) (n : ℕ) (es : List Entry) → Confirmed p → Among n (if_confirmed p n es)
unfolding Confirmed if_confirmed Among
confirmed-in unused n es c = absurd c
confirmed-in (gathering g) n es c = absurd c
confirmed-in (decided g) n es c = absurd c
confirmed-in (noted g) n es c = absurd c
confirmed-in forgotten n es c = absurd c
confirmed-in (confirmed g) n es c = inl refl
confirmed-in dropped n es c = absurd c

if-more : (p : Phase) (n m : ℕ) (es : List Entry) → Among m es → Among m (if_confirmed p n es)
unfolding if_confirmed Among
if-more unused n m es a = a
if-more (gathering g) n m es a = a
if-more (decided g) n m es a = a
if-more (noted g) n m es a = a
if-more forgotten n m es a = a
if-more (confirmed g) n m es a = inr a
if-more dropped n m es a = a

if-less : (p : Phase) (n m : ℕ) (es : List Entry) → Among m (if_confirmed p n es) → (Confirmed p × (n ≡ m)) ⊎ Among m es
unfolding if_confirmed Among Confirmed
if-less unused n m es a = inr a
if-less (gathering g) n m es a = inr a
if-less (decided g) n m es a = inr a
if-less (noted g) n m es a = inr a
if-less forgotten n m es a = inr a
if-less (confirmed g) n m es (inl a) = inl (tt, a)
if-less (confirmed g) n m es (inr a) = inr a
if-less dropped n m es a = inr a

deeper : (e : Event) (n : ℕ) (es : List Event) (p : Phase) → Logged true n es ⊎ (Logged false n es × Confirmed p) → Logged true n (e ∷ es) ⊎ (Logged false n (e ∷ es) × Confirmed p)
unfolding Logged
deeper e n es p (inl x) = inl (inr x)
deeper e n es p (inr x) = inr (inr x.0, x.1)

among-logged : (phase : ℕ → Phase) (n : ℕ) (es : List Event) → Among n (entries phase es) → Logged true n es ⊎ (Logged false n es × Confirmed (phase n))
unfolding entries Among Logged kind_of call_of
among-logged phase n [] a = absurd a
among-logged phase n (looked m ∷ es) a = go (λ x. among-logged phase n es x) (if-less (phase m) m n (entries phase es) a)
  where
    go : (Among n (entries phase es) → Logged true n es ⊎ (Logged false n es × Confirmed (phase n))) → (Confirmed (phase m) × (m ≡ n)) ⊎ Among n (entries phase es)
        → Logged true n (looked m ∷ es) ⊎ (Logged false n (looked m ∷ es) × Confirmed (phase n))
    go h (inl x) = inr (inl (refl, x.1), subst (λ (y : ℕ). Confirmed (phase y)) x.1 x.0)
    go h (inr x) = deeper (looked m) n es (phase n) (h x)
among-logged phase n (committed m g ∷ es) (inl a) = inl (inl (refl, a))
among-logged phase n (committed m g ∷ es) (inr a) = deeper (committed m g) n es (phase n) (among-logged phase n es a)

noted-among : (phase : ℕ → Phase) (n : ℕ) (es : List Event) → Logged true n es → Among n (entries phase es)
unfolding entries Among Logged kind_of call_of
noted-among phase n [] a = absurd a
noted-among phase n (looked m ∷ es) (inl a) = let w : false ≡ true = a.0 in absurd (no cc)
noted-among phase n (looked m ∷ es) (inr a) = if-more (phase m) m n (entries phase es) (noted-among phase n es a)
noted-among phase n (committed m g ∷ es) (inl a) = inl a.1
noted-among phase n (committed m g ∷ es) (inr a) = inr (noted-among phase n es a)

confirmed-among : (phase : ℕ → Phase) (n : ℕ) (es : List Event) → Confirmed (phase n) → Logged false n es → Among n (entries phase es)
unfolding entries Among Logged kind_of call_of
confirmed-among phase n [] c a = absurd a
confirmed-among phase n (looked m ∷ es) c (inl a) = subst (λ (x : ℕ). Among n (if_confirmed (phase x) x (entries phase es))) (sym a.1) (confirmed-in (phase n) n (entries phase es) c)
confirmed-among phase n (looked m ∷ es) c (inr a) = if-more (phase m) m n (entries phase es) (confirmed-among phase n es c a)
confirmed-among phase n (committed m g ∷ es) c (inl a) = let w : true ≡ false = a.0 in absurd (no cc)
confirmed-among phase n (committed m g ∷ es) c (inr a) = inr (confirmed-among phase n es c a)

-- a call that has ended was noted, or confirmed
ended-how : (p : Phase) → Ended p → Done p ⊎ Confirmed p
unfolding Ended Done Confirmed
ended-how unused a = absurd a
ended-how (gathering g) a = absurd a
ended-how (decided g) a = absurd a
ended-how (noted g) a = inl tt
ended-how forgotten a = inl tt
ended-how (confirmed g) a = inr tt
ended-how dropped a = absurd a

done-ended : (p : Phase) → Done p → Ended p
unfolding Ended Done
done-ended unused a = a
done-ended (gathering g) a = a
done-ended (decided g) a = a
done-ended (noted g) a = tt
done-ended forgotten a = tt
done-ended (confirmed g) a = tt
done-ended dropped a = a

confirmed-ended : (p : Phase) → Confirmed p → (Waits p × Ended p) × (Done p → ⊥)
unfolding Ended Done Confirmed Waits
confirmed-ended unused a = absurd a
confirmed-ended (gathering g) a = absurd a
confirmed-ended (decided g) a = absurd a
confirmed-ended (noted g) a = absurd a
confirmed-ended forgotten a = absurd a
confirmed-ended (confirmed g) a = ((tt, tt), λ z. z)
confirmed-ended dropped a = absurd a

if-distinct : (p : Phase) (n : ℕ) (es : List Entry) → (Confirmed p → Among n es → ⊥) → Distinct es → Distinct (if_confirmed p n es)
unfolding if_confirmed Distinct Confirmed
if-distinct unused n es h d = d
if-distinct (gathering g) n es h d = d
if-distinct (decided g) n es h d = d
if-distinct (noted g) n es h d = d
if-distinct forgotten n es h d = d
if-distinct (confirmed g) n es h d = (h tt, d)
if-distinct dropped n es h d = d

distinct-entries : (phase : ℕ → Phase) (es : List Event) → ((n : ℕ) → Logged true n es → Done (phase n)) → OnceLogged es → Distinct (entries phase es)
unfolding entries Distinct OnceLogged Logged kind_of call_of
distinct-entries phase [] h o = tt
distinct-entries phase (looked n ∷ es) h o = if-distinct (phase n) n (entries phase es) (λ c a. go c (among-logged phase n es a)) (distinct-entries phase es (λ m x. h m (inr x)) o.1)
  where
    go : Confirmed (phase n) → Logged true n es ⊎ (Logged false n es × Confirmed (phase n)) → ⊥
    go c (inl x) = (confirmed-ended (phase n) c).1 (h n (inr x))
    go c (inr x) = o.0 x.0
distinct-entries phase (committed n g ∷ es) h o = (λ a. go (among-logged phase n es a), distinct-entries phase es (λ m x. h m (inr x)) o.1)
  where
    go : Logged true n es ⊎ (Logged false n es × Confirmed (phase n)) → ⊥
    go (inl x) = o.0 x
    go (inr x) = (confirmed-ended (phase n) x.1).1 (h n (inl (refl, refl)))

pub every-call-once : EveryCallOnce
unfolding EveryCallOnce calls
every-call-once decide f s h = record { all = λ n a. there n (ended-how (s.phase n) a); only = λ n a. back n (among-logged s.phase n s.log a); once = distinct-entries s.phase s.log l.was-done l.once }
  where
    l : LogOk s.phase s.log
    l = logged decide f s h

    there : (n : ℕ) → Done (s.phase n) ⊎ Confirmed (s.phase n) → Among n (entries s.phase s.log)
    there n (inl a) = noted-among s.phase n s.log (l.is-noted n a)
    there n (inr a) = confirmed-among s.phase n s.log a (l.has-looked n (confirmed-ended (s.phase n) a).0.0)

    back : (n : ℕ) → Logged true n s.log ⊎ (Logged false n s.log × Confirmed (s.phase n)) → Ended (s.phase n)
    back n (inl a) = done-ended (s.phase n) (l.was-done n a)
    back n (inr a) = (confirmed-ended (s.phase n) a.1).0.1

-- ---- a phase that lasts
record Lasting (P : Phase → Type 0) : Type 0 where
  unused-not : P unused → ⊥
  gathering-not : (g : ℕ → Answer) → P (gathering g) → ⊥
  decided-not : (g : ℕ → Answer) → P (decided g) → ⊥
  noted-on : (g : ℕ → Answer) → P (noted g) → P forgotten

module _ (decide : Decision) (P : Phase → Type 0) (c : Lasting P) where
  runs-not : (p : Phase) → Runs p → P p → ⊥
  unfolding Runs
  runs-not unused a b = a
  runs-not (gathering g) a b = c.gathering-not g b
  runs-not (decided g) a b = c.decided-not g b
  runs-not (noted g) a b = a
  runs-not forgotten a b = a
  runs-not (confirmed g) a b = a
  runs-not dropped a b = a

  turned_on : (s : State) (n : ℕ) (old p : Phase) → s.phase n ≡ old → (P old → P p) → (m : ℕ) → P (s.phase m) → P (set s.phase n p m)
  turned_on s n old p e h m a = set-elim P s.phase n p m (λ q. h (subst P (ap s.phase q ∙ e) a)) (λ q. a)

  stays : (s t : State) → Step decide s t → (m : ℕ) → P (s.phase m) → P (t.phase m)
  unfolding says turns logs puts installs
  stays _ _ (begins s n e) m a = turned_on s n unused (gathering (λ i. silent)) e (λ b. absurd (c.unused-not b)) m a
  stays _ _ (gives s i n) m a = a
  stays _ _ (hears s i n k r g b e) m a = turned_on s n (gathering g) (gathering (set g i (gave k r))) e (λ b. absurd (c.gathering-not g b)) m a
  stays _ _ (decides s n g e) m a = turned_on s n (gathering g) (decided g) e (λ b. absurd (c.gathering-not g b)) m a
  stays _ _ (ships s i n k r g e o) m a = a
  stays _ _ (stores s i n k r b d u) m a = a
  stays _ _ (reports-stored s i n r d) m a = a
  stays _ _ (notes s n g e t) m a = turned_on s n (decided g) (noted g) e (λ b. absurd (c.decided-not g b)) m a
  stays _ _ (tells-take s i n g e) m a = a
  stays _ _ (takes s i n r b d) m a = a
  stays _ _ (reports-took s i n b d) m a = a
  stays _ _ (forgets s n g e t) m a = turned_on s n (noted g) forgotten e (c.noted-on g) m a
  stays _ _ (gives_up s n u) m a = turned_on s n (s.phase n) dropped refl (λ b. absurd (runs-not (s.phase n) u b)) m a
  stays _ _ (tells-drop s i n o) m a = a
  stays _ _ (drops s i n r b d) m a = a
  stays _ _ (crashes s i) m a = a
  stays _ _ (asks-again s i n k r g e h) m a = a
  stays _ _ (confirms s i n k b d u) m a = a
  stays _ _ (ends s n g e t) m a = turned_on s n (decided g) (confirmed g) e (λ b. absurd (c.decided-not g b)) m a

  lasts : (s t : State) → Later decide s t → (n : ℕ) → P (s.phase n) → P (t.phase n)
  lasts s _ now n a = a
  lasts s _ (later t u l w) n a = stays t u w n (lasts s t l n a)

ended-lasting : Lasting Ended
unfolding Ended
ended-lasting = record { unused-not = λ a. a; gathering-not = λ g a. a; decided-not = λ g a. a; noted-on = λ g a. tt }

confirmed-lasting : Lasting Confirmed
unfolding Confirmed
confirmed-lasting = record { unused-not = λ a. a; gathering-not = λ g a. a; decided-not = λ g a. a; noted-on = λ g a. a }

pub none-lost : NoneLost
unfolding NoneLost
none-lost decide = lasts decide Ended ended-lasting

-- ---- the log grows
module _ (decide : Decision) where
  grows : (s t : State) → Step decide s t → (xs : List Event) × (t.log ≡ xs ++ s.log)
  unfolding says turns logs puts installs
  grows _ _ (begins s n e) = ([], refl)
  grows _ _ (gives s i n) = ([], refl)
  grows _ _ (hears s i n k r g b e) = ([], refl)
  grows _ _ (decides s n g e) = (looked n ∷ [], refl)
  grows _ _ (ships s i n k r g e o) = ([], refl)
  grows _ _ (stores s i n k r b d u) = ([], refl)
  grows _ _ (reports-stored s i n r d) = ([], refl)
  grows _ _ (notes s n g e t) = (committed n g ∷ [], refl)
  grows _ _ (tells-take s i n g e) = ([], refl)
  grows _ _ (takes s i n r b d) = ([], refl)
  grows _ _ (reports-took s i n b d) = ([], refl)
  grows _ _ (forgets s n g e t) = ([], refl)
  grows _ _ (gives_up s n u) = ([], refl)
  grows _ _ (tells-drop s i n o) = ([], refl)
  grows _ _ (drops s i n r b d) = ([], refl)
  grows _ _ (crashes s i) = ([], refl)
  grows _ _ (asks-again s i n k r g e h) = ([], refl)
  grows _ _ (confirms s i n k b d u) = ([], refl)
  grows _ _ (ends s n g e t) = ([], refl)

  grown : (s t : State) → Later decide s t → (xs : List Event) × (t.log ≡ xs ++ s.log)
  grown s _ now = ([], refl)
  grown s _ (later t u l w) =
      let a = grown s t l in
      let b = grows t u w in
      (b.0 ++ a.0, b.1 ∙ ap (λ (x : List Event). b.0 ++ x) a.1 ∙ sym (append_assoc b.0 a.0 s.log))

-- ---- between its begin and its end
precedes-none : (m n : ℕ) (es : List Entry) → (Among n es → ⊥) → Precedes m n es
unfolding Precedes Among
precedes-none m n [] h = tt
precedes-none m n (e ∷ es) h = (λ q. absurd (h (inl q)), precedes-none m n es (λ a. h (inr a)))

if-precedes : (p : Phase) (k m n : ℕ) (es : List Entry) → Among m es → Precedes m n es → Precedes m n (if_confirmed p k es)
unfolding if_confirmed Precedes
if-precedes unused k m n es a d = d
if-precedes (gathering g) k m n es a d = d
if-precedes (decided g) k m n es a d = d
if-precedes (noted g) k m n es a d = d
if-precedes forgotten k m n es a d = d
if-precedes (confirmed g) k m n es a d = (λ q. a, d)
if-precedes dropped k m n es a d = d

still-among : (phase : ℕ → Phase) (m : ℕ) (xs es : List Event) → Among m (entries phase es) → Among m (entries phase (xs ++ es))
unfolding entries Among
still-among phase m [] es a = a
still-among phase m (looked n ∷ xs) es a = if-more (phase n) n m (entries phase (xs ++ es)) (still-among phase m xs es a)
still-among phase m (committed n g ∷ xs) es a = inr (still-among phase m xs es a)

-- what is logged later stands later
newer : (phase : ℕ → Phase) (m n : ℕ) (xs es : List Event) → Among m (entries phase es) → Precedes m n (entries phase es) → Precedes m n (entries phase (xs ++ es))
unfolding entries Precedes
newer phase m n [] es a d = d
newer phase m n (looked k ∷ xs) es a d = if-precedes (phase k) k m n (entries phase (xs ++ es)) (still-among phase m xs es a) (newer phase m n xs es a d)
newer phase m n (committed k g ∷ xs) es a d = (λ q. still-among phase m xs es a, newer phase m n xs es a d)

pub in-real-time : InRealTime
unfolding InRealTime calls Done Looked
in-real-time decide f s t h l m n a u =
    let x = grown decide s t l in
    subst (λ (y : List Event). Precedes m n (entries t.phase y)) (sym x.1) (newer t.phase m n x.0 s.log (there (ended-how (s.phase m) a)) (precedes-none m n (entries t.phase s.log) (λ z. fresh (among-logged t.phase n s.log z))))
  where
    o : LogOk s.phase s.log
    o = logged decide f s h

    there : Done (s.phase m) ⊎ Confirmed (s.phase m) → Among m (entries t.phase s.log)
    there (inl z) = noted-among t.phase m s.log (o.is-noted m z)
    there (inr z) = confirmed-among t.phase m s.log (lasts decide Confirmed confirmed-lasting s t l m z) (o.has-looked m (confirmed-ended (s.phase m) z).0.0)

    fresh : Logged true n s.log ⊎ (Logged false n s.log × Confirmed (t.phase n)) → ⊥
    fresh (inl z) = subst Done u (o.was-done n z)
    fresh (inr z) = subst Looked u (o.was-looked n z.0)
