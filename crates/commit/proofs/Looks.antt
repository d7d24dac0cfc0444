-- A call that ends by its second round saw the rows that the calls noted before its look had left.
use mathlib.Core.Path.{◌≡◌, refl, sym, ◌∙◌, ap, subst}
use mathlib.Core.Bool.{Bool, true, false}
use mathlib.Core.Logic.{◌⊎◌, inl, inr}
use mathlib.Core.List.{List, [], ◌∷◌}
use Prim.Native.Nat.{ℕ, suc, ◌≤◌, ◌<◌}
use native.Mathlib.Omega.{arith}
use lib.Dec.{ltb}
use borrow.Author.Tests.{ltb-true, ltb-false}
use Rattle.commit.specs.Steps.{Answer, silent, gave, shown, Decision, Doubt, clear, prepared, Phase, unused, gathering, decided, noted, forgotten, confirmed, dropped, Message, row, store, stored, take, drop, took, again, still, Event, looked, committed, State, set, In, EachOf, Runs, NoRecord, says, turns, logs, puts, installs, Step, begins, gives, hears, decides, ships, stores, reports-stored, notes, tells-take, takes, reports-took, forgets, gives_up, tells-drop, drops, crashes, asks-again, confirms, ends, founded, Reached, start, then}
use Rattle.commit.specs.Atomic.{if_noted, current_of, current, after}
use Rattle.commit.proofs.Invariant.{same?, set_same, set_other, set-elim, number_of, noteds, Past, PhaseOk, DoubtOk, AgainOk, Looked, Fine, Inv, no}
use Rattle.commit.proofs.Turns.{heard-past}
use Rattle.commit.proofs.Moves.{is-over}
use Rattle.commit.proofs.Kept.{keeps, always}

below : (k c : ℕ) → k ≤ c → (k ≡ c → ⊥) → k < c
below k c l q = go (ltb k c) refl
  where
    go : (b : Bool) → ltb k c ≡ b → k < c
    go true e = omega (arith, ltb-true)
    go false e = absurd (q (omega (arith, ltb-false)))

module _ (decide : Decision) (f : ℕ → List ℕ) where
  pub climbs : (s t : State) → Step decide s t → (j : ℕ) → s.count j ≤ t.count j
  unfolding says turns logs puts installs
  climbs _ _ (begins s n e) j = omega arith
  climbs _ _ (gives s i n) j = omega arith
  climbs _ _ (hears s i n k r g b e) j = omega arith
  climbs _ _ (decides s n g e) j = omega arith
  climbs _ _ (ships s i n k r g e o) j = omega arith
  climbs _ _ (stores s i n k r b c u) j = omega arith
  climbs _ _ (reports-stored s i n r d) j = omega arith
  climbs _ _ (notes s n g e t) j = omega arith
  climbs _ _ (tells-take s i n g e) j = omega arith
  climbs _ _ (takes s i n r b d) j = set-elim (λ (x : ℕ). s.count j ≤ x) s.count i (suc (s.count i)) j (λ q. let y : s.count j ≡ s.count i = ap s.count q in omega arith) (λ q. omega arith)
  climbs _ _ (reports-took s i n b d) j = omega arith
  climbs _ _ (forgets s n g e t) j = omega arith
  climbs _ _ (gives_up s n u) j = omega arith
  climbs _ _ (tells-drop s i n o) j = omega arith
  climbs _ _ (drops s i n r b d) j = omega arith
  climbs _ _ (crashes s i) j = omega arith
  climbs _ _ (asks-again s i n k r g e h) j = omega arith
  climbs _ _ (confirms s i n k a c u) j = omega arith
  climbs _ _ (ends s n g e t) j = omega arith

  -- a noted call's row is prepared at machine j, whose count is c: it stays so until it is taken
  pub Held : State → ℕ → ℕ → Type 0
  Held u j c = (m : ℕ) × (x : List ℕ) × (h : ℕ → Answer) × (u.phase m ≡ noted h) × (u.doubt j ≡ prepared m x) × (u.count j ≡ c)

  module _ (j c m : ℕ) (x : List ℕ) (h : ℕ → Answer) where
    turns-not : (s : State) (n : ℕ) (p : Phase) → (s.phase n ≡ noted h → ⊥) → s.phase m ≡ noted h → set s.phase n p m ≡ noted h
    turns-not s n p a e = set_other s.phase n p m (λ q. a (ap s.phase (sym q) ∙ e)) ∙ e

    runs-not : (p : Phase) → Runs p → p ≡ noted h → ⊥
    unfolding Runs
    runs-not p u z = subst Runs z u

    over-not : (p : Phase) → NoRecord p → p ≡ noted h → ⊥
    unfolding NoRecord
    over-not p u z = subst NoRecord z u

    held : (s t : State) → Step decide s t → Inv decide f s → s.phase m ≡ noted h → s.doubt j ≡ prepared m x → s.count j ≡ c → (c < t.count j) ⊎ Held t j c
    unfolding says turns logs puts installs Held DoubtOk
    held _ _ (begins s n e) v p d u = inr (m, x, h, turns-not s n (gathering (λ i. silent)) (λ z. let w : unused ≡ noted h = sym e ∙ z in no cc) p, d, u)
    held _ _ (gives s i n) v p d u = inr (m, x, h, p, d, u)
    held _ _ (hears s i n k r g b e) v p d u = inr (m, x, h, turns-not s n (gathering (set g i (gave k r))) (λ z. let w : gathering g ≡ noted h = sym e ∙ z in no cc) p, d, u)
    held _ _ (decides s n g e) v p d u = inr (m, x, h, turns-not s n (decided g) (λ z. let w : gathering g ≡ noted h = sym e ∙ z in no cc) p, d, u)
    held _ _ (ships s i n k r g e o) v p d u = inr (m, x, h, p, d, u)
    held _ _ (stores s i n k r b a w) v p d u = inr (m, x, h, p, set_other s.doubt i (prepared n r) j (λ q. let z : clear ≡ prepared m x = sym a ∙ ap s.doubt (sym q) ∙ d in no cc) ∙ d, u)
    held _ _ (reports-stored s i n r a) v p d u = inr (m, x, h, p, d, u)
    held _ _ (notes s n g e t) v p d u = inr (m, x, h, turns-not s n (noted g) (λ z. let w : decided g ≡ noted h = sym e ∙ z in no cc) p, d, u)
    held _ _ (tells-take s i n g e) v p d u = inr (m, x, h, p, d, u)
    held _ _ (takes s i n r b a) v p d u = go (same? j i)
      where
        go : (j ≡ i) ⊎ (j ≡ i → ⊥) → (c < set s.count i (suc (s.count i)) j) ⊎ Held (installs s i r) j c
        go (inl q) =
            let w : set s.count i (suc (s.count i)) j ≡ suc (s.count i) = set_same s.count i (suc (s.count i)) j q in
            let y : s.count j ≡ s.count i = ap s.count q in
            inl (omega arith)
        go (inr q) = inr (m, x, h, p, set_other s.doubt i clear j q ∙ d, set_other s.count i (suc (s.count i)) j q ∙ u)
    held _ _ (reports-took s i n b a) v p d u = inr (m, x, h, p, d, u)
    held _ _ (forgets s n g e t) v p d u = inr (m, x, h, set_other s.phase n forgotten m (λ q. gone q) ∙ p, d, u)
      where
        gone : m ≡ n → ⊥
        gone q = subst (DoubtOk decide s.kept s.count j m x) (set_same s.phase n forgotten m q) ((keeps decide f s (turns s n forgotten) (forgets s n g e t) v).doubted j m x d)
    held _ _ (gives_up s n a) v p d u = inr (m, x, h, turns-not s n dropped (runs-not (s.phase n) a) p, d, u)
    held _ _ (tells-drop s i n o) v p d u = inr (m, x, h, p, d, u)
    held _ _ (drops s i n r b a) v p d u = inr (m, x, h, p, set_other s.doubt i clear j clash ∙ d, u)
      where
        clash : j ≡ i → ⊥
        clash q =
            let w : prepared m x ≡ prepared n r = sym d ∙ ap s.doubt q ∙ a in
            let y : n ≡ m = cc in
            over-not (s.phase n) (is-over decide f s v i n r a b) (ap s.phase y ∙ p)
    held _ _ (crashes s i) v p d u = inr (m, x, h, p, d, u)
    held _ _ (asks-again s i n k r g e o) v p d u = inr (m, x, h, p, d, u)
    held _ _ (confirms s i n k b a w) v p d u = inr (m, x, h, p, d, u)
    held _ _ (ends s n g e t) v p d u = inr (m, x, h, turns-not s n (confirmed g) (λ z. let w : decided g ≡ noted h = sym e ∙ z in no cc) p, d, u)

  -- r, which machine i gave with the count k, is what the noted calls among es left there; or the machine took another row since, or is bound to
  pub Settled : State → List Event → ℕ → ℕ → List ℕ → Type 0
  Settled s es i k r = (r ≡ after decide f (noteds es) i) ⊎ ((k < s.count i) ⊎ Held s i k)

  onward : (s t : State) → Step decide s t → Inv decide f s → (es : List Event) (i k : ℕ) (r : List ℕ) → Settled s es i k r → Settled t es i k r
  unfolding Settled Held
  onward s t w v es i k r (inl a) = inl a
  onward s t w v es i k r (inr (inl l)) = inr (inl (omega (arith, climbs s t w i)))
  onward s t w v es i k r (inr (inr a)) = inr (held i k a.0 a.1 a.2 s t w v a.3 a.4 a.5)

  -- what is known of a call that looked, es being the events before
  pub record LookOk (s : State) (n : ℕ) (es : List Event) : Type 0 where
    pub deciding : Looked (s.phase n)
    pub settled : (g : ℕ → Answer) → s.phase n ≡ decided g → EachOf g (Settled s es)
    pub told : (g : ℕ → Answer) → s.phase n ≡ decided g → EachOf g (λ i k r. In (still i n) s.sent → r ≡ after decide f (noteds es) i)
    pub over : (g : ℕ → Answer) → s.phase n ≡ confirmed g → EachOf g (λ i k r. (r ≡ after decide f (noteds es) i) × (decide n (shown g) i ≡ r))

  unfoldable pub Looks : State → List Event → Type 0
  Looks s [] = Unit {0}
  Looks s (looked n ∷ es) = LookOk s n es × Looks s es
  Looks s (committed n g ∷ es) = Looks s es

  each-look : (s t : State) → ((n : ℕ) (es : List Event) → LookOk s n es → LookOk t n es) → (es : List Event) → Looks s es → Looks t es
  unfolding Looks
  each-look s t h [] a = tt
  each-look s t h (looked n ∷ es) a = (h n es a.0, each-look s t h es a.1)
  each-look s t h (committed n g ∷ es) a = each-look s t h es a

  -- ---- step by step
  module _ (s : State) (v : Inv decide f s) where
    -- a step that says what is no answer of a second round
    says_other : (m : Message) → Step decide s (says s m) → ((i n : ℕ) → still i n ≡ m → ⊥) → (n : ℕ) (es : List Event) → LookOk s n es → LookOk (says s m) n es
    unfolding says In
    says_other m w h n es l = record {
      deciding = l.deciding;
      settled = λ g e i k r q. onward s (says s m) w v es i k r (l.settled g e i k r q);
      told = λ g e i k r q. go g e i k r q;
      over = l.over;
    }
      where
        go : (g : ℕ → Answer) → s.phase n ≡ decided g → (i k : ℕ) (r : List ℕ) → g i ≡ gave k r → (still i n ≡ m) ⊎ In (still i n) s.sent → r ≡ after decide f (noteds es) i
        go g e i k r q (inl a) = absurd (h i n a)
        go g e i k r q (inr a) = l.told g e i k r q a

    -- a machine that is clear, at the count k
    says-still : (j m c : ℕ) → In (again j m c) s.sent → s.doubt j ≡ clear → c ≡ s.count j → (n : ℕ) (es : List Event) → LookOk s n es → LookOk (says s (still j m)) n es
    unfolding says In Fine AgainOk Settled Held number_of
    says-still j m c b a u n es l = record {
      deciding = l.deciding;
      settled = λ g e i k r q. onward s (says s (still j m)) (confirms s j m c b a u) v es i k r (l.settled g e i k r q);
      told = λ g e i k r q. go g e i k r q;
      over = l.over;
    }
      where
        now-so : (i k : ℕ) (r : List ℕ) → s.doubt i ≡ clear → k ≡ s.count i → (r ≡ after decide f (noteds es) i) ⊎ ((k < s.count i) ⊎ Held s i k) → r ≡ after decide f (noteds es) i
        now-so i k r d z (inl y) = y
        now-so i k r d z (inr (inl y)) = absurd (omega arith)
        now-so i k r d z (inr (inr y)) = let w : clear ≡ prepared y.0 y.1 = sym d ∙ y.4 in absurd (no cc)

        go : (g : ℕ → Answer) → s.phase n ≡ decided g → (i k : ℕ) (r : List ℕ) → g i ≡ gave k r → (still i n ≡ still j m) ⊎ In (still i n) s.sent → r ≡ after decide f (noteds es) i
        go g e i k r q (inr y) = l.told g e i k r q y
        go g e i k r q (inl y) =
            let x : i ≡ j = cc in
            let z : m ≡ n = cc in
            let o = subst (AgainOk j c) (ap s.phase z ∙ e) (v.fine (again j m c) b) in
            let w : gave k r ≡ gave c o.0 = sym q ∙ ap g x ∙ o.1 in
            let k-is : k ≡ c = cc in
            now-so i k r (ap s.doubt x ∙ a) (k-is ∙ u ∙ sym (ap s.count x)) (l.settled g e i k r q)

    -- a step of a machine
    moves : (t : State) → Step decide s t → t.phase ≡ s.phase → t.sent ≡ s.sent → (n : ℕ) (es : List Event) → LookOk s n es → LookOk t n es
    moves t w p q n es l = record {
      deciding = subst (λ (x : ℕ → Phase). Looked (x n)) (sym p) l.deciding;
      settled = λ g e i k r h. onward s t w v es i k r (l.settled g (sym (ap (λ (x : ℕ → Phase). x n) p) ∙ e) i k r h);
      told = λ g e i k r h y. l.told g (sym (ap (λ (x : ℕ → Phase). x n) p) ∙ e) i k r h (subst (In (still i n)) q y);
      over = λ g e. l.over g (sym (ap (λ (x : ℕ → Phase). x n) p) ∙ e);
    }

    -- a step by which a call turns to a phase that is neither decided nor confirmed
    turns-other : (t : State) → Step decide s t → (m : ℕ) (p : Phase) → t.phase ≡ set s.phase m p → t.sent ≡ s.sent → (Looked (s.phase m) → Looked p) → ((g : ℕ → Answer) → p ≡ decided g → ⊥) → ((g : ℕ → Answer) → p ≡ confirmed g → ⊥)
        → (n : ℕ) (es : List Event) → LookOk s n es → LookOk t n es
    turns-other t w m p x y a b c n es l = record {
      deciding = subst Looked (sym at_n) (set-elim Looked s.phase m p n (λ q. a (subst (λ (z : ℕ). Looked (s.phase z)) q l.deciding)) (λ q. l.deciding));
      settled = λ g e i k r h. onward s t w v es i k r (l.settled g (was (decided g) (b g) e) i k r h);
      told = λ g e i k r h z. l.told g (was (decided g) (b g) e) i k r h (subst (In (still i n)) y z);
      over = λ g e. l.over g (was (confirmed g) (c g) e);
    }
      where
        at_n : t.phase n ≡ set s.phase m p n
        at_n = ap (λ (z : ℕ → Phase). z n) x

        was : (o : Phase) → (p ≡ o → ⊥) → t.phase n ≡ o → s.phase n ≡ o
        was o d e = set-elim (λ (z : Phase). z ≡ o → s.phase n ≡ o) s.phase m p n (λ q z. absurd (d z)) (λ q z. z) (sym at_n ∙ e)

    -- a call that decides had not looked before
    turns-decided : (m : ℕ) (h : ℕ → Answer) → s.phase m ≡ gathering h → (n : ℕ) (es : List Event) → LookOk s n es → LookOk (logs (turns s m (decided h)) (looked m)) n es
    unfolding turns logs Looked
    turns-decided m h e n es l = record {
      deciding = set-elim Looked s.phase m (decided h) n (λ q. tt) (λ q. l.deciding);
      settled = λ g z i k r y. onward s (logs (turns s m (decided h)) (looked m)) (decides s m h e) v es i k r (l.settled g (was (decided g) z) i k r y);
      told = λ g z. l.told g (was (decided g) z);
      over = λ g z. l.over g (was (confirmed g) z);
    }
      where
        fresh : n ≡ m → ⊥
        fresh q = subst Looked (ap s.phase q ∙ e) l.deciding

        was : (p : Phase) → set s.phase m (decided h) n ≡ p → s.phase n ≡ p
        was p z = sym (set_other s.phase m (decided h) n fresh) ∙ z

    turns-confirmed : (m : ℕ) (h : ℕ → Answer) (e : s.phase m ≡ decided h) (t : EachOf h (λ i k r. (decide m (shown h) i ≡ r) × In (still i m) s.sent)) → (n : ℕ) (es : List Event) → LookOk s n es → LookOk (turns s m (confirmed h)) n es
    unfolding turns Looked
    turns-confirmed m h e t n es l = record {
      deciding = set-elim Looked s.phase m (confirmed h) n (λ q. tt) (λ q. l.deciding);
      settled = λ g z i k r y. onward s (turns s m (confirmed h)) (ends s m h e t) v es i k r (l.settled g (was-decided g z) i k r y);
      told = λ g z. l.told g (was-decided g z);
      over = λ g. set-elim (λ (y : Phase). y ≡ confirmed g → EachOf g (λ i k r. (r ≡ after decide f (noteds es) i) × (decide n (shown g) i ≡ r))) s.phase m (confirmed h) n (λ q z. it g q z) (λ q z. l.over g z);
    }
      where
        was-decided : (g : ℕ → Answer) → set s.phase m (confirmed h) n ≡ decided g → s.phase n ≡ decided g
        was-decided g = set-elim (λ (y : Phase). y ≡ decided g → s.phase n ≡ decided g) s.phase m (confirmed h) n (λ q z. absurd (no cc)) (λ q z. z)

        it : (g : ℕ → Answer) → n ≡ m → confirmed h ≡ confirmed g → (i k : ℕ) (r : List ℕ) → g i ≡ gave k r → (r ≡ after decide f (noteds es) i) × (decide n (shown g) i ≡ r)
        it g q z i k r y =
            let x : h ≡ g = cc in
            let w = t i k r (ap (λ (b : ℕ → Answer). b i) x ∙ y) in (
              l.told h (ap s.phase q ∙ e) i k r (ap (λ (b : ℕ → Answer). b i) x ∙ y) (subst (λ (b : ℕ). In (still i b) s.sent) (sym q) w.1),
              ap (λ (b : ℕ). decide b (shown g) i) q ∙ ap (λ (b : ℕ → Answer). decide m (shown b) i) (sym x) ∙ w.0,
            )

    still-looked : (i n : ℕ) → In (still i n) s.sent → Looked (s.phase n)
    unfolding Fine number_of
    still-looked i n a = v.fine (still i n) a

    -- the rows that count are those of the noted calls
    now-settled : (i k : ℕ) (r : List ℕ) → Past s.kept s.count i k r → Settled s s.log i k r
    unfolding Past Settled Held current current_of if_noted
    now-settled i k r a = go (same? k (s.count i))
      where
        kept-is : k ≡ s.count i → (d : Doubt) → s.doubt i ≡ d → current_of d s.phase (s.kept i) ≡ after decide f (noteds s.log) i → (r ≡ after decide f (noteds s.log) i) ⊎ ((k < s.count i) ⊎ Held s i k)
        kept-is q clear d z = inl (a.1 q ∙ z)
        kept-is q (prepared m x) d z = by-phase (s.phase m) refl z
          where
            by-phase : (p : Phase) → s.phase m ≡ p → if_noted p x (s.kept i) ≡ after decide f (noteds s.log) i → (r ≡ after decide f (noteds s.log) i) ⊎ ((k < s.count i) ⊎ Held s i k)
            by-phase unused e z = inl (a.1 q ∙ z)
            by-phase (gathering g) e z = inl (a.1 q ∙ z)
            by-phase (decided g) e z = inl (a.1 q ∙ z)
            by-phase (noted g) e z = inr (inr (m, x, g, e, d, sym q))
            by-phase forgotten e z = inl (a.1 q ∙ z)
            by-phase (confirmed g) e z = inl (a.1 q ∙ z)
            by-phase dropped e z = inl (a.1 q ∙ z)

        go : (k ≡ s.count i) ⊎ (k ≡ s.count i → ⊥) → (r ≡ after decide f (noteds s.log) i) ⊎ ((k < s.count i) ⊎ Held s i k)
        go (inl q) = kept-is q (s.doubt i) refl (v.rows i)
        go (inr q) = inr (inl (below k (s.count i) a.0 q))

    -- the call that decides now has looked at the rows as they are
    looks-now : (m : ℕ) (h : ℕ → Answer) → s.phase m ≡ gathering h → LookOk (logs (turns s m (decided h)) (looked m)) m s.log
    unfolding turns logs Looked
    looks-now m h e = record {
      deciding = subst Looked (sym (set_same s.phase m (decided h) m refl)) tt;
      settled = λ g z i k r y. onward s (logs (turns s m (decided h)) (looked m)) (decides s m h e) v s.log i k r (now-settled i k r (past i k r (ap (λ (b : ℕ → Answer). b i) (is g z) ∙ y)));
      told = λ g z i k r y a. absurd (none_told i a);
      over = λ g z. let w : decided h ≡ confirmed g = sym (set_same s.phase m (decided h) m refl) ∙ z in absurd (no cc);
    }
      where
        is : (g : ℕ → Answer) → set s.phase m (decided h) m ≡ decided g → h ≡ g
        is g z = let w : decided h ≡ decided g = sym (set_same s.phase m (decided h) m refl) ∙ z in cc

        past : EachOf h (Past s.kept s.count)
        past = heard-past decide f s v m h e

        none_told : (i : ℕ) → In (still i m) s.sent → ⊥
        none_told i a = subst Looked e (still-looked i m a)

    said : (m : Message) → Step decide s (says s m) → ((i n : ℕ) → still i n ≡ m → ⊥) → Looks s s.log → Looks (says s m) s.log
    said m w h = each-look s (says s m) (says_other m w h) s.log

    turned : (t : State) → Step decide s t → (m : ℕ) (p : Phase) → t.phase ≡ set s.phase m p → t.sent ≡ s.sent → (Looked (s.phase m) → Looked p) → ((g : ℕ → Answer) → p ≡ decided g → ⊥) → ((g : ℕ → Answer) → p ≡ confirmed g → ⊥)
        → Looks s s.log → Looks t s.log
    turned t w m p x y a b c = each-look s t (turns-other t w m p x y a b c) s.log

  -- ---- every step keeps what is known of the calls that looked
  looks-kept : (s t : State) → Step decide s t → Inv decide f s → Looks s s.log → Looks t t.log
  unfolding says turns logs puts installs Looks Looked
  looks-kept _ _ (begins s n e) v a = turned s v (turns s n (gathering (λ i. silent))) (begins s n e) n (gathering (λ i. silent)) refl refl (λ l. subst Looked e l) (λ g z. no cc) (λ g z. no cc) a
  looks-kept _ _ (gives s i n) v a = said s v (row i n (s.count i) (s.kept i)) (gives s i n) (λ j m z. no cc) a
  looks-kept _ _ (hears s i n k r g b e) v a = turned s v (turns s n (gathering (set g i (gave k r)))) (hears s i n k r g b e) n (gathering (set g i (gave k r))) refl refl (λ l. subst Looked e l) (λ g z. no cc) (λ g z. no cc) a
  looks-kept _ _ (decides s n g e) v a = (looks-now s v n g e, each-look s (logs (turns s n (decided g)) (looked n)) (turns-decided s v n g e) s.log a)
  looks-kept _ _ (ships s i n k r g e o) v a = said s v (store i n k (decide n (shown g) i)) (ships s i n k r g e o) (λ j m z. no cc) a
  looks-kept _ _ (stores s i n k r b c u) v a = each-look s (puts s i (prepared n r)) (moves s v (puts s i (prepared n r)) (stores s i n k r b c u) refl refl) s.log a
  looks-kept _ _ (reports-stored s i n r d) v a = said s v (stored i n) (reports-stored s i n r d) (λ j m z. no cc) a
  looks-kept _ _ (notes s n g e t) v a = turned s v (logs (turns s n (noted g)) (committed n g)) (notes s n g e t) n (noted g) refl refl (λ l. tt) (λ g z. no cc) (λ g z. no cc) a
  looks-kept _ _ (tells-take s i n g e) v a = said s v (take i n) (tells-take s i n g e) (λ j m z. no cc) a
  looks-kept _ _ (takes s i n r b d) v a = each-look s (installs s i r) (moves s v (installs s i r) (takes s i n r b d) refl refl) s.log a
  looks-kept _ _ (reports-took s i n b d) v a = said s v (took i n) (reports-took s i n b d) (λ j m z. no cc) a
  looks-kept _ _ (forgets s n g e t) v a = turned s v (turns s n forgotten) (forgets s n g e t) n forgotten refl refl (λ l. tt) (λ g z. no cc) (λ g z. no cc) a
  looks-kept _ _ (gives_up s n u) v a = turned s v (turns s n dropped) (gives_up s n u) n dropped refl refl (λ l. tt) (λ g z. no cc) (λ g z. no cc) a
  looks-kept _ _ (tells-drop s i n o) v a = said s v (drop i n) (tells-drop s i n o) (λ j m z. no cc) a
  looks-kept _ _ (drops s i n r b d) v a = each-look s (puts s i clear) (moves s v (puts s i clear) (drops s i n r b d) refl refl) s.log a
  looks-kept _ _ (crashes s i) v a = a
  looks-kept _ _ (asks-again s i n k r g e h) v a = said s v (again i n k) (asks-again s i n k r g e h) (λ j m z. no cc) a
  looks-kept _ _ (confirms s i n k b c u) v a = each-look s (says s (still i n)) (says-still s v i n k b c u) s.log a
  looks-kept _ _ (ends s n g e t) v a = each-look s (turns s n (confirmed g)) (turns-confirmed s v n g e t) s.log a

  pub looks : (s : State) → Reached decide f s → Looks s s.log
  unfolding founded Looks
  looks _ start = tt
  looks _ (then s t h w) = looks-kept s t w (always decide f s h) (looks s h)
