-- Every step keeps the invariant.
use mathlib.Core.Path.{◌≡◌, refl, sym, ◌∙◌, ap, subst}
use mathlib.Core.Logic.{◌⊎◌, inl, inr}
use mathlib.Core.List.{List, [], ◌∷◌}
use Prim.Native.Nat.{ℕ, ◌<◌}
use native.Mathlib.Omega.{arith}
use Rattle.commit.specs.Steps.{Answer, gave, shown, Decision, Doubt, clear, prepared, Phase, unused, gathering, decided, noted, forgotten, confirmed, dropped, Message, row, store, stored, take, drop, took, again, still, State, In, NoRecord, turns, Step, begins, gives, hears, decides, ships, stores, reports-stored, notes, tells-take, takes, reports-took, forgets, gives_up, tells-drop, drops, crashes, asks-again, confirms, ends, founded, Reached, start, then}
use Rattle.commit.specs.Atomic.{current_of, current, after, Saw}
use Rattle.commit.proofs.Invariant.{number_of, noteds, Past, PhaseOk, DoubtOk, StoreOk, StoredOk, TakeOk, TookOk, AgainOk, Looked, Fine, Inv, no}
use Rattle.commit.proofs.Turns.{said, begun, heard, logged, decided-it, confirmed-it, given-up, forgot, noted-it}
use Rattle.commit.proofs.Moves.{stored-it, dropped-it, taken-it}

module _ (decide : Decision) (f : ℕ → List ℕ) where
  -- ---- what is said is fine
  gives-fine : (s : State) (i n : ℕ) → Fine decide s.kept s.count s.doubt (row i n (s.count i) (s.kept i)) (s.phase n)
  unfolding Fine Past
  gives-fine s i n = (omega arith, λ z. refl)

  ships-fine : (s : State) (i n k : ℕ) (r : List ℕ) (g : ℕ → Answer) → s.phase n ≡ decided g → g i ≡ gave k r → Fine decide s.kept s.count s.doubt (store i n k (decide n (shown g) i)) (s.phase n)
  unfolding Fine StoreOk
  ships-fine s i n k r g e h = subst (StoreOk decide s.count i n k (decide n (shown g) i)) (sym e) (r, h, refl)

  stored-fine : (s : State) (i n : ℕ) (r : List ℕ) → s.doubt i ≡ prepared n r → (p : Phase) → DoubtOk decide s.kept s.count i n r p → Fine decide s.kept s.count s.doubt (stored i n) p
  unfolding Fine StoredOk DoubtOk
  stored-fine s i n r d unused o = o
  stored-fine s i n r d (gathering g) o = o
  stored-fine s i n r d (decided g) o = d ∙ ap (prepared n) o.1
  stored-fine s i n r d (noted g) o = tt
  stored-fine s i n r d forgotten o = tt
  stored-fine s i n r d (confirmed g) o = tt
  stored-fine s i n r d dropped o = tt

  take-fine : (s : State) (i n : ℕ) (g : ℕ → Answer) → s.phase n ≡ noted g → Fine decide s.kept s.count s.doubt (take i n) (s.phase n)
  unfolding Fine TakeOk
  take-fine s i n g e = subst TakeOk (sym e) tt

  drop-fine : (s : State) (i n : ℕ) → NoRecord (s.phase n) → Fine decide s.kept s.count s.doubt (drop i n) (s.phase n)
  unfolding Fine
  drop-fine s i n m = m

  took-fine : (s : State) (i n : ℕ) → ((r : List ℕ) → s.doubt i ≡ prepared n r → ⊥) → (p : Phase) → Fine decide s.kept s.count s.doubt (take i n) p → PhaseOk decide s.kept s.count s.doubt n p
      → Fine decide s.kept s.count s.doubt (took i n) p
  unfolding Fine TakeOk TookOk PhaseOk
  took-fine s i n d unused a h = a
  took-fine s i n d (gathering g) a h = a
  took-fine s i n d (decided g) a h = a
  took-fine s i n d (noted g) a h = λ k r q. go k (h i k r q).1
    where
      go : (k : ℕ) → (s.doubt i ≡ prepared n (decide n (shown g) i)) ⊎ (k < s.count i) → k < s.count i
      go k (inl z) = absurd (d (decide n (shown g) i) z)
      go k (inr l) = l
  took-fine s i n d forgotten a h = tt
  took-fine s i n d (confirmed g) a h = a
  took-fine s i n d dropped a h = a

  again-fine : (s : State) (i n k : ℕ) (r : List ℕ) (g : ℕ → Answer) → s.phase n ≡ decided g → g i ≡ gave k r → Fine decide s.kept s.count s.doubt (again i n k) (s.phase n)
  unfolding Fine AgainOk
  again-fine s i n k r g e h = subst (AgainOk i k) (sym e) (r, h)

  pub again-looked : (i k : ℕ) (p : Phase) → AgainOk i k p → Looked p
  unfolding AgainOk Looked
  again-looked i k unused a = a
  again-looked i k (gathering g) a = a
  again-looked i k (decided g) a = tt
  again-looked i k (noted g) a = tt
  again-looked i k forgotten a = tt
  again-looked i k (confirmed g) a = tt
  again-looked i k dropped a = tt

  still-fine : (s : State) (i n k : ℕ) (p : Phase) → Fine decide s.kept s.count s.doubt (again i n k) p → Fine decide s.kept s.count s.doubt (still i n) p
  unfolding Fine
  still-fine s i n k p a = again-looked i k p a

  pub keeps : (s t : State) → Step decide s t → Inv decide f s → Inv decide f t
  unfolding number_of
  keeps _ _ (begins s n e) v = begun decide f s v n e
  keeps _ _ (gives s i n) v = said decide f s (row i n (s.count i) (s.kept i)) (gives-fine s i n) v
  keeps _ _ (hears s i n k r g a e) v = heard decide f s v i n k r g a e
  keeps _ _ (decides s n g e) v = logged decide f (turns s n (decided g)) (decided-it decide f s v n g e) n
  keeps _ _ (ships s i n k r g e h) v = said decide f s (store i n k (decide n (shown g) i)) (ships-fine s i n k r g e h) v
  keeps _ _ (stores s i n k r a c u) v = stored-it decide f s v i n k r a c u
  keeps _ _ (reports-stored s i n r d) v = said decide f s (stored i n) (stored-fine s i n r d (s.phase n) (v.doubted i n r d)) v
  keeps _ _ (notes s n g e t) v = noted-it decide f s v n g e t
  keeps _ _ (gives_up s n u) v = given-up decide f s v n u
  keeps _ _ (tells-take s i n g e) v = said decide f s (take i n) (take-fine s i n g e) v
  keeps _ _ (tells-drop s i n m) v = said decide f s (drop i n) (drop-fine s i n m) v
  keeps _ _ (takes s i n r a d) v = taken-it decide f s v i n r d a
  keeps _ _ (drops s i n r a d) v = dropped-it decide f s v i n r d a
  keeps _ _ (reports-took s i n a d) v = said decide f s (took i n) (took-fine s i n d (s.phase n) (v.fine (take i n) a) (v.phases n)) v
  keeps _ _ (crashes s i) v = v
  keeps _ _ (asks-again s i n k r g e h) v = said decide f s (again i n k) (again-fine s i n k r g e h) v
  keeps _ _ (confirms s i n k a c u) v = said decide f s (still i n) (still-fine s i n k (s.phase n) (v.fine (again i n k) a)) v
  keeps _ _ (ends s n g e t) v = confirmed-it decide f s v n g e
  keeps _ _ (forgets s n g e t) v = forgot decide f s v n g e t

  at-start : Inv decide f (founded f)
  unfolding founded PhaseOk In current current_of after Saw noteds
  at-start = record { phases = λ n. tt; doubted = λ i n r d. absurd (no cc); fine = λ m a. absurd a; rows = λ i. refl; saw = tt }

  pub always : (s : State) → Reached decide f s → Inv decide f s
  always _ start = at-start
  always _ (then s t h k) = keeps s t k (always s h)
