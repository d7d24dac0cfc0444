-- Steps that change what a machine has on its disk.
use mathlib.Core.Path.{◌≡◌, refl, sym, ◌∙◌, ap, subst}
use mathlib.Core.Bool.{Bool, true, false, cond}
use mathlib.Core.Logic.{◌⊎◌, inl, inr}
use mathlib.Core.List.{List, [], ◌∷◌}
use Prim.Native.Nat.{ℕ, suc, ◌≤◌, ◌<◌}
use native.Mathlib.Omega.{arith}
use Rattle.commit.specs.Steps.{Answer, silent, gave, shown, Decision, Doubt, clear, prepared, Phase, unused, gathering, decided, noted, forgotten, confirmed, dropped, Message, row, store, stored, take, drop, took, again, still, State, set, In, NoRecord, puts, installs}
use Rattle.commit.specs.Atomic.{if_noted, current_of, current, after, Saw}
use Rattle.commit.proofs.Invariant.{same?, set_same, set_other, set-elim, number_of, Past, PhaseOk, DoubtOk, StoreOk, StoredOk, TakeOk, TookOk, AgainOk, Looked, Fine, Inv, no}

-- what was in doubt for n at machine j: it stays so, or was taken if n is noted, or may be anything if n is over
unfoldable Stays : (ℕ → ℕ) → (ℕ → ℕ) → (ℕ → Doubt) → ℕ → ℕ → List ℕ → Phase → Type 0
Stays count count' doubt' j n r unused = Unit {0}
Stays count count' doubt' j n r (gathering g) = Unit {0}
Stays count count' doubt' j n r (decided g) = doubt' j ≡ prepared n r
Stays count count' doubt' j n r (noted g) = (doubt' j ≡ prepared n r) ⊎ (count j < count' j)
Stays count count' doubt' j n r forgotten = Unit {0}
Stays count count' doubt' j n r (confirmed g) = Unit {0}
Stays count count' doubt' j n r dropped = Unit {0}

module _ (decide : Decision) (f : ℕ → List ℕ) where
  module _ (kept kept' : ℕ → List ℕ) (count count' : ℕ → ℕ) (doubt doubt' : ℕ → Doubt) (past : (j k : ℕ) (r : List ℕ) → Past kept count j k r → Past kept' count' j k r) (more : (j : ℕ) → count j ≤ count' j) where
    moved-phase : (n : ℕ) (p : Phase) → ((j : ℕ) (r : List ℕ) → doubt j ≡ prepared n r → Stays count count' doubt' j n r p) → PhaseOk decide kept count doubt n p → PhaseOk decide kept' count' doubt' n p
    unfolding PhaseOk Stays Past
    moved-phase n unused h o = tt
    moved-phase n (gathering g) h o = λ i k r q. past i k r (o i k r q)
    moved-phase n (decided g) h o = λ i k r q. past i k r (o i k r q)
    moved-phase n (noted g) h o = λ i k r q. (past i k r (o i k r q).0, go i k r (o i k r q).0 (o i k r q).1)
      where
        after-it : (i k : ℕ) (r : List ℕ) → Past kept count i k r → (doubt' i ≡ prepared n (decide n (shown g) i)) ⊎ (count i < count' i) → (doubt' i ≡ prepared n (decide n (shown g) i)) ⊎ (k < count' i)
        after-it i k r a (inl d) = inl d
        after-it i k r a (inr c) = inr (omega (arith, a.0))

        go : (i k : ℕ) (r : List ℕ) → Past kept count i k r → (doubt i ≡ prepared n (decide n (shown g) i)) ⊎ (k < count i) → (doubt' i ≡ prepared n (decide n (shown g) i)) ⊎ (k < count' i)
        go i k r a (inl d) = after-it i k r a (h i (decide n (shown g) i) d)
        go i k r a (inr c) = inr (omega (arith, more i))
    moved-phase n forgotten h o = tt
    moved-phase n (confirmed g) h o = tt
    moved-phase n dropped h o = tt

    moved_store : (i n k : ℕ) (r : List ℕ) (p : Phase) → StoreOk decide count i n k r p → StoreOk decide count' i n k r p
    unfolding StoreOk
    moved_store i n k r unused o = o
    moved_store i n k r (gathering g) o = o
    moved_store i n k r (decided g) o = o
    moved_store i n k r (noted g) o = o
    moved_store i n k r forgotten o = omega (arith, more i)
    moved_store i n k r (confirmed g) o = tt
    moved_store i n k r dropped o = tt

    moved-stored : (i n : ℕ) (p : Phase) → ((j : ℕ) (r : List ℕ) → doubt j ≡ prepared n r → Stays count count' doubt' j n r p) → StoredOk decide doubt i n p → StoredOk decide doubt' i n p
    unfolding StoredOk Stays
    moved-stored i n unused h o = o
    moved-stored i n (gathering g) h o = o
    moved-stored i n (decided g) h o = h i (decide n (shown g) i) o
    moved-stored i n (noted g) h o = tt
    moved-stored i n forgotten h o = tt
    moved-stored i n (confirmed g) h o = tt
    moved-stored i n dropped h o = tt

    moved-took : (i : ℕ) (p : Phase) → TookOk count i p → TookOk count' i p
    unfolding TookOk
    moved-took i unused o = o
    moved-took i (gathering g) o = o
    moved-took i (decided g) o = o
    moved-took i (noted g) o = λ k r q. omega (arith, more i, o k r q)
    moved-took i forgotten o = tt
    moved-took i (confirmed g) o = o
    moved-took i dropped o = o

    moved-fine : (m : Message) (p : Phase) → ((j : ℕ) (r : List ℕ) → doubt j ≡ prepared (number_of m) r → Stays count count' doubt' j (number_of m) r p) → Fine decide kept count doubt m p → Fine decide kept' count' doubt' m p
    unfolding Fine number_of
    moved-fine (row i n k r) p h o = past i k r o
    moved-fine (store i n k r) p h o = moved_store i n k r p o
    moved-fine (stored i n) p h o = moved-stored i n p h o
    moved-fine (take i n) p h o = o
    moved-fine (drop i n) p h o = o
    moved-fine (took i n) p h o = moved-took i p o
    moved-fine (again i n k) p h o = o
    moved-fine (still i n) p h o = o

  stays_same : (count count' : ℕ → ℕ) (doubt' : ℕ → Doubt) (j n : ℕ) (r : List ℕ) (p : Phase) → doubt' j ≡ prepared n r → Stays count count' doubt' j n r p
  unfolding Stays
  stays_same count count' doubt' j n r unused d = tt
  stays_same count count' doubt' j n r (gathering g) d = tt
  stays_same count count' doubt' j n r (decided g) d = d
  stays_same count count' doubt' j n r (noted g) d = inl d
  stays_same count count' doubt' j n r forgotten d = tt
  stays_same count count' doubt' j n r (confirmed g) d = tt
  stays_same count count' doubt' j n r dropped d = tt

  -- of a call that is over without a record nothing need stay
  stays-over : (count count' : ℕ → ℕ) (doubt' : ℕ → Doubt) (j n : ℕ) (r : List ℕ) (p : Phase) → NoRecord p → Stays count count' doubt' j n r p
  unfolding Stays NoRecord
  stays-over count count' doubt' j n r unused z = absurd z
  stays-over count count' doubt' j n r (gathering g) z = absurd z
  stays-over count count' doubt' j n r (decided g) z = absurd z
  stays-over count count' doubt' j n r (noted g) z = absurd z
  stays-over count count' doubt' j n r forgotten z = tt
  stays-over count count' doubt' j n r (confirmed g) z = tt
  stays-over count count' doubt' j n r dropped z = tt

  over-kept : (p : Phase) (r k : List ℕ) → NoRecord p → if_noted p r k ≡ k
  unfolding NoRecord if_noted
  over-kept unused r k z = absurd z
  over-kept (gathering g) r k z = absurd z
  over-kept (decided g) r k z = absurd z
  over-kept (noted g) r k z = absurd z
  over-kept forgotten r k z = refl
  over-kept (confirmed g) r k z = refl
  over-kept dropped r k z = refl

  module _ (s : State) (v : Inv decide f s) where
    -- ---- a row is stored
    module _ (i n k : ℕ) (r : List ℕ) (a : In (store i n k r) s.sent) (c : s.doubt i ≡ clear) (u : k ≡ s.count i) where
      store-doubt : (p : Phase) → StoreOk decide s.count i n k r p → PhaseOk decide s.kept s.count s.doubt n p → DoubtOk decide s.kept s.count i n r p
      unfolding StoreOk PhaseOk DoubtOk Past
      store-doubt unused o h = o
      store-doubt (gathering g) o h = o
      store-doubt (decided g) o h = (o.1 ∙ ap (λ (x : ℕ). gave x o.0) u ∙ ap (gave (s.count i)) ((h i k o.0 o.1).1 u), o.2)
      store-doubt (noted g) o h = (o.1 ∙ ap (λ (x : ℕ). gave x o.0) u ∙ ap (gave (s.count i)) ((h i k o.0 o.1).0.1 u), o.2)
      store-doubt forgotten o h = absurd (omega arith)
      store-doubt (confirmed g) o h = tt
      store-doubt dropped o h = tt

      store-unnoted : (p : Phase) → StoreOk decide s.count i n k r p → PhaseOk decide s.kept s.count s.doubt n p → if_noted p r (s.kept i) ≡ s.kept i
      unfolding StoreOk PhaseOk if_noted
      store-unnoted unused o h = refl
      store-unnoted (gathering g) o h = refl
      store-unnoted (decided g) o h = refl
      store-unnoted (noted g) o h = go (h i k o.0 o.1).1
        where
          go : (s.doubt i ≡ prepared n (decide n (shown g) i)) ⊎ (k < s.count i) → r ≡ s.kept i
          go (inl d) = let z : clear ≡ prepared n (decide n (shown g) i) = sym c ∙ d in absurd (no cc)
          go (inr l) = absurd (omega arith)
      store-unnoted forgotten o h = refl
      store-unnoted (confirmed g) o h = refl
      store-unnoted dropped o h = refl

      it-is : StoreOk decide s.count i n k r (s.phase n)
      unfolding Fine number_of
      it-is = v.fine (store i n k r) a

      store-stays : (j m : ℕ) (x : List ℕ) → s.doubt j ≡ prepared m x → set s.doubt i (prepared n r) j ≡ prepared m x
      store-stays j m x d = set_other s.doubt i (prepared n r) j (λ q. let z : clear ≡ prepared m x = sym c ∙ sym (ap s.doubt q) ∙ d in no cc) ∙ d

      store-rows : (j : ℕ) → current (puts s i (prepared n r)) j ≡ current s j
      unfolding current current_of puts
      store-rows j = go (same? j i)
        where
          here : current_of (prepared n r) s.phase (s.kept i) ≡ current_of (s.doubt i) s.phase (s.kept i)
          here = store-unnoted (s.phase n) it-is (v.phases n) ∙ ap (λ (d : Doubt). current_of d s.phase (s.kept i)) (sym c)

          go : (j ≡ i) ⊎ (j ≡ i → ⊥) → current_of (set s.doubt i (prepared n r) j) s.phase (s.kept j) ≡ current_of (s.doubt j) s.phase (s.kept j)
          go (inl q) = ap (λ (d : Doubt). current_of d s.phase (s.kept j)) (set_same s.doubt i (prepared n r) j q) ∙ subst (λ (x : ℕ). current_of (prepared n r) s.phase (s.kept x) ≡ current_of (s.doubt x) s.phase (s.kept x)) (sym q) here
          go (inr q) = ap (λ (d : Doubt). current_of d s.phase (s.kept j)) (set_other s.doubt i (prepared n r) j q)

      store-doubted : (j m : ℕ) (x : List ℕ) → set s.doubt i (prepared n r) j ≡ prepared m x → DoubtOk decide s.kept s.count j m x (s.phase m)
      store-doubted j m x =
          set-elim (λ (d : Doubt). d ≡ prepared m x → DoubtOk decide s.kept s.count j m x (s.phase m)) s.doubt i (prepared n r) j one (λ q. v.doubted j m x)
        where
          one : j ≡ i → prepared n r ≡ prepared m x → DoubtOk decide s.kept s.count j m x (s.phase m)
          one q z =
              let y : n ≡ m = cc in
              let w : r ≡ x = cc in
              subst (λ (b : ℕ). DoubtOk decide s.kept s.count b m x (s.phase m)) (sym q) (subst (λ (b : ℕ). DoubtOk decide s.kept s.count i b x (s.phase b)) y (subst (λ (b : List ℕ). DoubtOk decide s.kept s.count i n b (s.phase n)) w (store-doubt (s.phase n) it-is (v.phases n))))

      pub stored-it : Inv decide f (puts s i (prepared n r))
      unfolding puts
      stored-it = record {
        phases = λ m. moved-phase s.kept s.kept s.count s.count s.doubt (set s.doubt i (prepared n r)) (λ j c x p. p) (λ j. omega arith) m (s.phase m) (λ j x d. stays_same s.count s.count (set s.doubt i (prepared n r)) j m x (s.phase m) (store-stays j m x d)) (v.phases m);
        doubted = store-doubted;
        fine = λ m b. moved-fine s.kept s.kept s.count s.count s.doubt (set s.doubt i (prepared n r)) (λ j c x p. p) (λ j. omega arith) m (s.phase (number_of m)) (λ j x d. stays_same s.count s.count (set s.doubt i (prepared n r)) j (number_of m) x (s.phase (number_of m)) (store-stays j (number_of m) x d)) (v.fine m b);
        rows = λ j. store-rows j ∙ v.rows j;
        saw = v.saw;
      }

    -- ---- a row in doubt is dropped, or taken
    module _ (i n : ℕ) (r : List ℕ) (d : s.doubt i ≡ prepared n r) where
      -- nothing else is in doubt there
      only : (m : ℕ) (x : List ℕ) (j : ℕ) → j ≡ i → s.doubt j ≡ prepared m x → m ≡ n
      only m x j q z = let w : prepared m x ≡ prepared n r = sym z ∙ ap s.doubt q ∙ d in cc

      module _ (a : In (drop i n) s.sent) where
        pub is-over : NoRecord (s.phase n)
        unfolding Fine number_of
        is-over = v.fine (drop i n) a

        drop-stays : (j m : ℕ) (x : List ℕ) → s.doubt j ≡ prepared m x → Stays s.count s.count (set s.doubt i clear) j m x (s.phase m)
        unfolding Stays
        drop-stays j m x z = go (same? j i)
          where
            go : (j ≡ i) ⊎ (j ≡ i → ⊥) → Stays s.count s.count (set s.doubt i clear) j m x (s.phase m)
            go (inl q) = stays-over s.count s.count (set s.doubt i clear) j m x (s.phase m) (subst (λ (y : ℕ). NoRecord (s.phase y)) (sym (only m x j q z)) is-over)
            go (inr q) = stays_same s.count s.count (set s.doubt i clear) j m x (s.phase m) (set_other s.doubt i clear j q ∙ z)

        drop-rows : (j : ℕ) → current (puts s i clear) j ≡ current s j
        unfolding current current_of puts if_noted
        drop-rows j = go (same? j i)
          where
            here : s.kept i ≡ current_of (s.doubt i) s.phase (s.kept i)
            here = sym (ap (λ (x : Doubt). current_of x s.phase (s.kept i)) d ∙ over-kept (s.phase n) r (s.kept i) is-over)

            go : (j ≡ i) ⊎ (j ≡ i → ⊥) → current_of (set s.doubt i clear j) s.phase (s.kept j) ≡ current_of (s.doubt j) s.phase (s.kept j)
            go (inl q) = ap (λ (x : Doubt). current_of x s.phase (s.kept j)) (set_same s.doubt i clear j q) ∙ subst (λ (x : ℕ). s.kept x ≡ current_of (s.doubt x) s.phase (s.kept x)) (sym q) here
            go (inr q) = ap (λ (x : Doubt). current_of x s.phase (s.kept j)) (set_other s.doubt i clear j q)

        drop-doubted : (j m : ℕ) (x : List ℕ) → set s.doubt i clear j ≡ prepared m x → DoubtOk decide s.kept s.count j m x (s.phase m)
        drop-doubted j m x =
            set-elim (λ (y : Doubt). y ≡ prepared m x → DoubtOk decide s.kept s.count j m x (s.phase m)) s.doubt i clear j (λ q z. absurd (no cc)) (λ q. v.doubted j m x)

        pub dropped-it : Inv decide f (puts s i clear)
        unfolding puts
        dropped-it = record {
          phases = λ m. moved-phase s.kept s.kept s.count s.count s.doubt (set s.doubt i clear) (λ j c x p. p) (λ j. omega arith) m (s.phase m) (λ j x z. drop-stays j m x z) (v.phases m);
          doubted = drop-doubted;
          fine = λ m b. moved-fine s.kept s.kept s.count s.count s.doubt (set s.doubt i clear) (λ j c x p. p) (λ j. omega arith) m (s.phase (number_of m)) (λ j x z. drop-stays j (number_of m) x z) (v.fine m b);
          rows = λ j. drop-rows j ∙ v.rows j;
          saw = v.saw;
        }

      take-phase : (p : Phase) → TakeOk p → DoubtOk decide s.kept s.count i n r p → (g : ℕ → Answer) × (p ≡ noted g)
      unfolding TakeOk DoubtOk
      take-phase unused a o = absurd a
      take-phase (gathering g) a o = absurd a
      take-phase (decided g) a o = absurd a
      take-phase (noted g) a o = (g, refl)
      take-phase forgotten a o = absurd o
      take-phase (confirmed g) a o = absurd a
      take-phase dropped a o = absurd a

      module _ (a : In (take i n) s.sent) where
        is-noted : (g : ℕ → Answer) × (s.phase n ≡ noted g)
        unfolding Fine number_of
        is-noted = take-phase (s.phase n) (v.fine (take i n) a) (v.doubted i n r d)

        take_past : (j k : ℕ) (x : List ℕ) → Past s.kept s.count j k x → Past (set s.kept i r) (set s.count i (suc (s.count i))) j k x
        unfolding Past
        take_past j k x p = go (same? j i)
          where
            go : (j ≡ i) ⊎ (j ≡ i → ⊥) → Past (set s.kept i r) (set s.count i (suc (s.count i))) j k x
            go (inl q) =
                let w : set s.count i (suc (s.count i)) j ≡ suc (s.count i) = set_same s.count i (suc (s.count i)) j q in
                let y : s.count j ≡ s.count i = ap s.count q in
                (omega (arith, p.0), λ z. absurd (omega (arith, p.0)))
            go (inr q) =
                let w : set s.count i (suc (s.count i)) j ≡ s.count j = set_other s.count i (suc (s.count i)) j q in
                (omega (arith, p.0), λ z. p.1 (z ∙ w) ∙ sym (set_other s.kept i r j q))

        take_more : (j : ℕ) → s.count j ≤ set s.count i (suc (s.count i)) j
        take_more j = set-elim (λ (x : ℕ). s.count j ≤ x) s.count i (suc (s.count i)) j (λ q. let y : s.count j ≡ s.count i = ap s.count q in omega arith) (λ q. omega arith)

        take-stays : (j m : ℕ) (x : List ℕ) → s.doubt j ≡ prepared m x → Stays s.count (set s.count i (suc (s.count i))) (set s.doubt i clear) j m x (s.phase m)
        unfolding Stays
        take-stays j m x z = go (same? j i)
          where
            up : j ≡ i → s.count j < set s.count i (suc (s.count i)) j
            up q =
                let w : set s.count i (suc (s.count i)) j ≡ suc (s.count i) = set_same s.count i (suc (s.count i)) j q in
                let y : s.count j ≡ s.count i = ap s.count q in
                omega arith

            go : (j ≡ i) ⊎ (j ≡ i → ⊥) → Stays s.count (set s.count i (suc (s.count i))) (set s.doubt i clear) j m x (s.phase m)
            go (inl q) = subst (Stays s.count (set s.count i (suc (s.count i))) (set s.doubt i clear) j m x) (sym (ap s.phase (only m x j q z) ∙ is-noted.1)) (inr (up q))
            go (inr q) = stays_same s.count (set s.count i (suc (s.count i))) (set s.doubt i clear) j m x (s.phase m) (set_other s.doubt i clear j q ∙ z)

        take-rows : (j : ℕ) → current (installs s i r) j ≡ current s j
        unfolding current current_of installs if_noted
        take-rows j = go (same? j i)
          where
            here : r ≡ current_of (s.doubt i) s.phase (s.kept i)
            here = sym (ap (λ (x : Doubt). current_of x s.phase (s.kept i)) d ∙ ap (λ (p : Phase). if_noted p r (s.kept i)) is-noted.1)

            go : (j ≡ i) ⊎ (j ≡ i → ⊥) → current_of (set s.doubt i clear j) s.phase (set s.kept i r j) ≡ current_of (s.doubt j) s.phase (s.kept j)
            go (inl q) =
                ap (λ (x : Doubt). current_of x s.phase (set s.kept i r j)) (set_same s.doubt i clear j q)
                ∙ set_same s.kept i r j q
                ∙ subst (λ (x : ℕ). r ≡ current_of (s.doubt x) s.phase (s.kept x)) (sym q) here
            go (inr q) =
                ap (λ (x : Doubt). current_of x s.phase (set s.kept i r j)) (set_other s.doubt i clear j q)
                ∙ ap (λ (x : List ℕ). current_of (s.doubt j) s.phase x) (set_other s.kept i r j q)

        doubt-of : (kept' : ℕ → List ℕ) (count' : ℕ → ℕ) (j m : ℕ) (x : List ℕ) (p : Phase) → s.kept j ≡ kept' j → s.count j ≡ count' j → DoubtOk decide s.kept s.count j m x p → DoubtOk decide kept' count' j m x p
        unfolding DoubtOk
        doubt-of kept' count' j m x unused e w o = o
        doubt-of kept' count' j m x (gathering g) e w o = o
        doubt-of kept' count' j m x (decided g) e w o = (o.0 ∙ ap (λ (y : ℕ). gave y (s.kept j)) w ∙ ap (gave (count' j)) e, o.1)
        doubt-of kept' count' j m x (noted g) e w o = (o.0 ∙ ap (λ (y : ℕ). gave y (s.kept j)) w ∙ ap (gave (count' j)) e, o.1)
        doubt-of kept' count' j m x forgotten e w o = o
        doubt-of kept' count' j m x (confirmed g) e w o = o
        doubt-of kept' count' j m x dropped e w o = o

        take-doubted : (j m : ℕ) (x : List ℕ) → set s.doubt i clear j ≡ prepared m x → DoubtOk decide (set s.kept i r) (set s.count i (suc (s.count i))) j m x (s.phase m)
        take-doubted j m x =
            set-elim
            (λ (y : Doubt). y ≡ prepared m x → DoubtOk decide (set s.kept i r) (set s.count i (suc (s.count i))) j m x (s.phase m))
            s.doubt
            i
            clear
            j
            (λ q z. absurd (no cc))
            (λ q z. doubt-of (set s.kept i r) (set s.count i (suc (s.count i))) j m x (s.phase m) (sym (set_other s.kept i r j q)) (sym (set_other s.count i (suc (s.count i)) j q)) (v.doubted j m x z))

        pub taken-it : Inv decide f (installs s i r)
        unfolding installs
        taken-it = record {
          phases = λ m. moved-phase s.kept (set s.kept i r) s.count (set s.count i (suc (s.count i))) s.doubt (set s.doubt i clear) take_past take_more m (s.phase m) (λ j x z. take-stays j m x z) (v.phases m);
          doubted = take-doubted;
          fine = λ m b. moved-fine s.kept (set s.kept i r) s.count (set s.count i (suc (s.count i))) s.doubt (set s.doubt i clear) take_past take_more m (s.phase (number_of m)) (λ j x z. take-stays j (number_of m) x z) (v.fine m b);
          rows = λ j. take-rows j ∙ v.rows j;
          saw = v.saw;
        }
