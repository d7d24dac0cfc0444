-- The invariant: what holds in every state that a relay reaches.
use mathlib.Core.Path.{◌≡◌, refl, sym, ◌∙◌, ap, subst}
use mathlib.Core.Bool.{Bool, true, false, cond}
use mathlib.Core.Logic.{◌⊎◌, inl, inr}
use mathlib.Core.List.{List, [], ◌∷◌}
use Prim.Native.Nat.{ℕ, ◌≤◌, ◌<◌}
use native.Mathlib.Omega.{arith}
use lib.Dec.{eqb}
use borrow.Author.Tests.{eqb-true, eqb-false}
use Rattle.commit.specs.Steps.{Answer, gave, shown, Decision, Doubt, clear, prepared, Phase, unused, gathering, decided, noted, forgotten, confirmed, dropped, Message, row, store, stored, take, drop, took, again, still, Event, looked, committed, State, set, In, EachOf, NoRecord}
use Rattle.commit.specs.Atomic.{Entry, current, after, Saw}

-- ---- a place set
pub same? : (j i : ℕ) → (j ≡ i) ⊎ (j ≡ i → ⊥)
same? j i = go (eqb j i) refl
  where
    go : (b : Bool) → eqb j i ≡ b → (j ≡ i) ⊎ (j ≡ i → ⊥)
    go true e = inl (omega (arith, eqb-true))
    go false e = inr (λ q. omega (arith, eqb-false))

pub set_same : {A : Type 0} (f : ℕ → A) (i : ℕ) (a : A) (j : ℕ) → j ≡ i → set f i a j ≡ a
unfolding set
set_same f i a j q = go (eqb j i) refl
  where
    go : (b : Bool) → eqb j i ≡ b → cond b a (f j) ≡ a
    go true e = refl
    go false e = absurd (omega (arith, eqb-false))

pub set_other : {A : Type 0} (f : ℕ → A) (i : ℕ) (a : A) (j : ℕ) → (j ≡ i → ⊥) → set f i a j ≡ f j
unfolding set
set_other f i a j q = go (eqb j i) refl
  where
    go : (b : Bool) → eqb j i ≡ b → cond b a (f j) ≡ f j
    go true e = absurd (q (omega (arith, eqb-true)))
    go false e = refl

pub set-elim : {A : Type 0} (P : A → Type 0) (f : ℕ → A) (i : ℕ) (a : A) (j : ℕ) → (j ≡ i → P a) → ((j ≡ i → ⊥) → P (f j)) → P (set f i a j)
set-elim P f i a j x y = go (same? j i)
  where
    go : (j ≡ i) ⊎ (j ≡ i → ⊥) → P (set f i a j)
    go (inl q) = subst P (sym (set_same f i a j q)) (x q)
    go (inr q) = subst P (sym (set_other f i a j q)) (y q)

unfoldable pub number_of : Message → ℕ
number_of (row i n k r) = n
number_of (store i n k r) = n
number_of (stored i n) = n
number_of (take i n) = n
number_of (drop i n) = n
number_of (took i n) = n
number_of (again i n k) = n
number_of (still i n) = n

-- the noted calls, the newest first
unfoldable pub noteds : List Event → List Entry
noteds [] = []
noteds (looked n ∷ es) = noteds es
noteds (committed n g ∷ es) = record { call = n; heard = g } ∷ noteds es

-- machine i gave r after k rows taken: it took more since, or still keeps r
unfoldable pub Past : (ℕ → List ℕ) → (ℕ → ℕ) → ℕ → ℕ → List ℕ → Type 0
Past kept count i k r = (k ≤ count i) × (k ≡ count i → r ≡ kept i)

-- what a call heard is past; a noted call's rows are in doubt or taken
unfoldable pub PhaseOk : (Decision) → (ℕ → List ℕ) → (ℕ → ℕ) → (ℕ → Doubt) → ℕ → Phase → Type 0
PhaseOk decide kept count doubt n unused = Unit {0}
PhaseOk decide kept count doubt n (gathering g) = EachOf g (Past kept count)
PhaseOk decide kept count doubt n (decided g) = EachOf g (Past kept count)
PhaseOk decide kept count doubt n (noted g) = EachOf g (λ i k r. Past kept count i k r × ((doubt i ≡ prepared n (decide n (shown g) i)) ⊎ (k < count i)))
PhaseOk decide kept count doubt n forgotten = Unit {0}
PhaseOk decide kept count doubt n (confirmed g) = Unit {0}
PhaseOk decide kept count doubt n dropped = Unit {0}

-- r is in doubt at machine i for the call n: it was decided on the row that the machine keeps
unfoldable pub DoubtOk : (Decision) → (ℕ → List ℕ) → (ℕ → ℕ) → ℕ → ℕ → List ℕ → Phase → Type 0
DoubtOk decide kept count i n r unused = ⊥
DoubtOk decide kept count i n r (gathering g) = ⊥
DoubtOk decide kept count i n r (decided g) = (g i ≡ gave (count i) (kept i)) × (r ≡ decide n (shown g) i)
DoubtOk decide kept count i n r (noted g) = (g i ≡ gave (count i) (kept i)) × (r ≡ decide n (shown g) i)
DoubtOk decide kept count i n r forgotten = ⊥
DoubtOk decide kept count i n r (confirmed g) = Unit {0}
DoubtOk decide kept count i n r dropped = Unit {0}

-- messages, by the phase of their call
unfoldable pub StoreOk : (Decision) → (ℕ → ℕ) → ℕ → ℕ → ℕ → List ℕ → Phase → Type 0
StoreOk decide count i n k r unused = ⊥
StoreOk decide count i n k r (gathering g) = ⊥
StoreOk decide count i n k r (decided g) = (o : List ℕ) × (g i ≡ gave k o) × (r ≡ decide n (shown g) i)
StoreOk decide count i n k r (noted g) = (o : List ℕ) × (g i ≡ gave k o) × (r ≡ decide n (shown g) i)
StoreOk decide count i n k r forgotten = k < count i
StoreOk decide count i n k r (confirmed g) = Unit {0}
StoreOk decide count i n k r dropped = Unit {0}

unfoldable pub StoredOk : (Decision) → (ℕ → Doubt) → ℕ → ℕ → Phase → Type 0
StoredOk decide doubt i n unused = ⊥
StoredOk decide doubt i n (gathering g) = ⊥
StoredOk decide doubt i n (decided g) = doubt i ≡ prepared n (decide n (shown g) i)
StoredOk decide doubt i n (noted g) = Unit {0}
StoredOk decide doubt i n forgotten = Unit {0}
StoredOk decide doubt i n (confirmed g) = Unit {0}
StoredOk decide doubt i n dropped = Unit {0}

unfoldable pub TakeOk : Phase → Type 0
TakeOk unused = ⊥
TakeOk (gathering g) = ⊥
TakeOk (decided g) = ⊥
TakeOk (noted g) = Unit {0}
TakeOk forgotten = Unit {0}
TakeOk (confirmed g) = ⊥
TakeOk dropped = ⊥

unfoldable pub TookOk : (ℕ → ℕ) → ℕ → Phase → Type 0
TookOk count i unused = ⊥
TookOk count i (gathering g) = ⊥
TookOk count i (decided g) = ⊥
TookOk count i (noted g) = (k : ℕ) (r : List ℕ) → g i ≡ gave k r → k < count i
TookOk count i forgotten = Unit {0}
TookOk count i (confirmed g) = ⊥
TookOk count i dropped = ⊥

unfoldable pub AgainOk : ℕ → ℕ → Phase → Type 0
AgainOk i k unused = ⊥
AgainOk i k (gathering g) = ⊥
AgainOk i k (decided g) = (r : List ℕ) × (g i ≡ gave k r)
AgainOk i k (noted g) = Unit {0}
AgainOk i k forgotten = Unit {0}
AgainOk i k (confirmed g) = Unit {0}
AgainOk i k dropped = Unit {0}

-- the call has decided
unfoldable pub Looked : Phase → Type 0
Looked unused = ⊥
Looked (gathering g) = ⊥
Looked (decided g) = Unit {0}
Looked (noted g) = Unit {0}
Looked forgotten = Unit {0}
Looked (confirmed g) = Unit {0}
Looked dropped = Unit {0}

unfoldable pub Fine : (Decision) → (ℕ → List ℕ) → (ℕ → ℕ) → (ℕ → Doubt) → Message → Phase → Type 0
Fine decide kept count doubt (row i n k r) p = Past kept count i k r
Fine decide kept count doubt (store i n k r) p = StoreOk decide count i n k r p
Fine decide kept count doubt (stored i n) p = StoredOk decide doubt i n p
Fine decide kept count doubt (take i n) p = TakeOk p
Fine decide kept count doubt (drop i n) p = NoRecord p
Fine decide kept count doubt (took i n) p = TookOk count i p
Fine decide kept count doubt (again i n k) p = AgainOk i k p
Fine decide kept count doubt (still i n) p = Looked p

pub record Inv (decide : Decision) (f : ℕ → List ℕ) (s : State) : Type 0 where
  pub phases : (n : ℕ) → PhaseOk decide s.kept s.count s.doubt n (s.phase n)
  pub doubted : (i n : ℕ) (r : List ℕ) → s.doubt i ≡ prepared n r → DoubtOk decide s.kept s.count i n r (s.phase n)
  pub fine : (m : Message) → In m s.sent → Fine decide s.kept s.count s.doubt m (s.phase (number_of m))
  pub rows : (i : ℕ) → current s i ≡ after decide f (noteds s.log) i
  pub saw : Saw decide f (noteds s.log)

pub no : ◌≡◌ {A = ℕ} 0 1 → ⊥
no e = omega arith
