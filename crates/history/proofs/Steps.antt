-- Each call that is done keeps what holds of the rows and the book.
use mathlib.Core.Path.{◌≡◌, refl, sym, ◌∙◌, ap}
use mathlib.Core.Bool.{Bool, true, false, cond, ◌&&◌, ◌||◌, or-false}
use mathlib.Core.Logic.{◌⊎◌, inl, inr, ◌≢◌}
use mathlib.Core.List.{List}
use Prim.Native.Nat.{ℕ, suc, ◌+◌, ◌^◌, ◌<◌, ◌≤◌}
use native.Mathlib.Decide.{ℕ_discrete}
use native.Mathlib.Omega.{arith}
use lib.Dec.{leb, eqb}
use borrow.Author.Tests.{eqb-true, eq-eqb, leb-true, le-leb}
use Rattle.sets.specs.Upto.{Within}
use Rattle.sets.specs.Sets.{has}
use Rattle.bools.proofs.BoolLaws.{or_l, or_r, or-e, clash, same_test}
use Rattle.sets.proofs.SetLaws.{has_within}
use Rattle.quorums.specs.declared.Kind.TheVariants.{Read, Write}
use Rattle.octets.specs.Bytes.{put}
use Rattle.fields.specs.declared.Laid.{Laid}
use Rattle.fields.specs.Layout.{is_empty, is_tall}
use Rattle.counties.specs.Counties.{Frame, list_quorum}
use Rattle.counties.specs.Marks.{laid_now}
use Rattle.protocol.specs.Polls.{Poll, highest_epoch, in_force, good_version, good, current}
use Rattle.protocol.proofs.ListLaws.{shared, inhabited, reads, has-list}
use Rattle.protocol.proofs.PollLaws.{good-at, good_of}
use Rattle.history.specs.Book.{Book, frame, county_in, name_in, has_all, holds_quorum, written, passed_on, agreed}
use Rattle.history.proofs.Invariant.{aim, Epochs, Versions, Inv, clean, in-force, version-is, good-is}

-- what a row says, and its contents
pub record Is (p : Poll) (c : ℕ → List ℕ) (i : ℕ) (z : Bool) (v d : ℕ) (l : List ℕ) : Type 0 where
  pub stale : p.stale i ≡ z
  pub version : p.version i ≡ v
  pub desired : p.desired i ≡ d
  pub contents : c i ≡ l

-- a row that stays as it was
abbrev pub Stays : Poll → (ℕ → List ℕ) → Poll → (ℕ → List ℕ) → ℕ → Type 0
Stays p c p' c' i = Is p' c' i (p.stale i) (p.version i) (p.desired i) (c i)

pub versions-of : {p' : Poll} {c' : ℕ → List ℕ} {i : ℕ} {z : Bool} {v d : ℕ} {l : List ℕ} {writes : ℕ} {file : List ℕ} {h : ℕ → Bool}
    → Is p' c' i z v d l → Versions z v d l writes file h → Versions (p'.stale i) (p'.version i) (p'.desired i) (c' i) writes file h
versions-of q r = rw (q.stale, q.version, q.desired, q.contents) r

pub aim-of : {p' : Poll} {c' : ℕ → List ℕ} {i : ℕ} {z : Bool} {v d : ℕ} {l : List ℕ} → Is p' c' i z v d l → aim p' i ≡ cond z d v
unfolding aim
aim-of q = rw (q.stale, q.version, q.desired)

-- epochs and lists that stay
epochs-of : {n : ℕ} {frame : Frame} {f f' : ℕ → ℕ} {g g' : ℕ → Laid} {force : Laid} {own : ℕ → Laid} {e : ℕ}
    → ((i : ℕ) → Within n i → f' i ≡ f i) → ((i : ℕ) → Within n i → g' i ≡ g i) → Epochs n frame f g force own e → Epochs n frame f' g' force own e
epochs-of {n} {frame} {f} {f'} {g} {g'} {force} {own} {e} q m E = record {
  below = λ i u. rw (q i u) (E.below i u);
  inside = λ i u. rw (q i u, m i u) (E.inside i u);
  bare = λ i u. rw (q i u, m i u) (E.bare i u);
  forced = λ i u. rw (q i u, m i u) (E.forced i u);
  owned = λ i u. rw (m i u) (E.owned i u);
  bound = E.bound;
  dead = λ i u. rw (q i u, m i u) (λ l s h. E.dead i u l s (λ j v t. rw (q j v) at (h j v t)));
}

-- one more number up to m + 1
leb-more : (k m : ℕ) → (leb k m || eqb k (m + 1)) ≡ leb k (m + 1)
leb-more k m = same_test _ _ (λ h. there (or-e _ _ h)) (λ h. back (ℕ_discrete k (m + 1)) (leb-true _ _ h))
  where
    there : (leb k m ≡ true) ⊎ (eqb k (m + 1) ≡ true) → leb k (m + 1) ≡ true
    there (inl q) = le-leb k (m + 1) (omega (arith, leb-true))
    there (inr q) = le-leb k (m + 1) (omega (arith, eqb-true))

    back : Dec (k ≡ m + 1) → k ≤ m + 1 → (leb k m || eqb k (m + 1)) ≡ true
    back (yes q) h = or_r (leb k m) (eqb k (m + 1)) (eq-eqb k (m + 1) q)
    back (no d) h = or_l (leb k m) (eqb k (m + 1)) (le-leb k m (omega arith))

-- the numbers up to the larger of two
leb-either : (k x y : ℕ) → x ≤ y → (leb k x || leb k y) ≡ leb k y
leb-either k x y h = same_test _ _ (λ q. there (or-e _ _ q)) (or_r (leb k x) (leb k y))
  where
    there : (leb k x ≡ true) ⊎ (leb k y ≡ true) → leb k y ≡ true
    there (inl q) = le-leb k y (omega (arith, leb-true))
    there (inr q) = q

module _ (n : ℕ) (p : Poll) (c : ℕ → List ℕ) (b : Book) (e : ℕ) (few : n ≤ 64) (I : Inv n p c b e) (p' : Poll) (c' : ℕ → List ℕ) where
  -- the rows after a write that worked on s: version v, patch at offset
  pub record Wrote (s : ℕ → Bool) (v offset : ℕ) (patch : List ℕ) : Type 0 where
    pub epoch : (i : ℕ) → Within n i → p'.epoch i ≡ p.epoch i
    pub list : (i : ℕ) → Within n i → p'.list i ≡ p.list i
    pub out : (i : ℕ) → Within n i → s i ≡ false → Stays p c p' c' i
    pub taken : (i : ℕ) → Within n i → s i ≡ true → good p s i ≡ true → Is p' c' i (p.stale i) v (p.desired i) (put offset patch (c i))
    pub marked : (i : ℕ) → Within n i → s i ≡ true → good p s i ≡ false → Is p' c' i true (p.version i) v (c i)

  module _ (s : ℕ → Bool) (offset : ℕ) (patch : List ℕ) (ins : (i : ℕ) → s i ≡ true → Within n i) (q : holds_quorum b Write s ≡ true) (cur : current p s ≡ true)
      (w : Wrote s (good_version p s + 1) offset patch) where
    read-q : holds_quorum b Read s ≡ true
    unfolding holds_quorum
    read-q = reads (frame b) b.in_force Write s q

    now : good_version p s ≡ b.writes
    now = version-is n p c b e few I s ins read-q cur

    wrote-versions : (i : ℕ) → Within n i
        → Versions (p'.stale i) (p'.version i) (p'.desired i) (c' i) (b.writes + 1) (put offset patch b.file) ((written b s offset patch).has_write i)
    unfolding written
    wrote-versions i u = go (s i) refl (good p s i) refl
      where
        v : Versions (p.stale i) (p.version i) (p.desired i) (c i) b.writes b.file (b.has_write i)
        v = I.versions i u

        go : (x : Bool) → s i ≡ x → (y : Bool) → good p s i ≡ y
            → Versions (p'.stale i) (p'.version i) (p'.desired i) (c' i) (b.writes + 1) (put offset patch b.file) (λ k. b.has_write i k || (s i && has_all b i && eqb k (b.writes + 1)))
        go true m true g =
            let d = good-at p s i g in
            let at : p.version i ≡ b.writes = d.newest ∙ now in
            let all : has_all b i ≡ true = sym (good-is n p c b e few I s ins read-q cur i m) ∙ g in
            versions-of (w.taken i u m g) (record {
              past = omega arith;
              wants = λ z. absurd (clash (sym d.clean ∙ z));
              same = λ z. ap (put offset patch) (v.same at);
              kept = λ k h. rw (v.kept k h, m, all, at, now) (leb-more k b.writes);
            })
        go true m false g =
            let all : has_all b i ≡ false = sym (good-is n p c b e few I s ins read-q cur i m) ∙ g in
            versions-of (w.marked i u m g) (record {
              past = omega (arith, v.past);
              wants = λ z. omega (arith, v.past, now);
              same = λ z. absurd (omega (arith, v.past));
              kept = λ k h. rw (m, all) (or-false (b.has_write i k) ∙ v.kept k h);
            })
        go false m y g = versions-of (w.out i u m) (record {
          past = omega (arith, v.past);
          wants = λ z. omega (arith, v.wants z);
          same = λ z. absurd (omega (arith, v.past));
          kept = λ k h. rw m (or-false (b.has_write i k) ∙ v.kept k h);
        })

    wrote-live : (t : ℕ → Bool) → list_quorum Read (frame b) b.in_force t ≡ true → (i : ℕ) × Within n i × (t i ≡ true) × (aim p' i ≡ b.writes + 1)
    unfolding holds_quorum
    wrote-live t h = let r = shared (frame b) b.in_force t s h q in (r.0, ins r.0 r.3, r.2, go r.0 r.3 (good p s r.0) refl)
      where
        go : (i : ℕ) → s i ≡ true → (y : Bool) → good p s i ≡ y → aim p' i ≡ b.writes + 1
        go i m true g = let d = good-at p s i g in aim-of (w.taken i (ins i m) m g) ∙ rw d.clean (ap (λ (x : ℕ). x + 1) now)
        go i m false g = aim-of (w.marked i (ins i m) m g) ∙ ap (λ (x : ℕ). x + 1) now

    pub keep-write : Inv n p' c' (written b s offset patch) e
    unfolding written frame county_in name_in
    keep-write = record { epochs = epochs-of w.epoch w.list I.epochs; versions = wrote-versions; live = wrote-live }

  -- ---- the rows after a send from f to t
  pub record Sent (f t : ℕ) : Type 0 where
    pub epoch : (i : ℕ) → Within n i → p'.epoch i ≡ p.epoch i
    pub list : (i : ℕ) → Within n i → p'.list i ≡ p.list i
    pub out : (i : ℕ) → Within n i → eqb i t ≡ false → Stays p c p' c' i
    pub target : Is p' c' t false (p.version f) 0 (c f)

  module _ (f t : ℕ) (uf : Within n f) (ut : Within n t) (mark : p.stale t ≡ true) (enough : p.desired t ≤ p.version f) (w : Sent f t) where
    sent-versions : (i : ℕ) → Within n i → Versions (p'.stale i) (p'.version i) (p'.desired i) (c' i) b.writes b.file ((passed_on b f t).has_write i)
    unfolding passed_on
    sent-versions i u = go (eqb i t) refl
      where
        vf : Versions (p.stale f) (p.version f) (p.desired f) (c f) b.writes b.file (b.has_write f)
        vf = I.versions f uf

        vt : Versions (p.stale t) (p.version t) (p.desired t) (c t) b.writes b.file (b.has_write t)
        vt = I.versions t ut

        v : Versions (p.stale i) (p.version i) (p.desired i) (c i) b.writes b.file (b.has_write i)
        v = I.versions i u

        go : (x : Bool) → eqb i t ≡ x → Versions (p'.stale i) (p'.version i) (p'.desired i) (c' i) b.writes b.file (λ k. b.has_write i k || (eqb i t && b.has_write f k))
        go true q =
            let at : i ≡ t = eqb-true i t q in
            rw (q, at) (versions-of w.target (record {
              past = vf.past;
              wants = λ z. absurd (clash z);
              same = vf.same;
              kept = λ k h. rw (vt.kept k h, vf.kept k h) (leb-either k (p.version t) (p.version f) (omega (arith, vt.wants mark)));
            }))
        go false q = versions-of (w.out i u q)
            (record { past = v.past; wants = v.wants; same = v.same; kept = λ k h. rw q (or-false (b.has_write i k) ∙ v.kept k h) })

    sent-live : (s : ℕ → Bool) → list_quorum Read (frame b) b.in_force s ≡ true → (i : ℕ) × Within n i × (s i ≡ true) × (aim p' i ≡ b.writes)
    unfolding aim
    sent-live s h = let r = I.live s h in (r.0, r.1, r.2, go r.0 r.1 r.3 (eqb r.0 t) refl)
      where
        go : (i : ℕ) → Within n i → aim p i ≡ b.writes → (x : Bool) → eqb i t ≡ x → aim p' i ≡ b.writes
        go i u a true q =
            let at : i ≡ t = eqb-true i t q in
            let d : p.desired t ≡ b.writes = rw (at, mark) at a in
            rw at (aim-of w.target ∙ omega (arith, (I.versions f uf).past))
        go i u a false q = aim-of (w.out i u q) ∙ a

    pub keep-send : Inv n p' c' (passed_on b f t) e
    unfolding passed_on frame county_in name_in
    keep-send = record { epochs = epochs-of w.epoch w.list I.epochs; versions = sent-versions; live = sent-live }

  -- ---- the rows after a check over r that makes epoch x
  pub record Checked (r x : ℕ) : Type 0 where
    pub epoch : (i : ℕ) → Within n i → p'.epoch i ≡ cond (has r i) x (p.epoch i)
    pub list : (i : ℕ) → Within n i → p'.list i ≡ cond (has r i) (laid_now (is_tall b.in_force) (county_in b) r) (p.list i)
    pub out : (i : ℕ) → Within n i → has r i ≡ false → Stays p c p' c' i
    pub taken : (i : ℕ) → Within n i → has r i ≡ true → good p (has r) i ≡ true → Stays p c p' c' i
    pub marked : (i : ℕ) → Within n i → has r i ≡ true → good p (has r) i ≡ false → Is p' c' i true (p.version i) (good_version p (has r)) (c i)

  module _ (r : ℕ) (us : r < 2 ^ n) (q : holds_quorum b Write (has r) ≡ true) where
    ins : (i : ℕ) → has r i ≡ true → Within n i
    ins i m = has_within n r i us m

    check-q : holds_quorum b Read (has r) ≡ true
    unfolding holds_quorum
    check-q = reads (frame b) b.in_force Write (has r) q

    -- that makes a new epoch
    module _ (cur : current p (has r) ≡ true) (w : Checked r (highest_epoch p (has r) + 1)) where
      next : highest_epoch p (has r) + 1 ≡ suc e
      next = ap (λ (x : ℕ). x + 1) (in-force n p c b e few I (has r) ins check-q).0 ∙ omega arith

      new : good_version p (has r) ≡ b.writes
      new = version-is n p c b e few I (has r) ins check-q cur

      new-epochs : Epochs n (frame b) (λ i. cond (has r i) (suc e) (p.epoch i)) (λ i. cond (has r i) (laid_now (is_tall b.in_force) (county_in b) r) (p.list i)) (laid_now (is_tall b.in_force) (county_in b) r) (λ i. cond (has r i) (laid_now (is_tall b.in_force) (county_in b) r) (b.own i)) (suc e)
      unfolding holds_quorum laid_now
      new-epochs = record {
        below = λ i u. below i u (has r i);
        inside = λ i u m. rw m (refl, refl);
        forced = λ i u. forced i u (has r i);
        bare = λ i u. bare i u (has r i) refl;
        owned = λ i u. ap (λ (x : Laid). cond (has r i) (laid_now (is_tall b.in_force) (county_in b) r) x) (I.epochs.owned i u);
        bound = us;
        dead = λ i u. dead i u (has r i);
      }
        where
          below : (i : ℕ) → Within n i → (x : Bool) → cond x (suc e) (p.epoch i) ≤ suc e
          below i u true = omega arith
          below i u false = omega (arith, I.epochs.below i u)

          forced : (i : ℕ) → Within n i → (x : Bool) → is_empty (cond x (laid_now (is_tall b.in_force) (county_in b) r) (p.list i)) ≡ false → cond x (suc e) (p.epoch i) ≡ suc e → cond x (laid_now (is_tall b.in_force) (county_in b) r) (p.list i) ≡ laid_now (is_tall b.in_force) (county_in b) r
          forced i u true l h = refl
          forced i u false l h = absurd (omega (arith, I.epochs.below i u))

          bare : (i : ℕ) → Within n i → (x : Bool) → has r i ≡ x → is_empty (cond x (laid_now (is_tall b.in_force) (county_in b) r) (p.list i)) ≡ true → cond x (suc e) (p.epoch i) ≡ 0
          bare i u true m l = absurd (clash (sym (has-list (laid_now (is_tall b.in_force) (county_in b) r) i m) ∙ l))
          bare i u false m l = I.epochs.bare i u l

          under : (i j : ℕ) (x : Bool) → p.epoch i ≤ e → cond x (suc e) (p.epoch j) ≤ p.epoch i → p.epoch j ≤ p.epoch i
          under i j true l h = absurd (omega arith)
          under i j false l h = h

          dead : (i : ℕ) → Within n i → (x : Bool) → cond x (suc e) (p.epoch i) < suc e → (s : ℕ → Bool)
              → ((j : ℕ) → Within n j → s j ≡ true → cond (has r j) (suc e) (p.epoch j) ≤ cond x (suc e) (p.epoch i))
              → list_quorum Read (frame b) (cond x (laid_now (is_tall b.in_force) (county_in b) r) (p.list i)) s ≡ true → ⊥
          dead i u true l s f h = omega arith
          dead i u false l s f h = go (ℕ_discrete (p.epoch i) e)
            where
              go : Dec (p.epoch i ≡ e) → ⊥
              go (yes z) =
                  let w = inhabited (frame b) (p.list i) Read s h in
                  let m = shared (frame b) b.in_force s (has r) (rw (I.epochs.forced i u (has-list (p.list i) w.0 w.1) z) at h) q in
                  let g : suc e ≤ p.epoch i = rw m.3 at (f m.0 (ins m.0 m.3) m.2) in
                  omega arith
              go (no d) = I.epochs.dead i u (omega (arith, I.epochs.below i u)) s (λ j v m. under i j (has r j) (I.epochs.below i u) (f j v m)) h

      new-versions : (i : ℕ) → Within n i → Versions (p'.stale i) (p'.version i) (p'.desired i) (c' i) b.writes b.file (b.has_write i)
      new-versions i u = go (has r i) refl (good p (has r) i) refl
        where
          v : Versions (p.stale i) (p.version i) (p.desired i) (c i) b.writes b.file (b.has_write i)
          v = I.versions i u

          go : (x : Bool) → has r i ≡ x → (y : Bool) → good p (has r) i ≡ y → Versions (p'.stale i) (p'.version i) (p'.desired i) (c' i) b.writes b.file (b.has_write i)
          go true m true g = versions-of (w.taken i u m g) v
          go true m false g = versions-of (w.marked i u m g) (record {
            past = v.past;
            wants = λ z. omega (arith, v.past, new, short (ℕ_discrete (p.version i) b.writes));
            same = v.same;
            kept = v.kept;
          })
            where
              short : Dec (p.version i ≡ b.writes) → p.version i ≢ b.writes
              short (no d) = d
              short (yes z) = absurd (clash (sym g ∙ good_of p (has r) i (record { inside = m; clean = clean n p c b e few I i u z; newest = z ∙ sym new })))
          go false m y g = versions-of (w.out i u m) v

      new-live : (s : ℕ → Bool) → list_quorum Read (frame b) (laid_now (is_tall b.in_force) (county_in b) r) s ≡ true → (i : ℕ) × Within n i × (s i ≡ true) × (aim p' i ≡ b.writes)
      unfolding laid_now
      new-live s h = let m = inhabited (frame b) (laid_now (is_tall b.in_force) (county_in b) r) Read s h in (m.0, ins m.0 m.1, m.2, go m.0 m.1 (good p (has r) m.0) refl)
        where
          go : (i : ℕ) → has r i ≡ true → (y : Bool) → good p (has r) i ≡ y → aim p' i ≡ b.writes
          go i m true g = let d = good-at p (has r) i g in aim-of (w.taken i (ins i m) m g) ∙ rw d.clean (d.newest ∙ new)
          go i m false g = aim-of (w.marked i (ins i m) m g) ∙ new

      pub keep-check : Inv n p' c' (agreed b r) (suc e)
      unfolding agreed frame county_in name_in
      keep-check = record {
        epochs = epochs-of (λ i u. w.epoch i u ∙ ap (λ (x : ℕ). cond (has r i) x (p.epoch i)) next) w.list new-epochs;
        versions = new-versions;
        live = new-live;
      }
