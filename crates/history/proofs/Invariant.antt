-- What holds of the rows and the book after any list of calls, and what the questions come to where it holds.
-- The rows are an unmasked poll p and their contents c.
use mathlib.Core.Path.{◌≡◌, refl, sym, ◌∙◌, subst}
use mathlib.Core.Bool.{Bool, true, false, cond, ◌&&◌}
use mathlib.Core.List.{List}
use Prim.Native.Nat.{ℕ, zero, suc, ◌^◌, ◌<◌, ◌≤◌}
use native.Mathlib.Decide.{ℕ_discrete}
use native.Mathlib.Omega.{arith}
use lib.Dec.{leb, eqb}
use borrow.Author.Tests.{eqb-true, eq-eqb, leb-true, le-leb}
use Rattle.sets.specs.Upto.{Within, every, some}
use Rattle.sets.specs.Sets.{has}
use Rattle.bools.proofs.BoolLaws.{and_l, and_r, and_i, same_test}
use Rattle.sets.proofs.UptoLaws.{every-at, every_of, some_at, some_of}
use Rattle.quorums.specs.declared.Kind.{Kind}
use Rattle.quorums.specs.declared.Kind.TheVariants.{Read, Write}
use Rattle.fields.specs.declared.Laid.{Laid}
use Rattle.fields.specs.Layout.{is_empty}
use Rattle.counties.specs.Counties.{Frame, list_quorum, list_choice}
use Rattle.protocol.specs.Polls.{Poll, listed, highest_epoch, in_force, good_version, good, current, quorum_held, own_try, stays, worked_on}
use Rattle.protocol.proofs.ListLaws.{inhabited, reads, grows, has-list}
use Rattle.protocol.proofs.PollLaws.{Leads, listed_of, epoch-le, leads, version-le, version-under, good-at, good_of, current-good, current-desired, current-of, cut_in}
use Rattle.history.specs.Book.{Book, frame, name_in, has_all, holds_quorum, some_has_all, write_set}

-- the version that a row has, or that it desires where it is marked
unfoldable pub aim : Poll → ℕ → ℕ
aim p i = cond (p.stale i) (p.desired i) (p.version i)

-- membership: e is the highest epoch; the rows that have it, and have a list, have the list in force, and that list has no other row
pub record Epochs (n : ℕ) (frame : Frame) (epoch : ℕ → ℕ) (list : ℕ → Laid) (force : Laid) (own : ℕ → Laid) (e : ℕ) : Type 0 where
  pub below : (i : ℕ) → Within n i → epoch i ≤ e
  pub inside : (i : ℕ) → Within n i → has force.members i ≡ true → (epoch i ≡ e) × (list i ≡ force)
  pub forced : (i : ℕ) → Within n i → is_empty (list i) ≡ false → epoch i ≡ e → list i ≡ force
  -- a row without a list is of no epoch yet
  pub bare : (i : ℕ) → Within n i → is_empty (list i) ≡ true → epoch i ≡ 0
  pub owned : (i : ℕ) → Within n i → own i ≡ list i
  pub bound : force.members < 2 ^ n
  -- the paper's Lemma 1: rows of no higher epoch than that of a row left behind hold no read quorum of its list
  pub dead : (i : ℕ) → Within n i → epoch i < e
      → (s : ℕ → Bool) → ((j : ℕ) → Within n j → s j ≡ true → epoch j ≤ epoch i) → list_quorum Read frame (list i) s ≡ true → ⊥

-- contents: a row against the book's writes, its file and what the row has
pub record Versions (stale : Bool) (version desired : ℕ) (contents : List ℕ) (writes : ℕ) (file : List ℕ) (has_write : ℕ → Bool) : Type 0 where
  pub past : version ≤ writes
  pub wants : stale ≡ true → (version < desired) × (desired ≤ writes)
  pub same : version ≡ writes → contents ≡ file
  -- it has the writes up to its version
  pub kept : (k : ℕ) → 1 ≤ k → has_write k ≡ leb k version

pub record Inv (n : ℕ) (p : Poll) (c : ℕ → List ℕ) (b : Book) (e : ℕ) : Type 0 where
  pub epochs : Epochs n (frame b) p.epoch p.list b.in_force b.own e
  pub versions : (i : ℕ) → Within n i → Versions (p.stale i) (p.version i) (p.desired i) (c i) b.writes b.file (b.has_write i)
  -- every read quorum of the list in force has a row that has every write, or desires the last one
  pub live : (s : ℕ → Bool) → list_quorum Read (frame b) b.in_force s ≡ true → (i : ℕ) × Within n i × (s i ≡ true) × (aim p i ≡ b.writes)

module _ (n : ℕ) (p : Poll) (c : ℕ → List ℕ) (b : Book) (e : ℕ) (few : n ≤ 64) (I : Inv n p c b e) where
  -- a row has every done write in the book if its version is their number
  pub has_all_lem : (i : ℕ) → Within n i → has_all b i ≡ eqb (p.version i) b.writes
  unfolding has_all
  has_all_lem i u = same_test _ _
      (λ h. eq-eqb _ _ (go b.writes refl h))
      (λ h. every_of b.writes (b.has_write i) (λ k w. (I.versions i u).kept k w.0 ∙ le-leb k _ (omega (arith, eqb-true))))
    where
      go : (m : ℕ) → b.writes ≡ m → every b.writes (b.has_write i) ≡ true → p.version i ≡ b.writes
      go zero q h = omega (arith, (I.versions i u).past)
      go (suc m) q h =
          let t : leb (suc m) (p.version i) ≡ true = sym ((I.versions i u).kept (suc m) (omega arith)) ∙ every-at b.writes (b.has_write i) h (suc m) (omega arith) in
          omega (arith, leb-true, (I.versions i u).past)

  -- a row that has every write is not marked
  pub clean : (i : ℕ) → Within n i → p.version i ≡ b.writes → p.stale i ≡ false
  clean i u v = go (p.stale i) refl
    where
      go : (x : Bool) → p.stale i ≡ x → p.stale i ≡ false
      go true z = absurd (omega (arith, (I.versions i u).wants z))
      go false z = z

  -- a row of the list in force has a list
  member-list : (i : ℕ) → Within n i → has b.in_force.members i ≡ true → is_empty (p.list i) ≡ false
  member-list i u h = rw (I.epochs.inside i u h).1 (has-list b.in_force i h)

  -- ---- a set of used rows
  module _ (s : ℕ → Bool) (ins : (i : ℕ) → s i ≡ true → Within n i) where
    place : (i : ℕ) → s i ≡ true → Within 64 i
    place i m = omega (arith, ins i m)

    -- where it holds a quorum of the list in force, a row of it has a list
    pub someone : (kind : Kind) → holds_quorum b kind s ≡ true → some 64 (listed p s) ≡ true
    unfolding holds_quorum
    someone kind h =
        let w = inhabited (frame b) b.in_force kind s h in
        some_of 64 (listed p s) w.0 (place w.0 w.2) (listed_of p s w.0 w.2 (member-list w.0 (ins w.0 w.2) w.1))

    -- where it holds a quorum of the list in force, its highest epoch is e and V is that list
    pub in-force : holds_quorum b Read s ≡ true → (highest_epoch p s ≡ e) × (in_force p s ≡ b.in_force)
    unfolding holds_quorum
    in-force h =
        let w = inhabited (frame b) b.in_force Read s h in
        let u = ins w.0 w.2 in
        let l = leads p s (someone Read h) in
        let t : highest_epoch p s ≡ e =
        omega (arith, l.1.highest, epoch-le p s w.0 (place w.0 w.2) w.2 (member-list w.0 u w.1), (I.epochs.inside w.0 u w.1).0, I.epochs.below l.0 (ins l.0 l.1.inside)) in
        (t, sym l.1.list ∙ I.epochs.forced l.0 (ins l.0 l.1.inside) l.1.has-list (l.1.highest ∙ t))

    -- question 6 is the book's quorum
    pub quorum-is : (kind : Kind) → quorum_held kind (frame b) p s ≡ holds_quorum b kind s
    unfolding quorum_held holds_quorum
    quorum-is kind = same_test _ _ (λ h. there (leads p s (and_l _ _ h)) (and_r (some 64 (listed p s)) _ h)) back
      where
        there : (i : ℕ) × Leads p s i → list_quorum kind (frame b) (in_force p s) s ≡ true → list_quorum kind (frame b) b.in_force s ≡ true
        there (i, l) h = go (ℕ_discrete (p.epoch i) e)
          where
            u : Within n i
            u = ins i l.inside

            lower : (j : ℕ) → Within n j → s j ≡ true → (x : Bool) → is_empty (p.list j) ≡ x → p.epoch j ≤ p.epoch i
            lower j v m true z = omega (arith, I.epochs.bare j v z)
            lower j v m false z = omega (arith, l.highest, epoch-le p s j (place j m) m z)

            go : Dec (p.epoch i ≡ e) → list_quorum kind (frame b) b.in_force s ≡ true
            go (yes t) = subst (λ (v : Laid). list_quorum kind (frame b) v s ≡ true) (sym l.list ∙ I.epochs.forced i u l.has-list t) h
            go (no d) = absurd (I.epochs.dead i u (omega (arith, I.epochs.below i u)) s
                (λ j v m. lower j v m (is_empty (p.list j)) refl)
                (subst (λ (v : Laid). list_quorum Read (frame b) v s ≡ true) (sym l.list) (reads (frame b) (in_force p s) kind s h)))

        back : list_quorum kind (frame b) b.in_force s ≡ true → (some 64 (listed p s) && list_quorum kind (frame b) (in_force p s) s) ≡ true
        back h = and_i _ _ (someone kind h) (subst (λ (v : Laid). list_quorum kind (frame b) v s ≡ true) (sym (in-force (reads (frame b) b.in_force kind s h)).1) h)

    -- ---- that holds a read quorum of the list in force
    module _ (q : holds_quorum b Read s ≡ true) where
      pub version-is : current p s ≡ true → good_version p s ≡ b.writes
      unfolding aim holds_quorum
      version-is h = go (I.live s q)
        where
          under : good_version p s ≤ b.writes
          under = version-under p s b.writes (λ i m. (I.versions i (ins i m)).past)

          go : (i : ℕ) × Within n i × (s i ≡ true) × (aim p i ≡ b.writes) → good_version p s ≡ b.writes
          go (i, u, m, a) = by (p.stale i) refl
            where
              by : (x : Bool) → p.stale i ≡ x → good_version p s ≡ b.writes
              by true z = let d : p.desired i ≡ b.writes = rw z at a in omega (arith, under, current-desired p s h i (place i m) m z)
              by false z = let d : p.version i ≡ b.writes = rw z at a in omega (arith, under, version-le p s i (place i m) m z)

      -- question 7 is the book's "a row has every done write"
      pub current-is : current p s ≡ some_has_all b s
      unfolding some_has_all
      current-is = same_test _ _ there back
        where
          there : current p s ≡ true → some 64 (λ i. s i && has_all b i) ≡ true
          there h =
              let g = current-good p s h in
              let m = g.2.inside in
              some_of 64 _ g.0 g.1 (and_i (s g.0) _ m (has_all_lem g.0 (ins g.0 m) ∙ eq-eqb _ _ (g.2.newest ∙ version-is h)))

          back : some 64 (λ i. s i && has_all b i) ≡ true → current p s ≡ true
          back h =
              let w = some_at 64 _ h in
              let i = w.0 in
              let m : s i ≡ true = and_l (s i) _ w.2 in
              let u = ins i m in
              let v : p.version i ≡ b.writes = eqb-true _ _ (sym (has_all_lem i u) ∙ and_r (s i) _ w.2) in
              let z = clean i u v in
              let top : good_version p s ≡ b.writes = omega (arith, version-le p s i w.1 m z, version-under p s b.writes (λ j t. (I.versions j (ins j t)).past)) in
              current-of p s i w.1 (record { inside = m; clean = z; newest = v ∙ sym top })
              (λ j wj t y. omega (arith, (I.versions j (ins j t)).wants y))

      -- the good rows are those that have every write
      pub good-is : current p s ≡ true → (i : ℕ) → s i ≡ true → good p s i ≡ has_all b i
      good-is h i m = same_test _ _
          (λ g. has_all_lem i (ins i m) ∙ eq-eqb _ _ ((good-at p s i g).newest ∙ version-is h))
          (λ g. let v : p.version i ≡ b.writes = eqb-true _ _ (sym (has_all_lem i (ins i m)) ∙ g) in
          good_of p s i (record { inside = m; clean = clean i (ins i m) v; newest = v ∙ sym (version-is h) }))

    -- questions 6 and 7 together
    pub both_is : (kind : Kind) → (quorum_held kind (frame b) p s && current p s) ≡ (holds_quorum b kind s && some_has_all b s)
    unfolding holds_quorum
    both_is kind = rw (quorum-is kind) (go (list_quorum kind (frame b) b.in_force s) refl)
      where
        go : (x : Bool) → list_quorum kind (frame b) b.in_force s ≡ x → (x && current p s) ≡ (x && some_has_all b s)
        go true h = current-is (reads (frame b) b.in_force kind s h)
        go false h = refl

  -- where a smaller set has a row with every write, so has a larger one
  some_more : (s t : ℕ → Bool) → ((i : ℕ) → s i ≡ true → t i ≡ true) → some_has_all b s ≡ true → some_has_all b t ≡ true
  unfolding some_has_all
  some_more s t sub h =
      let w = some_at 64 _ h in
      some_of 64 _ w.0 w.1 (and_i (t w.0) _ (sub w.0 (and_l (s w.0) _ w.2)) (and_r (s w.0) _ w.2))

  -- ---- a read or a write by c over r
  module _ (kind : Kind) (k a : ℕ) (r : ℕ → Bool) (ins : (i : ℕ) → r i ≡ true → Within n i) where
    tried : ℕ → Bool
    tried = own_try kind (frame b) p k a r

    tried-in : (i : ℕ) → tried i ≡ true → r i ≡ true
    unfolding tried own_try
    tried-in i h = cut_in (list_choice kind (frame b) (p.list k) a) r i h

    tried-used : (i : ℕ) → tried i ≡ true → Within n i
    tried-used i h = ins i (tried-in i h)

    -- what questions 6 and 7 answer for the set worked on is what the book says of R
    pub answers-are : (quorum_held kind (frame b) p (worked_on kind (frame b) p k a r) ≡ holds_quorum b kind r)
        × (holds_quorum b kind r ≡ true → current p (worked_on kind (frame b) p k a r) ≡ some_has_all b r)
    unfolding worked_on stays tried holds_quorum
    answers-are = go (quorum_held kind (frame b) p tried && current p tried) refl
      where
        go : (x : Bool) → (quorum_held kind (frame b) p tried && current p tried) ≡ x
            → (quorum_held kind (frame b) p (cond x tried r) ≡ holds_quorum b kind r) × (holds_quorum b kind r ≡ true → current p (cond x tried r) ≡ some_has_all b r)
        go true h =
            let f : (holds_quorum b kind tried && some_has_all b tried) ≡ true = sym (both_is tried tried-used kind) ∙ h in (
              and_l _ _ h ∙ sym (grows (frame b) b.in_force kind tried r tried-in (and_l _ _ f)),
              λ z. and_r (quorum_held kind (frame b) p tried) _ h ∙ sym (some_more tried r tried-in (and_r (holds_quorum b kind tried) _ f)),
            )
        go false h = (quorum-is r ins kind, λ z. current-is r ins (reads (frame b) b.in_force kind r z))

  -- the set of a write is the book's
  pub set_is : (k r : ℕ) → Within n k → ((i : ℕ) → has r i ≡ true → Within n i) → worked_on Write (frame b) p k (name_in b k) (has r) ≡ write_set b k r
  unfolding worked_on stays write_set own_try tried
  set_is k r u ins =
      rw (I.epochs.owned k u, ← (both_is (own_try Write (frame b) p k (name_in b k) (has r)) (tried-used Write k (name_in b k) (has r) ins) Write))
