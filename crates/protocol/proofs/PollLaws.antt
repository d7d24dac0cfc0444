-- What a poll says of a set of rows, row by row; and that it says nothing of rows outside the set.
use mathlib.Core.Path.{◌≡◌, refl, sym, ◌∙◌, ap, ap₂, fun_ext}
use mathlib.Core.Bool.{Bool, true, false, not, cond, ◌&&◌}
use Prim.Native.Nat.{ℕ, ◌≤◌}
use native.Mathlib.Omega.{arith}
use lib.Dec.{ltb, eqb}
use borrow.Author.Tests.{eqb-true, eq-eqb, not-true, ltb-false, le-ltb}
use Rattle.sets.specs.Upto.{Within, some, lowest, most}
use Rattle.sets.specs.Sets.{cut_to}
use Rattle.bools.proofs.BoolLaws.{and_l, and_r, and_i, clash}
use Rattle.sets.proofs.UptoLaws.{some_at, some_of, some-none, some-ext, most-le, most-at, most-under, most-ext, lowest-at, lowest-none, lowest-ext}
use Rattle.quorums.specs.declared.Kind.{Kind}
use Rattle.fields.specs.declared.Laid.{Laid}
use Rattle.fields.specs.Layout.{is_empty}
use Rattle.counties.specs.Counties.{Frame, list_quorum, list_choice}
use Rattle.protocol.specs.Polls.{Poll, listed, highest_epoch, in_force, unmarked, marked, good_version, good, current, quorum_held, own_try, stays, worked_on}

-- the row whose list is in force
pub record Leads (p : Poll) (s : ℕ → Bool) (i : ℕ) : Type 0 where
  pub place : Within 64 i
  pub inside : s i ≡ true
  pub has-list : is_empty (p.list i) ≡ false
  pub highest : p.epoch i ≡ highest_epoch p s
  pub list : p.list i ≡ in_force p s

pub record Good (p : Poll) (s : ℕ → Bool) (i : ℕ) : Type 0 where
  pub inside : s i ≡ true
  pub clean : p.stale i ≡ false
  pub newest : p.version i ≡ good_version p s

module _ (p : Poll) (s : ℕ → Bool) where
  -- the rows of S that have a list
  pub listed_at : (i : ℕ) → listed p s i ≡ true → (s i ≡ true) × (is_empty (p.list i) ≡ false)
  unfolding listed
  listed_at i h = (and_l _ _ h, not-true _ (and_r (s i) _ h))

  pub listed_of : (i : ℕ) → s i ≡ true → is_empty (p.list i) ≡ false → listed p s i ≡ true
  unfolding listed
  listed_of i m l = rw (m, l)

  -- of any poll: no row of S that has a list is of a higher epoch; one that has none is passed over, whatever its epoch
  pub epoch-le : (i : ℕ) → Within 64 i → s i ≡ true → is_empty (p.list i) ≡ false → p.epoch i ≤ highest_epoch p s
  unfolding highest_epoch
  epoch-le i w m l = most-le 64 (listed p s) p.epoch i w (listed_of i m l)

  pub epoch-under : (c : ℕ) → ((i : ℕ) → s i ≡ true → p.epoch i ≤ c) → highest_epoch p s ≤ c
  unfolding highest_epoch
  epoch-under c f = most-under 64 (listed p s) p.epoch c (λ i w h. f i (listed_at i h).0)

  -- the lowest row of the highest epoch
  leader : ℕ
  leader = lowest 64 (λ i. listed p s i && eqb (p.epoch i) (highest_epoch p s))

  lead_is : some 64 (listed p s) ≡ true → Leads p s leader
  unfolding highest_epoch in_force leader
  lead_is h =
      let m = most-at 64 (listed p s) p.epoch h in
      let test : ℕ → Bool = λ i. listed p s i && eqb (p.epoch i) (most 64 (listed p s) p.epoch) in
      let f = lowest-at 64 test (some_of 64 test m.0 m.1 (and_i (listed p s m.0) _ m.2 (eq-eqb _ _ m.3))) in
      let l = listed_at (lowest 64 test) (and_l _ _ f.1) in
      record { place = f.0; inside = l.0; has-list = l.1; highest = eqb-true _ _ (and_r (listed p s (lowest 64 test)) _ f.1); list = refl }

  pub leads : some 64 (listed p s) ≡ true → (i : ℕ) × Leads p s i
  leads h = (leader, lead_is h)

  pub lead-none : some 64 (listed p s) ≡ false → in_force p s ≡ p.list 0
  unfolding in_force
  lead-none h = ap p.list (lowest-none 64 _ (λ i w. go i w (listed p s i) refl))
    where
      go : (i : ℕ) → Within 64 i → (b : Bool) → listed p s i ≡ b → (b && eqb (p.epoch i) (highest_epoch p s)) ≡ false
      go i w true m = absurd (clash (sym h ∙ some_of 64 (listed p s) i w m))
      go i w false m = refl

  -- the list in force is empty only where no row of S has a list; place 0 is no row's
  pub held-list : is_empty (p.list 0) ≡ true → some 64 (listed p s) ≡ not (is_empty (in_force p s))
  held-list none = go (some 64 (listed p s)) refl
    where
      go : (b : Bool) → some 64 (listed p s) ≡ b → b ≡ not (is_empty (in_force p s))
      go true h = let l = lead_is h in rw (← l.list, l.has-list)
      go false h = rw (lead-none h, none)

  pub version-le : (i : ℕ) → Within 64 i → s i ≡ true → p.stale i ≡ false → p.version i ≤ good_version p s
  unfolding good_version unmarked
  version-le i w h z = most-le 64 (unmarked p s) p.version i w (rw (h, z))

  pub version-under : (c : ℕ) → ((i : ℕ) → s i ≡ true → p.version i ≤ c) → good_version p s ≤ c
  unfolding good_version unmarked
  version-under c f = most-under 64 (unmarked p s) p.version c (λ i w h. f i (and_l _ _ h))

  pub good-at : (i : ℕ) → good p s i ≡ true → Good p s i
  unfolding good unmarked
  good-at i h =
      let u = and_l (s i && not (p.stale i)) _ h in
      record { inside = and_l (s i) _ u; clean = not-true _ (and_r (s i) _ u); newest = eqb-true _ _ (and_r (s i && not (p.stale i)) _ h) }

  pub good_of : (i : ℕ) → Good p s i → good p s i ≡ true
  unfolding good unmarked
  good_of i g = rw (g.inside, g.clean) (eq-eqb _ _ g.newest)

  -- where the set is current there is a good row, and no marked row desires more
  pub current-good : current p s ≡ true → (i : ℕ) × Within 64 i × Good p s i
  unfolding current
  current-good h = let r = some_at 64 (good p s) (and_l _ _ h) in (r.0, r.1, good-at r.0 r.2)

  pub current-desired : current p s ≡ true → (i : ℕ) → Within 64 i → s i ≡ true → p.stale i ≡ true → p.desired i ≤ good_version p s
  unfolding current marked
  current-desired h i w m z =
      go (ltb (good_version p s) (p.desired i)) refl (not-true _ (and_r (some 64 (good p s)) _ h))
    where
      go : (b : Bool) → ltb (good_version p s) (p.desired i) ≡ b → some 64 (λ j. s j && p.stale j && ltb (good_version p s) (p.desired j)) ≡ false
          → p.desired i ≤ good_version p s
      go true e none = absurd (clash (sym none ∙ some_of 64 _ i w (rw (m, z) e)))
      go false e none = ltb-false _ _ e

  pub current-of : (i : ℕ) → Within 64 i → Good p s i → ((j : ℕ) → Within 64 j → s j ≡ true → p.stale j ≡ true → p.desired j ≤ good_version p s) → current p s ≡ true
  unfolding current marked
  current-of i w g f =
      let none : some 64 (λ j. s j && p.stale j && ltb (good_version p s) (p.desired j)) ≡ false = some-none 64 _ (λ j u. out j u (s j) refl (p.stale j) refl) in
      and_i _ _ (some_of 64 (good p s) i w (good_of i g)) (rw none)
    where
      out : (j : ℕ) → Within 64 j → (a : Bool) → s j ≡ a → (b : Bool) → p.stale j ≡ b → (s j && p.stale j && ltb (good_version p s) (p.desired j)) ≡ false
      out j u true ea true eb = rw (ea, eb) (le-ltb (good_version p s) (p.desired j) (f j u ea eb))
      out j u true ea false eb = rw (ea, eb)
      out j u false ea b eb = rw ea

  -- the good row of lowest index
  pub lowest-good : current p s ≡ true → Within 64 (lowest 64 (good p s)) × Good p s (lowest 64 (good p s))
  lowest-good h =
      let r = current-good h in
      let f = lowest-at 64 (good p s) (some_of 64 (good p s) r.0 r.1 (good_of r.0 r.2)) in
      (f.0, good-at (lowest 64 (good p s)) f.1)

-- ---- two polls that agree on the rows of s say the same of s
pub record Agree (p q : Poll) (s : ℕ → Bool) : Type 0 where
  pub stale : (i : ℕ) → s i ≡ true → p.stale i ≡ q.stale i
  pub version : (i : ℕ) → s i ≡ true → p.version i ≡ q.version i
  pub desired : (i : ℕ) → s i ≡ true → p.desired i ≡ q.desired i
  pub epoch : (i : ℕ) → s i ≡ true → p.epoch i ≡ q.epoch i
  pub list : (i : ℕ) → s i ≡ true → p.list i ≡ q.list i

-- a test of what is in s
within : (s : ℕ → Bool) (a b : ℕ → Bool) → ((i : ℕ) → s i ≡ true → a i ≡ b i) → (i : ℕ) → (s i && a i) ≡ (s i && b i)
within s a b f i = go (s i) refl
  where
    go : (x : Bool) → s i ≡ x → (x && a i) ≡ (x && b i)
    go true e = f i e
    go false e = refl

module _ (p q : Poll) (s : ℕ → Bool) (g : Agree p q s) where
  pub listed_same : listed p s ≡ listed q s
  unfolding listed
  listed_same = fun_ext (within s _ _ (λ i m. ap (λ (l : Laid). not (is_empty l)) (g.list i m)))

  pub epoch-same : highest_epoch p s ≡ highest_epoch q s
  unfolding highest_epoch
  epoch-same = most-ext 64 (listed p s) (listed q s) p.epoch q.epoch (λ i w. ap (λ (t : ℕ → Bool). t i) listed_same) (λ i w m. g.epoch i (listed_at q s i m).0)

  pub list_same : some 64 (listed p s) ≡ true → in_force p s ≡ in_force q s
  unfolding in_force leader
  list_same h =
      let here : (i : ℕ) → listed p s i ≡ true → eqb (p.epoch i) (highest_epoch p s) ≡ eqb (q.epoch i) (highest_epoch q s) =
      λ i m. ap₂ eqb (g.epoch i (listed_at p s i m).0) epoch-same in
      let e : leader p s ≡ leader q s = lowest-ext 64 _ _ (λ i w. within (listed p s) _ _ here i ∙ ap (λ (t : ℕ → Bool). t i && eqb (q.epoch i) (highest_epoch q s)) listed_same) in
      ap p.list e ∙ g.list (leader q s) (lead_is q s (rw (← listed_same) h)).inside

  unmarked-same : (i : ℕ) → unmarked p s i ≡ unmarked q s i
  unfolding unmarked
  unmarked-same = within s (λ i. not (p.stale i)) (λ i. not (q.stale i)) (λ i m. ap not (g.stale i m))

  pub version-same : good_version p s ≡ good_version q s
  unfolding good_version unmarked
  version-same = most-ext 64 (unmarked p s) (unmarked q s) p.version q.version (λ i w. unmarked-same i) (λ i w m. g.version i (and_l _ _ m))

  pub good-same : good p s ≡ good q s
  unfolding good unmarked
  good-same = fun_ext (λ i. go i (s i) refl)
    where
      go : (i : ℕ) (x : Bool) → s i ≡ x → (s i && not (p.stale i) && eqb (p.version i) (good_version p s)) ≡ (s i && not (q.stale i) && eqb (q.version i) (good_version q s))
      go i true e = rw (e, g.stale i e, g.version i e, version-same)
      go i false e = rw e

  pub current-same : current p s ≡ current q s
  unfolding current marked
  current-same = ap₂ (λ (x y : Bool). x && not y) (ap (some 64) good-same) (some-ext 64 _ _ (λ i w. go i (s i) refl))
    where
      go : (i : ℕ) (x : Bool) → s i ≡ x → (s i && p.stale i && ltb (good_version p s) (p.desired i)) ≡ (s i && q.stale i && ltb (good_version q s) (q.desired i))
      go i true e = rw (e, g.stale i e, g.desired i e, version-same)
      go i false e = rw e

  pub quorum-same : (kind : Kind) (f : Frame) → quorum_held kind f p s ≡ quorum_held kind f q s
  unfolding quorum_held
  quorum-same kind f = rw (← listed_same) (go (some 64 (listed p s)) refl)
    where
      go : (x : Bool) → some 64 (listed p s) ≡ x → (x && list_quorum kind f (in_force p s) s) ≡ (x && list_quorum kind f (in_force q s) s)
      go true e = rw (list_same e)
      go false e = refl

-- a set cut down to r is within r
pub cut_in : (s r : ℕ → Bool) (i : ℕ) → cut_to s r i ≡ true → r i ≡ true
unfolding cut_to
cut_in s r i h = and_r (s i) _ h

-- polls that agree on r agree on less
pub agree_less : (p q : Poll) (s r : ℕ → Bool) → ((i : ℕ) → s i ≡ true → r i ≡ true) → Agree p q r → Agree p q s
agree_less p q s r sub g = record {
  stale = λ i m. g.stale i (sub i m);
  version = λ i m. g.version i (sub i m);
  desired = λ i m. g.desired i (sub i m);
  epoch = λ i m. g.epoch i (sub i m);
  list = λ i m. g.list i (sub i m);
}

module _ (kind : Kind) (f : Frame) (p q : Poll) (c a : ℕ) (r : ℕ → Bool) (answers : r c ≡ true) (g : Agree p q r) where
  pub try-same : own_try kind f p c a r ≡ own_try kind f q c a r
  unfolding own_try
  try-same = ap (λ (v : Laid). cut_to (list_choice kind f v a) r) (g.list c answers)

  pub try-in : (i : ℕ) → own_try kind f q c a r i ≡ true → r i ≡ true
  unfolding own_try
  try-in i h = cut_in (list_choice kind f (q.list c) a) r i h

  pub stays_same : stays kind f p c a r ≡ stays kind f q c a r
  unfolding stays
  stays_same =
      let less = agree_less p q (own_try kind f q c a r) r try-in g in
      rw (try-same, quorum-same p q (own_try kind f q c a r) less kind f, current-same p q (own_try kind f q c a r) less)

  pub worked_same : worked_on kind f p c a r ≡ worked_on kind f q c a r
  unfolding worked_on
  worked_same = ap₂ (λ (x : Bool) (y : ℕ → Bool). cond x y r) stays_same try-same

-- the set worked on is within R
pub worked-in : (kind : Kind) (f : Frame) (p : Poll) (c a : ℕ) (r : ℕ → Bool) (i : ℕ) → worked_on kind f p c a r i ≡ true → r i ≡ true
unfolding worked_on own_try
worked-in kind f p c a r i = go (stays kind f p c a r)
  where
    tried : ℕ → Bool
    tried = cut_to (list_choice kind f (p.list c) a) r

    go : (b : Bool) → cond b tried r i ≡ true → r i ≡ true
    go true h = cut_in (list_choice kind f (p.list c) a) r i h
    go false h = h

-- ---- good rows of any poll: the unmarked rows of S that no unmarked row of S is ahead of
pub good-highest : (p : Poll) (s : ℕ → Bool) (i : ℕ) → good p s i ≡ true → (j : ℕ) → Within 64 j → s j ≡ true → p.stale j ≡ false → p.version j ≤ p.version i
good-highest p s i g j w m z = let d = good-at p s i g in omega (arith, version-le p s j w m z, d.newest)

pub highest-good : (p : Poll) (s : ℕ → Bool) (i : ℕ) → Within 64 i → s i ≡ true → p.stale i ≡ false
    → ((j : ℕ) → Within 64 j → s j ≡ true → p.stale j ≡ false → p.version j ≤ p.version i) → good p s i ≡ true
unfolding good_version unmarked
highest-good p s i w m z f =
    let low : p.version i ≤ good_version p s = version-le p s i w m z in
    let high : good_version p s ≤ p.version i = most-under 64 (unmarked p s) p.version (p.version i) (λ j u h. f j u (and_l _ _ h) (not-true _ (and_r (s j) _ h))) in
    good_of p s i (record { inside = m; clean = z; newest = omega arith })
