-- The laws of one level, rows or counties. Little after this opens it.
use mathlib.Core.Path.{◌≡◌, refl, sym, ◌∙◌}
use mathlib.Core.Bool.{Bool, true, ◌&&◌}
use mathlib.Core.List.{List}
use Prim.Native.Nat.{ℕ, ◌-◌, ◌≤◌}
use native.Mathlib.Omega.{arith}
use lib.Dec.{leb, eqb}
use lib.ListN.{length, get_or}
use borrow.Author.Tests.{le-leb, leb-true, eqb-true, eq-eqb}
use Rattle.bools.proofs.BoolLaws.{and_l, and_r, and_i, same_test}
use Rattle.sets.specs.Upto.{Within, count, keep}
use Rattle.sets.proofs.UptoLaws.{some_at, some_of}
use Rattle.sets.proofs.KeepLaws.{kept}
use Rattle.quorums.specs.declared.Kind.{Kind}
use Rattle.quorums.specs.declared.Kind.TheVariants.{Read, Write}
use Rattle.grid.specs.Sizes.{grid_by}
use Rattle.quorums.specs.Quorums.{choice}
use Rattle.grid.proofs.SizeLaws.{laid-fits}
use Rattle.quorums.proofs.QuorumLaws as Q
use Rattle.counties.specs.Levels.{seats, at_seat, level, level_choice}
use Rattle.counties.specs.Claims.{LevelQuorums}

-- ---- who is at position k
pub at-seat : (rows : List ℕ) (q : ℕ → Bool) (k : ℕ) → Within (length rows) k → q (get_or rows (k - 1) 0) ≡ true → at_seat rows q k ≡ true
unfolding at_seat
at-seat rows q k w h = rw (le-leb 1 k w.0, le-leb k (length rows) w.1) h

pub seat-within : (rows : List ℕ) (q : ℕ → Bool) (k : ℕ) → at_seat rows q k ≡ true → Within (length rows) k × (q (get_or rows (k - 1) 0) ≡ true)
unfolding at_seat
seat-within rows q k h =
    let w = and_l (leb 1 k && leb k (length rows)) _ h in
    let l : 1 ≤ k = leb-true 1 k (and_l _ _ w) in
    let u : k ≤ length rows = leb-true k _ (and_r (leb 1 k) _ w) in
    (omega arith, and_r (leb 1 k && leb k (length rows)) _ h)

-- ---- those that pass p
module _ (mark : ℕ) (order : List ℕ) (p : ℕ → Bool) where
  abbrev row_at : ℕ → ℕ
  row_at k = get_or (seats order p) (k - 1) 0

  -- who has a seat passes
  seated : (s : ℕ → Bool) (k : ℕ) → at_seat (seats order p) s k ≡ true → (p (row_at k) ≡ true) × (s (row_at k) ≡ true)
  unfolding seats
  seated s k h = let a = seat-within (keep p order) s k h in (kept p order (k - 1) (omega (arith, a.0)), a.1)

  level-shared : (s t : ℕ → Bool) → level Read mark order p s ≡ true → level Write mark order p t ≡ true → (i : ℕ) × (p i ≡ true) × (s i ≡ true) × (t i ≡ true)
  unfolding level
  level-shared s t h g =
      let r = Q.shared (grid_by mark (count 64 p)) (count 64 p) (at_seat (seats order p) s) (at_seat (seats order p) t) h g in
      let a = seated s r.0 r.2 in
      (row_at r.0, a.0, a.1, (seated t r.0 r.3).1)

  level-inhabited : (kind : Kind) (s : ℕ → Bool) → level kind mark order p s ≡ true → (i : ℕ) × (p i ≡ true) × (s i ≡ true)
  unfolding level
  level-inhabited kind s h =
      let r = Q.inhabited (grid_by mark (count 64 p)) (count 64 p) kind (at_seat (seats order p) s) h in
      let a = seated s r.0 r.2 in
      (row_at r.0, a.0, a.1)

  level-reads : (kind : Kind) (s : ℕ → Bool) → level kind mark order p s ≡ true → level Read mark order p s ≡ true
  unfolding level
  level-reads Read s h = h
  level-reads Write s h = Q.write-reads (grid_by mark (count 64 p)) (count 64 p) (at_seat (seats order p) s) h

  -- where those of s that pass are in t, t holds what s holds
  level-members : (kind : Kind) (s t : ℕ → Bool) → ((i : ℕ) → p i ≡ true → s i ≡ true → t i ≡ true) → level kind mark order p s ≡ true → level kind mark order p t ≡ true
  unfolding level
  level-members kind s t sub h = Q.grows (grid_by mark (count 64 p)) (count 64 p) (at_seat (seats order p) s) (at_seat (seats order p) t) (λ k w e.
      let a = seated s k e in at-seat (seats order p) t k (seat-within (seats order p) s k e).0 (sub (row_at k) a.0 a.1)) kind h

  pub level-grows : (kind : Kind) (s t : ℕ → Bool) → ((i : ℕ) → s i ≡ true → t i ≡ true) → level kind mark order p s ≡ true → level kind mark order p t ≡ true
  level-grows kind s t sub = level-members kind s t (λ i y. sub i)

  -- a level looks at its members only
  pub level-ext : (kind : Kind) (s t : ℕ → Bool) → ((i : ℕ) → p i ≡ true → s i ≡ t i) → level kind mark order p s ≡ level kind mark order p t
  level-ext kind s t same = same_test _ _ (level-members kind s t (λ i y h. sym (same i y) ∙ h)) (level-members kind t s (λ i y h. same i y ∙ h))

  -- and has one, where a quorum is held
  pub level-some : (kind : Kind) (s : ℕ → Bool) → level kind mark order p s ≡ true → 1 ≤ count 64 p
  unfolding level
  level-some kind s h = let r = Q.inhabited (grid_by mark (count 64 p)) (count 64 p) kind (at_seat (seats order p) s) h in omega (arith, r.1)

pub level-quorums : LevelQuorums
unfolding LevelQuorums
level-quorums mark order p = record {
  shared = λ kind s t h g. level-shared mark order p s t (level-reads mark order p kind s h) g;
  inhabited = level-inhabited mark order p;
  reads = level-reads mark order p;
  grows = level-grows mark order p;
}

-- ---- a choice
-- the position at which one that is chosen stands
chosen-seat : (kind : Kind) (mark : ℕ) (order : List ℕ) (p : ℕ → Bool) (a i : ℕ) → level_choice kind mark order p a i ≡ true
    → (k : ℕ) × Within (count 64 p) k × (at_seat (seats order p) (eqb i) k ≡ true)
unfolding level_choice
chosen-seat kind mark order p a i h = let w = some_at (count 64 p) _ h in (w.0, w.1, and_r (choice kind (grid_by mark (count 64 p)) (count 64 p) a w.0) _ w.2)

-- who is chosen passes
pub chosen-in : (kind : Kind) (mark : ℕ) (order : List ℕ) (p : ℕ → Bool) (a i : ℕ) → level_choice kind mark order p a i ≡ true → p i ≡ true
chosen-in kind mark order p a i h = let w = chosen-seat kind mark order p a i h in let y = seated mark order p (eqb i) w.0 w.2 in rw (eqb-true i _ y.1) y.0

pub chosen-some : (kind : Kind) (mark : ℕ) (order : List ℕ) (p : ℕ → Bool) (a i : ℕ) → level_choice kind mark order p a i ≡ true → 1 ≤ count 64 p
chosen-some kind mark order p a i h = omega (arith, (chosen-seat kind mark order p a i h).1)

-- where there is a seat for each position of the grid, who stands at a chosen one is chosen
pub chosen_at : (kind : Kind) (mark : ℕ) (order : List ℕ) (p : ℕ → Bool) (a : ℕ) → length (seats order p) ≡ count 64 p → (k : ℕ) → Within (count 64 p) k
    → choice kind (grid_by mark (count 64 p)) (count 64 p) a k ≡ true → level_choice kind mark order p a (get_or (seats order p) (k - 1) 0) ≡ true
unfolding level_choice
chosen_at kind mark order p a many k w h =
    let row = get_or (seats order p) (k - 1) 0 in some_of (count 64 p) _ k w (and_i _ _ h (at-seat (seats order p) (eqb row) k (rw many w) (eq-eqb row row refl)))

-- a choice holds a quorum of its kind
pub choice-holds : (kind : Kind) (mark : ℕ) (order : List ℕ) (p : ℕ → Bool) (a : ℕ) → length (seats order p) ≡ count 64 p → 1 ≤ count 64 p
    → level kind mark order p (level_choice kind mark order p a) ≡ true
unfolding level
choice-holds kind mark order p a many one =
    Q.grows (grid_by mark N) N (choice kind (grid_by mark N) N a) (at_seat (seats order p) (level_choice kind mark order p a))
    (λ k w h. at-seat (seats order p) _ k (rw many w) (chosen_at kind mark order p a many k w h)) kind (Q.choice-holds (grid_by mark N) N (laid-fits mark N one) kind a)
  where
    N : ℕ
    N = count 64 p
