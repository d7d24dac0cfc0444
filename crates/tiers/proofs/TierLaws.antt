-- A list on two levels, as the code finds its quorum and its choice.
use mathlib.Core.Path.{◌≡◌, refl, sym, ap, ◌∙◌, fun_ext}
use mathlib.Core.Bool.{Bool, true, false, cond, ◌&&◌, or-false}
use mathlib.Core.List.{List}
use Prim.Native.Nat.{ℕ, zero, suc, ◌+◌, ◌-◌, ◌≤◌, ◌<◌}
use native.Mathlib.Nat.{add-zero, zero-add, suc-add}
use native.Mathlib.Omega.{arith}
use lib.Dec.{eqb, leb}
use lib.ListN.{length, get_or, take}
use lib.Seq.{get_or-take}
use borrow.Author.Tests.{le-leb, eq-eqb, eqb-true}
use Rattle.bools.proofs.BoolLaws.{and_l, and_r, and_i, same_test, clash}
use Rattle.sets.specs.Upto.{Within, some, count, upward, keep}
use Rattle.sets.specs.Sets.{has, no_row, first_rows, cut_to, joining}
use Rattle.sets.proofs.SetLaws.{first-in, first_out, first-within}
use Rattle.sets.proofs.KeepLaws.{keep-more, keep_all}
use Rattle.sets.proofs.UptoLaws.{some_at, some_of, count-le}
use Rattle.sets.proofs.GatherLaws.{one-joined}
use Rattle.sets.proofs.CountLaws.{some-count}
use Rattle.sets.proofs.RisingLaws.{among-at, upward-length, upward-more}
use Rattle.grid.specs.declared.Grid.{Grid}
use Rattle.quorums.specs.declared.Kind.{Kind}
use Rattle.quorums.specs.Quorums.{choice}
use Rattle.quorums.proofs.QuorumLaws.{choice-within as choice-positions}
use Rattle.fields.specs.declared.Laid.{Laid}
use Rattle.table.specs.Asked.{Listed}
use Rattle.counties.specs.Levels.{seats, at_seat, level, level_choice}
use Rattle.counties.specs.Counties.{Frame, counties, in_county, has_members, levels, levels_choice, list_quorum, list_choice}
use Rattle.counties.specs.Claims.{InOne, OneCounty}
use Rattle.counties.proofs.LevelLaws.{seat-within, level-ext, level-some, chosen-in}
use Rattle.counties.proofs.TwoLevelLaws.{in-county, has-members, county-within}
use Rattle.counties.proofs.OneCountyLaws.{one-county}

-- an array that starts with the counties
pub rising-listed : (rows : List ℕ) → length rows ≡ 64 → take 8 rows ≡ counties → Listed 8 rows 8
unfolding counties
rising-listed rows long e = record {
  places = long;
  few = omega arith;
  each = λ k l. rw (← get_or-take 8 rows k 0 l, e) (county-within _ (among-at counties k (omega (arith, upward-length 8 1))));
}

-- nobody holds a quorum of none
pub none-held : (kind : Kind) (mark : ℕ) (order : List ℕ) (p s : ℕ → Bool) → some 64 p ≡ false → level kind mark order p s ≡ false
none-held kind mark order p s none = same_test _ _
    (λ h. absurd (clash (sym none ∙ some-count 64 p ∙ le-leb 1 (count 64 p) (level-some mark order p kind s h)))) (λ z. absurd (clash z))

-- a county that is not chosen adds nobody
pub none-added : (q : ℕ → ℕ → Bool) (f : ℕ → Bool) (n : ℕ) → f ≡ (λ (i : ℕ). some n (q i)) → ((i : ℕ) → q i (n + 1) ≡ false) → f ≡ (λ (i : ℕ). some (n + 1) (q i))
unfolding joining no_row
none-added q f n ef out = fun_ext (λ i. sym (or-false (f i))) ∙ one-joined q f no_row n ef (fun_ext (λ i. sym (out i)))

-- ---- where the first N counties have members, each is at its own position
upward-at : (n a k : ℕ) → k < n → get_or (upward n a) k 0 ≡ a + k
unfolding upward
upward-at zero a k h = absurd (omega arith)
upward-at (suc n) a zero h = sym (add-zero a)
upward-at (suc n) a (suc k) h = let e : suc a + k ≡ a + suc k = omega arith in upward-at n (suc a) k (omega arith) ∙ e

pub are-first : {up first n : ℕ} → up ≡ first → has first ≡ first_rows n → n ≡ count 64 (has up) → ((j : ℕ) → has up j ≡ true → Within 8 j) → (has up ≡ first_rows n) × (n ≤ 8)
are-first {up} {first} {n} same e en few = let all = ap has same ∙ e in (all, go n all (omega (arith, count-le 64 (has up))))
  where
    go : (n : ℕ) → has up ≡ first_rows n → n ≤ 64 → n ≤ 8
    go zero q l = omega arith
    go (suc m) q l = (few (suc m) (ap (λ (f : ℕ → Bool). f (suc m)) q ∙ first-in (suc m) (suc m) l (omega arith))).1

-- a choice has positions only
pub chosen-inside : (kind : Kind) (g : Grid) (N a : ℕ) (b : Bool) (q : ℕ → Bool) → q ≡ cond b (choice kind g N a) no_row → (k : ℕ) → q k ≡ true → Within N k
unfolding no_row
chosen-inside kind g N a true q e k h = choice-positions kind g N a k (ap (λ (f : ℕ → Bool). f k) (sym e) ∙ h)
chosen-inside kind g N a false q e k h = absurd (clash (ap (λ (f : ℕ → Bool). f k) (sym e) ∙ h))

module _ (p : ℕ → Bool) (N : ℕ) (ep : p ≡ first_rows N) (small : N ≤ 8) where
  first-pass : (j : ℕ) → Within N j → p j ≡ true
  first-pass j w = ap (λ (f : ℕ → Bool). f j) ep ∙ first-in N j (omega arith) w

  first-seats : seats counties p ≡ upward N 1
  unfolding seats counties
  first-seats = let e : 8 ≡ (8 - N) + N = omega arith in ap (λ (n : ℕ). keep p (upward n 1)) e ∙ go (8 - N)
    where
      go : (d : ℕ) → keep p (upward (d + N) 1) ≡ upward N 1
      go zero = rw (zero-add N) (keep_all p (upward N 1) (λ k h. let l = rw (upward-length N 1) at h in rw (upward-at N 1 k l) (first-pass (1 + k) (omega arith))))
      go (suc d) =
          let out : p (1 + (d + N)) ≡ false = ap (λ (f : ℕ → Bool). f (1 + (d + N))) ep ∙ first_out N (1 + (d + N)) (omega arith) in
          rw (suc-add d N, upward-more (d + N) 1, keep-more p (upward (d + N) 1) (1 + (d + N)), out) (go d)

  own-seat : (q : ℕ → Bool) (k : ℕ) → Within N k → at_seat (seats counties p) q k ≡ q k
  unfolding at_seat
  own-seat q k w =
      let e : 1 + (k - 1) ≡ k = omega arith in
      rw (first-seats, upward-length N 1, le-leb 1 k w.0, le-leb k N w.1, upward-at N 1 (k - 1) (omega arith), e)

  pub own_held : (s : ℕ → Bool) → cut_to s p ≡ at_seat (seats counties p) s
  unfolding cut_to
  own_held s = fun_ext (λ k. same_test _ _
      (λ h. let w = first-within N k (ap (λ (f : ℕ → Bool). f k) (sym ep) ∙ and_r (s k) _ h) in own-seat s k w ∙ and_l _ _ h)
      (λ h. let w = seat-in k h in and_i (s k) _ (sym (own-seat s k w) ∙ h) (first-pass k w)))
    where
      seat-in : (k : ℕ) → at_seat (seats counties p) s k ≡ true → Within N k
      seat-in k h = let w = (seat-within (seats counties p) s k h).0 in let l : length (seats counties p) ≡ N = ap length first-seats ∙ upward-length N 1 in omega arith

  pub own-chosen : (q : ℕ → Bool) → ((k : ℕ) → q k ≡ true → Within N k) → q ≡ (λ (i : ℕ). some 64 (λ k. q k && at_seat (seats counties p) (eqb i) k))
  own-chosen q inside = fun_ext (λ i. same_test _ _ (to i) (from i))
    where
      to : (i : ℕ) → q i ≡ true → some 64 (λ k. q k && at_seat (seats counties p) (eqb i) k) ≡ true
      to i h = let w = inside i h in some_of 64 _ i (omega arith) (and_i (q i) _ h (own-seat (eqb i) i w ∙ eq-eqb i i refl))

      from : (i : ℕ) → some 64 (λ k. q k && at_seat (seats counties p) (eqb i) k) ≡ true → q i ≡ true
      from i h =
          let r = some_at 64 _ h in
          let k = r.0 in
          let qk : q k ≡ true = and_l _ _ r.2 in
          ap q (eqb-true i k (sym (own-seat (eqb i) k (inside k qk)) ∙ and_r (q k) _ r.2)) ∙ qk

module _ (kind : Kind) (f : Frame) (l : Laid) where
  -- ---- all members in one county
  module _ (O : InOne f.county (has l.members)) where
    pub quorum-in-one : (s : ℕ → Bool) → level kind l.mark f.order (has l.members) s ≡ list_quorum kind f l s
    unfolding list_quorum OneCounty
    quorum-in-one s = sym ((one-county f (has l.members) O kind l.mark).quorum s)

    pub choice-in-one : (a : ℕ) → level_choice kind l.mark f.order (has l.members) a ≡ list_choice kind f l a
    unfolding list_choice OneCounty
    choice-in-one a = fun_ext (λ i. sym ((one-county f (has l.members) O kind l.mark).choice a i))

  -- ---- in several
  abbrev part : ℕ → ℕ → Bool
  part = in_county f.county (has l.members)

  abbrev up : ℕ → Bool
  up = has_members f.county (has l.members)

  pub quorum-above : (s : ℕ → Bool) → level kind l.mark counties up (λ j. leb 1 j && leb j 8 && level kind l.mark f.order (part j) s) ≡ list_quorum kind f l s
  unfolding list_quorum levels
  quorum-above s = level-ext l.mark counties up kind _ _ (λ j h.
      let w = (has-members f.county (has l.members) j h).0 in rw (le-leb 1 j w.0, le-leb j 8 w.1))

  -- who is chosen within a county that is chosen
  pub choice-within : (a : ℕ) → (λ (i : ℕ). some 8 (λ j. level_choice kind l.mark counties up a j && level_choice kind l.mark f.order (part j) a i)) ≡ list_choice kind f l a
  unfolding list_choice levels_choice
  choice-within a = fun_ext (λ i. same_test _ _ (to i) (from i))
    where
      chosen : ℕ → ℕ → Bool
      chosen i j = level_choice kind l.mark counties up a j && level_choice kind l.mark f.order (part j) a i

      to : (i : ℕ) → some 8 (chosen i) ≡ true → levels_choice kind l.mark f (has l.members) a i ≡ true
      to i h =
          let r = some_at 8 (chosen i) h in
          let j = r.0 in
          let g = and_r (level_choice kind l.mark counties up a j) _ r.2 in
          rw (in-county f.county (has l.members) j i (chosen-in kind l.mark f.order (part j) a i g)).1 (and_i _ _ g (and_l _ _ r.2))

      from : (i : ℕ) → levels_choice kind l.mark f (has l.members) a i ≡ true → some 8 (chosen i) ≡ true
      from i h =
          let up-there = and_r (level_choice kind l.mark f.order (part (f.county i)) a i) _ h in
          some_of 8 (chosen i) (f.county i) (has-members f.county (has l.members) (f.county i) (chosen-in kind l.mark counties up a (f.county i) up-there)).0 (and_i _ _ up-there (and_l _ _ h))
