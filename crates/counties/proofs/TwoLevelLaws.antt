-- Two levels: a list's quorums from those of a level used twice, and a choice on both that holds its quorum.
use mathlib.Core.Path.{◌≡◌, refl, sym, ◌∙◌}
use mathlib.Core.Bool.{Bool, true, false, ◌&&◌}
use Prim.Native.Nat.{ℕ, ◌≤◌, ◌<◌}
use native.Mathlib.Omega.{arith}
use lib.Dec.{leb}
use lib.ListN.{length}
use borrow.Author.Tests.{eqb-true, eq-eqb, leb-true, ltb-true, le-leb, lt-ltb}
use Rattle.bools.proofs.BoolLaws.{and_l, and_r, and_i, same_test, clash}
use Rattle.sets.specs.Upto.{Within, some, count, upward, among}
use Rattle.sets.specs.Sets.{has}
use Rattle.sets.proofs.UptoLaws.{some_at, some_of, count-ext}
use Rattle.sets.proofs.CountLaws.{count-to, count-one, count-some}
use Rattle.sets.proofs.RisingLaws.{keep-count, upward-among, upward-rises}
use Rattle.quorums.specs.declared.Kind.{Kind}
use Rattle.quorums.specs.declared.Kind.TheVariants.{Read, Write}
use Rattle.counties.specs.Levels.{seats, level, level_choice}
use Rattle.counties.specs.Counties.{Frame, counties, in_county, has_members, levels, levels_choice, list_quorum}
use Rattle.counties.specs.Claims.{LevelQuorums, QuorumsOver, ListQuorums, ByOneFact, PartsSeated, Placed, ChoiceHolds, ChosenPass}
use Rattle.counties.proofs.LevelLaws.{level-quorums, level-grows, chosen-in, choice-holds}

-- ---- quorums over quorums
pub quorums-over : QuorumsOver
unfolding QuorumsOver
quorums-over up above p part below U L inside = record {
  shared = λ kind s t h g.
      let j = U.shared kind (λ j. below j kind s) (λ j. below j Write t) h g in
      let i = (L j.0).shared kind s t j.2 j.3 in
      (i.0, inside j.0 i.0 i.1, i.2, i.3);
  inhabited = λ kind s h.
      let j = U.inhabited kind (λ j. below j kind s) h in
      let i = (L j.0).inhabited kind s j.2 in
      (i.0, inside j.0 i.0 i.1, i.2);
  reads = λ kind s h. U.grows Read (λ j. below j kind s) (λ j. below j Read s) (λ j. (L j).reads kind s) (U.reads kind (λ j. below j kind s) h);
  grows = λ kind s t sub h. U.grows kind (λ j. below j kind s) (λ j. below j kind t) (λ j. (L j).grows kind s t sub) h;
}

-- ---- the counties that have members
module _ (county : ℕ → ℕ) (p : ℕ → Bool) (j : ℕ) where
  pub in-county : (i : ℕ) → in_county county p j i ≡ true → (p i ≡ true) × (county i ≡ j)
  unfolding in_county
  in-county i h = (and_l _ _ h, eqb-true (county i) j (and_r (p i) _ h))

  pub has-members : has_members county p j ≡ true → Within 8 j × ((i : ℕ) × Within 64 i × (in_county county p j i ≡ true))
  unfolding has_members
  has-members h =
      let w = and_l (leb 1 j && leb j 8) _ h in
      (omega (arith, leb-true 1 j (and_l _ _ w), leb-true j 8 (and_r (leb 1 j) _ w)), some_at 64 (in_county county p j) (and_r (leb 1 j && leb j 8) _ h))

  pub members-of : Within 8 j → some 64 (in_county county p j) ≡ true → has_members county p j ≡ true
  unfolding has_members
  members-of w h = rw (le-leb 1 j w.0, le-leb j 8 w.1) h

-- where one passes, of a county of 1 to 8, that county has members
pub some-member : (county : ℕ → ℕ) (p : ℕ → Bool) (i : ℕ) → Within 64 i → p i ≡ true → Within 8 (county i) → has_members county p (county i) ≡ true
unfolding in_county
some-member county p i w y placed = members-of county p (county i) placed (some_of 64 (in_county county p (county i)) i w (and_i _ _ y (eq-eqb (county i) _ refl)))

-- the law of a level, for the counties and for the rows of each
pub by-one-fact : ByOneFact
unfolding ByOneFact LevelQuorums ListQuorums QuorumsOver list_quorum levels
by-one-fact law f l =
    let p = has l.members in
    quorums-over (has_members f.county p) (λ kind s. level kind l.mark counties (has_members f.county p) s) p
    (in_county f.county p) (λ j kind s. level kind l.mark f.order (in_county f.county p j) s)
    (law l.mark counties (has_members f.county p)) (λ j. law l.mark f.order (in_county f.county p j))
    (λ j i h. (in-county f.county p j i h).0)

pub list-quorums : ListQuorums
unfolding ByOneFact
list-quorums = by-one-fact level-quorums

-- ---- the level above
pub county-within : (j : ℕ) → among counties j ≡ true → Within 8 j
unfolding counties
county-within j m = let w = sym (upward-among 8 1 j) ∙ m in omega (arith, leb-true 1 j (and_l _ _ w), ltb-true j 9 (and_r (leb 1 j) _ w))

-- those of 1 to 8 that pass have a seat each
pub upper-seats : (p : ℕ → Bool) → ((j : ℕ) → p j ≡ true → Within 8 j) → length (seats counties p) ≡ count 64 p
unfolding seats counties
upper-seats p few =
    keep-count (λ x. x) 8 p 0 (upward 8 1) (upward-rises 8 1 0 (omega arith)) county-within
    ∙ count-ext 8 _ p (λ j w. rw (upward-among 8 1 j, le-leb 1 j w.0, lt-ltb j 9 (omega arith)))
    ∙ sym (count-to 8 p above 64 (omega arith))
  where
    above : (j : ℕ) → 8 < j → p j ≡ false
    above j l = same_test (p j) false (λ y. absurd (omega (arith, few j y))) (λ z. absurd (clash z))

-- ---- a choice
-- who is chosen is chosen within its county
pub chosen-within : (kind : Kind) (mark : ℕ) (f : Frame) (p : ℕ → Bool) (a i : ℕ) → levels_choice kind mark f p a i ≡ true
    → level_choice kind mark f.order (in_county f.county p (f.county i)) a i ≡ true
unfolding levels_choice
chosen-within kind mark f p a i h = and_l _ _ h

pub chosen-pass : ChosenPass
unfolding ChosenPass
chosen-pass kind mark f p a i h =
    (in-county f.county p (f.county i) i (chosen-in kind mark f.order (in_county f.county p (f.county i)) a i (chosen-within kind mark f p a i h))).0

module _ (f : Frame) (p : ℕ → Bool) (seated : PartsSeated f.order p) (kind : Kind) (mark a : ℕ) where
  abbrev part : ℕ → ℕ → Bool
  part = in_county f.county p

  abbrev up : ℕ → Bool
  up = has_members f.county p

  -- in a county that is chosen, the choice within it is part of the whole
  part-chosen : (j : ℕ) → level_choice kind mark counties up a j ≡ true → (i : ℕ) → level_choice kind mark f.order (part j) a i ≡ true → levels_choice kind mark f p a i ≡ true
  unfolding levels_choice
  part-chosen j h i g = rw ((in-county f.county p j i (chosen-in kind mark f.order (part j) a i g)).1, h, g)

  -- and so the whole holds a quorum there
  below_holds : (j : ℕ) → level_choice kind mark counties up a j ≡ true → level kind mark f.order (part j) (levels_choice kind mark f p a) ≡ true
  unfolding PartsSeated
  below_holds j h =
      let i = (has-members f.county p j (chosen-in kind mark counties up a j h)).1 in
      level-grows mark f.order (part j) kind (level_choice kind mark f.order (part j) a) (levels_choice kind mark f p a) (part-chosen j h)
      (choice-holds kind mark f.order (part j) a (seated (part j) (λ x y. (in-county f.county p j x y).0)) (count-one 64 (part j) i.0 i.1 i.2))

  both_hold : 1 ≤ count 64 up → levels kind mark f p (levels_choice kind mark f p a) ≡ true
  unfolding levels
  both_hold one = level-grows mark counties up kind (level_choice kind mark counties up a) _ below_holds
      (choice-holds kind mark counties up a (upper-seats up (λ j h. (has-members f.county p j h).0)) one)

pub two-level-choice-holds : ChoiceHolds
unfolding ChoiceHolds Placed levels ChosenPass
two-level-choice-holds f p seated placed one kind mark a =
    let i = count-some 64 p one in
    let w = placed i.0 i.2 in
    let h = both_hold f p seated kind mark a (count-one 64 (has_members f.county p) (f.county i.0) (omega (arith, w)) (some-member f.county p i.0 i.1 i.2 w)) in
    (h, level-grows mark counties (has_members f.county p) kind _ _ (λ j. level-grows mark f.order (in_county f.county p j) kind _ _ (chosen-pass kind mark f p a)) h)
