-- A list within one county has its former quorums and choices, for every mark, and its former marks.
use mathlib.Core.Path.{◌≡◌, refl, sym, ◌∙◌, ap, fun_ext}
use mathlib.Core.Bool.{Bool, true, false, cond, ◌&&◌, ◌||◌, and-true}
use Prim.Native.Nat.{ℕ, zero, suc, ◌+◌, ◌≤◌}
use native.Mathlib.Omega.{arith}
use lib.Dec.{eqb}
use lib.ListN.{length}
use borrow.Author.Tests.{eqb-true, eq-eqb, le-ltb}
use Rattle.bools.proofs.BoolLaws.{and_l, and_i, same_test}
use Rattle.sets.specs.Upto.{Within, every, some, count}
use Rattle.sets.specs.Sets.{has}
use Rattle.sets.proofs.UptoLaws.{some_of}
use Rattle.sets.proofs.CountLaws.{count-one, count-some, count-gain, count-to}
use Rattle.sets.proofs.KeepLaws.{kept}
use Rattle.grid.specs.Sizes.{root, root_up, published, new_five, exchanged, grid_by, column_of}
use Rattle.quorums.specs.declared.Kind.{Kind}
use Rattle.quorums.specs.declared.Kind.TheVariants.{Read, Write}
use Rattle.quorums.specs.Quorums.{touches, covers, read_quorum, write_quorum, quorum}
use Rattle.counties.specs.Levels.{seats, at_seat, level, level_choice}
use Rattle.counties.specs.Counties.{Frame, counties, in_county, has_members, several, levels, levels_choice}
use Rattle.counties.specs.Marks.{mark_now, laid_now, mark_right}
use Rattle.counties.specs.Claims.{ChosenPass, InOne, OneCounty, OneCountyMarks}
use Rattle.counties.proofs.LevelLaws.{level-some, chosen-in, chosen-some, choice-holds}
use Rattle.counties.proofs.TwoLevelLaws.{in-county, has-members, members-of, upper-seats, chosen-within, chosen-pass}

-- ---- a level of one: county j alone
abbrev only : ℕ → ℕ → Bool
only j i = eqb i j

only-count : (j : ℕ) → Within 8 j → count 64 (only j) ≡ 1
unfolding count
only-count j w = count-gain 64 (λ i. false) j true (omega arith) refl ∙ ap (λ (n : ℕ). n + 1) (count-to 0 (λ i. false) (λ i l. refl) 64 (omega arith))

-- the grid of one, whatever the mark
grid-of-one : (mark : ℕ) → grid_by mark 1 ≡ record { rows = 1; cols = 1 }
unfolding grid_by exchanged published root_up root
grid-of-one mark = go (eqb mark 2) (eqb mark 1 || eqb mark 3)
  where
    go : (a b : Bool) → cond a (exchanged (published 1)) (cond (b && eqb 1 5) new_five (published 1)) ≡ record { rows = 1; cols = 1 }
    go true b = refl
    go false true = refl
    go false false = refl

-- a quorum of one is that one
quorum-of-one : (kind : Kind) (held : ℕ → Bool) → quorum kind (record { rows = 1; cols = 1 }) 1 held ≡ held 1
unfolding quorum write_quorum read_quorum touches covers every some column_of
quorum-of-one Read held = and-true (held 1)
quorum-of-one Write held = go (held 1)
  where
    go : (b : Bool) → ((b && true) && (b || false)) ≡ b
    go true = refl
    go false = refl

module _ (j : ℕ) (w : Within 8 j) where
  only-seats : length (seats counties (only j)) ≡ count 64 (only j)
  only-seats = upper-seats (only j) (λ i y. rw (eqb-true i j y) w)

  -- it stands at the only seat
  only-seat : (s : ℕ → Bool) → at_seat (seats counties (only j)) s 1 ≡ s j
  unfolding at_seat seats
  only-seat s =
      let one : length (seats counties (only j)) ≡ 1 = only-seats ∙ only-count j w in
      rw (one, eqb-true _ j (kept (only j) counties 0 (omega (arith, one))))

  level-of-one : (kind : Kind) (mark : ℕ) (s : ℕ → Bool) → level kind mark counties (only j) s ≡ s j
  unfolding level
  level-of-one kind mark s = rw (only-count j w, grid-of-one mark) (quorum-of-one kind (at_seat (seats counties (only j)) s) ∙ only-seat s)

  choice-of-one : (kind : Kind) (mark a : ℕ) → level_choice kind mark counties (only j) a j ≡ true
  choice-of-one kind mark a =
      sym (level-of-one kind mark (level_choice kind mark counties (only j) a)) ∙ choice-holds kind mark counties (only j) a only-seats (omega (arith, only-count j w))

-- ---- all that pass are in one county
module _ (county : ℕ → ℕ) (p : ℕ → Bool) (O : InOne county p) where
  all_in : in_county county p O.which ≡ p
  unfolding in_county
  all_in = fun_ext (λ i. same_test _ _ (λ h. and_l _ _ h) (λ y. and_i _ _ y (eq-eqb (county i) O.which (O.there i y))))

  -- where there is one, its county is the only one that has members
  one_has : 1 ≤ count 64 p → has_members county p ≡ only O.which
  one_has one = fun_ext (λ k. same_test _ _ (to k) (from k))
    where
      to : (k : ℕ) → has_members county p k ≡ true → eqb k O.which ≡ true
      to k h =
          let i = (has-members county p k h).1 in
          let c = in-county county p k i.0 i.2 in
          eq-eqb k O.which (sym c.1 ∙ O.there i.0 c.0)

      from : (k : ℕ) → eqb k O.which ≡ true → has_members county p k ≡ true
      from k e =
          let i = count-some 64 p one in
          let q : in_county county p k ≡ p = ap (in_county county p) (eqb-true k O.which e) ∙ all_in in
          let v : Within 8 k = rw (eqb-true k O.which e) O.placed in
          members-of county p k v (rw q (some_of 64 p i.0 i.1 i.2))

  -- where a county has members, there is one
  counted : 1 ≤ count 64 (has_members county p) → 1 ≤ count 64 p
  counted h =
      let k = count-some 64 (has_members county p) h in
      let i = (has-members county p k.0 k.2).1 in
      count-one 64 p i.0 i.1 (in-county county p k.0 i.0 i.2).0

  pub not-several : several county p ≡ false
  unfolding several
  not-several = le-ltb 1 (count 64 (has_members county p)) (go (count 64 (has_members county p)) refl)
    where
      go : (n : ℕ) → count 64 (has_members county p) ≡ n → n ≤ 1
      go zero e = omega arith
      go (suc n) e = omega (arith, e, ap (count 64) (one_has (counted (omega (arith, e)))), only-count O.which O.placed)

module _ (f : Frame) (p : ℕ → Bool) (O : InOne f.county p) (kind : Kind) (mark : ℕ) where
  former-quorum : (s : ℕ → Bool) → levels kind mark f p s ≡ level kind mark f.order p s
  unfolding levels
  former-quorum s = same_test _ _
      (λ h. sym (above (counted f.county p O (level-some mark counties (has_members f.county p) kind _ h))) ∙ h)
      (λ h. above (level-some mark f.order p kind s h) ∙ h)
    where
      held : ℕ → Bool
      held j = level kind mark f.order (in_county f.county p j) s

      above : 1 ≤ count 64 p → level kind mark counties (has_members f.county p) held ≡ level kind mark f.order p s
      above one =
          ap (λ (q : ℕ → Bool). level kind mark counties q held) (one_has f.county p O one)
          ∙ level-of-one O.which O.placed kind mark held
          ∙ ap (λ (q : ℕ → Bool). level kind mark f.order q s) (all_in f.county p O)

  former-choice : (a i : ℕ) → levels_choice kind mark f p a i ≡ level_choice kind mark f.order p a i
  unfolding levels_choice ChosenPass
  former-choice a i = same_test _ _ to from
    where
      within : p i ≡ true → level_choice kind mark f.order (in_county f.county p (f.county i)) a i ≡ level_choice kind mark f.order p a i
      within y = ap (λ (q : ℕ → Bool). level_choice kind mark f.order q a i) (ap (in_county f.county p) (O.there i y) ∙ all_in f.county p O)

      to : levels_choice kind mark f p a i ≡ true → level_choice kind mark f.order p a i ≡ true
      to h = sym (within (chosen-pass kind mark f p a i h)) ∙ chosen-within kind mark f p a i h

      from : level_choice kind mark f.order p a i ≡ true → levels_choice kind mark f p a i ≡ true
      from g =
          let y = chosen-in kind mark f.order p a i g in
          and_i _ _
          (within y ∙ g)
          (ap (level_choice kind mark counties (has_members f.county p) a) (O.there i y)
          ∙ ap (λ (q : ℕ → Bool). level_choice kind mark counties q a O.which) (one_has f.county p O (chosen-some kind mark f.order p a i g))
          ∙ choice-of-one O.which O.placed kind mark a)

pub one-county : OneCounty
unfolding OneCounty
one-county f p O kind mark = record { quorum = former-quorum f p O kind mark; choice = former-choice f p O kind mark }

pub one-county-marks : OneCountyMarks
unfolding OneCountyMarks mark_right laid_now mark_now
one-county-marks county l O = record { right = rw (not-several county (has l.members) O); laid = λ tall. rw (not-several county (has l.members) O) }
