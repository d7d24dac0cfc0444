-- Two frames that say the same of the members of a list give it the same quorums, choices and mark.
use mathlib.Core.Path.{◌≡◌, refl, sym, ◌∙◌, ap, ap₂, fun_ext}
use mathlib.Core.Bool.{Bool, true, false, ◌&&◌}
use mathlib.Core.List.{List}
use Prim.Native.Nat.{ℕ}
use lib.Dec.{eqb}
use Rattle.bools.proofs.BoolLaws.{and_r, and_i, same_test}
use Rattle.sets.specs.Upto.{some, count}
use Rattle.sets.specs.Sets.{has}
use Rattle.grid.specs.Sizes.{grid_by}
use Rattle.quorums.specs.declared.Kind.{Kind}
use Rattle.quorums.specs.Quorums.{quorum, choice}
use Rattle.fields.specs.declared.Laid.{Laid}
use Rattle.counties.specs.Levels.{seats, at_seat, level, level_choice}
use Rattle.counties.specs.Counties.{Frame, counties, in_county, has_members, several, levels, levels_choice, list_quorum, list_choice}
use Rattle.counties.specs.Marks.{mark_now, laid_now, mark_right}
use Rattle.counties.specs.Claims.{ChosenPass, Alike, AlikeSame}
use Rattle.counties.proofs.TwoLevelLaws.{in-county, chosen-within, chosen-pass}

-- ---- counties that are the same for the members
module _ (c d : ℕ → ℕ) (p : ℕ → Bool) (same : (i : ℕ) → p i ≡ true → c i ≡ d i) where
  in-same : (j : ℕ) → in_county c p j ≡ in_county d p j
  unfolding in_county
  in-same j = fun_ext (λ i. go i (p i) refl)
    where
      go : (i : ℕ) (b : Bool) → p i ≡ b → (b && eqb (c i) j) ≡ (b && eqb (d i) j)
      go i true e = rw (same i e)
      go i false e = refl

  members-same : has_members c p ≡ has_members d p
  unfolding has_members
  members-same = fun_ext (λ j. rw (in-same j))

  several-same : several c p ≡ several d p
  unfolding several
  several-same = rw members-same

-- make a mark right or wrong alike
pub mark-same : (c d : ℕ → ℕ) (l : Laid) → ((i : ℕ) → has l.members i ≡ true → c i ≡ d i) → mark_right c l ≡ mark_right d l
unfolding mark_right
mark-same c d l same = rw (several-same c d (has l.members) same)

module _ (f g : Frame) (p : ℕ → Bool) (A : Alike f g p) where
  counties-same : has_members f.county p ≡ has_members g.county p
  counties-same = members-same f.county g.county p A.counties

  part_same : (j : ℕ) → in_county f.county p j ≡ in_county g.county p j
  part_same = in-same f.county g.county p A.counties

  -- one county's level
  seats-same : (j : ℕ) → seats f.order (in_county f.county p j) ≡ seats g.order (in_county g.county p j)
  seats-same j = ap (seats f.order) (part_same j) ∙ A.orders (in_county g.county p j) (λ i h. (in-county g.county p j i h).0)

  level-same : (kind : Kind) (mark j : ℕ) (s : ℕ → Bool) → level kind mark f.order (in_county f.county p j) s ≡ level kind mark g.order (in_county g.county p j) s
  unfolding level
  level-same kind mark j s = ap₂ (λ (q : ℕ → Bool) (rows : List ℕ). quorum kind (grid_by mark (count 64 q)) (count 64 q) (at_seat rows s)) (part_same j) (seats-same j)

  choice-same : (kind : Kind) (mark j a i : ℕ) → level_choice kind mark f.order (in_county f.county p j) a i ≡ level_choice kind mark g.order (in_county g.county p j) a i
  unfolding level_choice
  choice-same kind mark j a i =
      ap₂ (λ (q : ℕ → Bool) (rows : List ℕ). some (count 64 q) (λ k. choice kind (grid_by mark (count 64 q)) (count 64 q) a k && at_seat rows (eqb i) k)) (part_same j) (seats-same j)

  levels-same : (kind : Kind) (mark : ℕ) (s : ℕ → Bool) → levels kind mark f p s ≡ levels kind mark g p s
  unfolding levels
  levels-same kind mark s = ap₂ (level kind mark counties) counties-same (fun_ext (λ j. level-same kind mark j s))

  -- who is chosen by one passes, and so has its county in both
  chosen-same : (kind : Kind) (mark a i : ℕ) → levels_choice kind mark f p a i ≡ true → levels_choice kind mark g p a i ≡ true
  unfolding levels_choice ChosenPass
  chosen-same kind mark a i h =
      let c = A.counties i (chosen-pass kind mark f p a i h) in
      and_i _ _
      (ap (λ (k : ℕ). level_choice kind mark g.order (in_county g.county p k) a i) (sym c) ∙ sym (choice-same kind mark (f.county i) a i) ∙ chosen-within kind mark f p a i h)
      (sym (ap₂ (λ (q : ℕ → Bool). level_choice kind mark counties q a) counties-same c) ∙ and_r (level_choice kind mark f.order (in_county f.county p (f.county i)) a i) _ h)

turned : (f g : Frame) (p : ℕ → Bool) → Alike f g p → Alike g f p
turned f g p A = record { orders = λ q sub. sym (A.orders q sub); counties = λ i y. sym (A.counties i y) }

pub alike_same : AlikeSame
unfolding AlikeSame list_quorum list_choice laid_now
alike_same f g l A =
    let p = has l.members in
    record {
      quorum = λ kind s. levels-same f g p A kind l.mark s;
      choice = λ kind a i. same_test _ _ (chosen-same f g p A kind l.mark a i) (chosen-same g f p (turned f g p A) kind l.mark a i);
      laid = λ tall. ap (λ (b : Bool). record { members = l.members; mark = mark_now tall b (count 64 p) }) (several-same f.county g.county p A.counties);
    }
