-- The laws by which everything above knows the quorums of a list. Nothing after this opens them.
use mathlib.Core.Path.{◌≡◌, refl, sym, ◌∙◌}
use mathlib.Core.Bool.{Bool, true, false}
use mathlib.Core.List.{List, [], ◌∷◌}
use Prim.Native.Nat.{ℕ}
use borrow.Author.Tests.{ne_eqb}
use Rattle.sets.specs.Upto.{every, some, count, keep, upward}
use Rattle.sets.specs.Sets.{has}
use Rattle.sets.proofs.SetLaws.{empty-at}
use Rattle.bools.proofs.BoolLaws.{same_test, clash}
use Rattle.quorums.specs.declared.Kind.{Kind}
use Rattle.quorums.specs.declared.Kind.TheVariants.{Read, Write}
use Rattle.grid.specs.Sizes.{root, root_up, published, new_five, exchanged, grid_by, new_mark, column_of}
use Rattle.quorums.specs.Quorums.{touches, covers, read_quorum, write_quorum, quorum}
use Rattle.linking.specs.Linking.{inserted}
use Rattle.linking.proofs.InsertLaws.{inserted-keep}
use Rattle.fields.specs.declared.Laid.{Laid}
use Rattle.fields.specs.Layout.{is_empty, is_tall}
use Rattle.counties.specs.Levels.{seats, at_seat, level}
use Rattle.counties.specs.Counties.{Frame, county_at, counties, in_county, has_members, several, levels, list_quorum, list_choice}
use Rattle.counties.specs.Marks.{mark_now, laid_now}
use Rattle.counties.specs.Claims.{Quorums, ListQuorums, Alike, AlikeSame, LaidMarks}
use Rattle.counties.proofs.TwoLevelLaws.{list-quorums}
use Rattle.counties.proofs.AlikeLaws.{alike_same}
use Rattle.counties.proofs.MarkLaws.{laid-marks}

module _ (f : Frame) (v : Laid) where
  laws : Quorums (has v.members) (λ kind s. list_quorum kind f v s)
  unfolding ListQuorums
  laws = list-quorums f v

  -- a read and a write quorum of one list share a member
  pub shared : (s t : ℕ → Bool) → list_quorum Read f v s ≡ true → list_quorum Write f v t ≡ true
      → (i : ℕ) × (has v.members i ≡ true) × (s i ≡ true) × (t i ≡ true)
  shared = laws.shared Read

  -- a quorum has a member
  pub inhabited : (kind : Kind) (s : ℕ → Bool) → list_quorum kind f v s ≡ true → (i : ℕ) × (has v.members i ≡ true) × (s i ≡ true)
  inhabited = laws.inhabited

  -- any quorum is a read quorum
  pub reads : (kind : Kind) (s : ℕ → Bool) → list_quorum kind f v s ≡ true → list_quorum Read f v s ≡ true
  reads = laws.reads

  -- a larger set holds what a smaller one holds
  pub grows : (kind : Kind) (s t : ℕ → Bool) → ((i : ℕ) → s i ≡ true → t i ≡ true) → list_quorum kind f v s ≡ true → list_quorum kind f v t ≡ true
  grows = laws.grows

-- a list that has a member is not empty
pub has-list : (l : Laid) (i : ℕ) → has l.members i ≡ true → is_empty l ≡ false
unfolding is_empty
has-list l i m = ne_eqb l.members 0 (λ z. clash (sym (empty-at i) ∙ rw z at m))

-- a list laid now is tall where it is to be
pub laid-shape : (tall : Bool) (county : ℕ → ℕ) (r : ℕ) → is_tall (laid_now tall county r) ≡ tall
unfolding LaidMarks
laid-shape tall county r = (laid-marks tall county r).shape

-- ---- a row more in the order that the list does not have: its seats stay
module _ (f : ℕ → ℕ) (x w : ℕ) (order : List ℕ) (v : Laid) (out : has v.members w ≡ false) where
  part-more : (q : ℕ → Bool) → ((i : ℕ) → q i ≡ true → has v.members i ≡ true) → seats (inserted f x w order) q ≡ seats order q
  unfolding seats
  part-more q sub = inserted-keep f x w q (same_test (q w) false (λ y. absurd (clash (sym out ∙ sub w y))) (λ z. absurd (clash z))) order

  pub seats-more : seats (inserted f x w order) (has v.members) ≡ seats order (has v.members)
  seats-more = part-more (has v.members) (λ i y. y)

  -- and where its members keep their counties, so do quorums and choices
  module _ (old new : ℕ → ℕ) (same : (i : ℕ) → has v.members i ≡ true → new i ≡ old i) where
    frames : Alike (record { order = inserted f x w order; county = new }) (record { order = order; county = old }) (has v.members)
    frames = record { orders = part-more; counties = same }

    pub quorum-more : (kind : Kind) (s : ℕ → Bool) → list_quorum kind (record { order = inserted f x w order; county = new }) v s ≡ list_quorum kind (record { order = order; county = old }) v s
    unfolding AlikeSame
    quorum-more = (alike_same _ _ v frames).quorum

    pub choice-more : (kind : Kind) (a i : ℕ) → list_choice kind (record { order = inserted f x w order; county = new }) v a i ≡ list_choice kind (record { order = order; county = old }) v a i
    unfolding AlikeSame
    choice-more = (alike_same _ _ v frames).choice

-- a list of one row, which is there
pub one_holds : list_quorum Write (record { order = 1 ∷ []; county = county_at (1 ∷ []) }) (laid_now false (county_at (1 ∷ [])) 1) (has 1) ≡ true
unfolding county_at counties in_county has_members several levels list_quorum level mark_now laid_now seats keep upward at_seat has count every some root root_up published new_five exchanged grid_by new_mark column_of touches covers read_quorum write_quorum quorum
one_holds = refl
