-- A choice over a list within one county has as many rows as it has positions, on a well-formed table.
use mathlib.Core.Path.{◌≡◌, refl, sym, ◌∙◌, ap, subst, fun_ext}
use mathlib.Core.Bool.{Bool, true, false, not, ◌&&◌}
use mathlib.Core.List.{List}
use Prim.Native.Nat.{ℕ, ◌≤◌}
use native.Mathlib.Omega.{arith}
use lib.Dec.{leb}
use lib.ListN.{length}
use lib.Pow.{pow_mono}
use borrow.Author.Tests.{eqb-true}
use Rattle.bools.proofs.BoolLaws.{and_l, and_r}
use Rattle.sets.specs.Upto.{Within, some, count}
use Rattle.sets.specs.Sets.{has}
use Rattle.sets.proofs.UptoLaws.{some_at}
use Rattle.sets.proofs.SetLaws.{has_within, empty-is}
use Rattle.sets.proofs.CountLaws.{count-one, Pairs, count-pairs}
use Rattle.grid.specs.Sizes.{grid_by}
use Rattle.grid.proofs.SizeLaws.{laid-fits}
use Rattle.quorums.specs.declared.Kind.{Kind}
use Rattle.quorums.specs.Quorums.{choice}
use Rattle.quorums.specs.ChoiceSizes.{ChoicesSized, GridChoiceSizes}
use Rattle.quorums.proofs.ChoiceLaws.{grid-choice-sizes}
use Rattle.fields.specs.Layout.{is_empty, used_of}
use Rattle.table.specs.Chain.{order_of, frame_of}
use Rattle.table.specs.WellFormed.{well_formed}
use Rattle.table.proofs.WellFormedLaws.{sized, few-rows}
use Rattle.counties.specs.Levels.{seats, at_seat, level_choice}
use Rattle.counties.specs.Counties.{list_choice}
use Rattle.counties.specs.Claims.{OneCounty}
use Rattle.seats.specs.Seats.{row_at, Seated, EveryListIsSeated, ChoiceSizes}
use Rattle.seats.proofs.SeatLaws.{every-list-is-seated}
use Rattle.counties.proofs.LevelLaws.{chosen_at}
use Rattle.counties.proofs.OneCountyLaws.{one-county}

module _ (t : List ℕ) (e : well_formed t ≡ true) (p : ℕ → Bool) (used : (i : ℕ) → p i ≡ true → Within (used_of t) i) where
  S : Seated t p
  unfolding EveryListIsSeated
  S = every-list-is-seated t e p used

  -- the chosen positions pair with the rows there
  chosen-pairs : (kind : Kind) (mark a : ℕ) → Pairs (count 64 p) 64 (choice kind (grid_by mark (count 64 p)) (count 64 p) a) (level_choice kind mark (order_of t) p a) (row_at t p)
  unfolding row_at level_choice at_seat
  chosen-pairs kind mark a = record {
    lands = λ k w y. (omega (arith, used (row_at t p k) (S.member k w), few-rows (sized e)), chosen_at kind mark (order_of t) p a S.many k w y);
    apart = λ j k w v y z. S.apart j k w v;
    from = λ i w y.
        let s = some_at (count 64 p) _ y in
        let k = s.0 in
        let there = and_r (choice kind (grid_by mark (count 64 p)) (count 64 p) a k) _ s.2 in
        (k, s.1, and_l _ _ s.2, sym (eqb-true i _ (and_r (leb 1 k && leb k (length (seats (order_of t) p))) _ there)));
  }

  -- so the choices over used rows, laid in any mark's grid, have the sizes of that grid
  pub level-sizes : 1 ≤ count 64 p → (mark : ℕ) → ChoicesSized (grid_by mark (count 64 p)) (λ kind a. count 64 (level_choice kind mark (order_of t) p a))
  unfolding GridChoiceSizes
  level-sizes one mark = subst (ChoicesSized (grid_by mark N)) (fun_ext (λ kind. fun_ext (λ a. count-pairs N 64 _ _ (row_at t p) (chosen-pairs kind mark a)))) (grid-choice-sizes (grid_by mark N) N (laid-fits mark N one))
    where
      N : ℕ
      N = count 64 p

pub choice-sizes : ChoiceSizes
unfolding ChoiceSizes OneCounty is_empty list_choice frame_of
choice-sizes t e l small county full =
    subst (ChoicesSized (grid_by l.mark (count 64 (has l.members)))) (fun_ext (λ kind. fun_ext (λ a. ap (count 64) (fun_ext (λ i. sym ((one-county (frame_of t) (has l.members) county kind l.mark).choice a i))))))
    (level-sizes t e (has l.members) (λ i. has_within (used_of t) l.members i small) one l.mark)
  where
    some-member : some 64 (has l.members) ≡ true
    some-member = go (some 64 (has l.members)) (sym (empty-is l.members (omega (arith, pow_mono (few-rows (sized e))))) ∙ full)
      where
        go : (b : Bool) → not b ≡ false → b ≡ true
        go true z = refl
        go false z = sym z

    one : 1 ≤ count 64 (has l.members)
    one = let i = some_at 64 (has l.members) some-member in count-one 64 (has l.members) i.0 i.1 i.2
