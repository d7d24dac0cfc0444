-- All members but one of a list of four or more within one county, as now laid, hold a write quorum, on a well-formed table.
use mathlib.Core.Path.{◌≡◌, ◌∙◌, ap}
use mathlib.Core.Bool.{Bool, true, ◌||◌}
use mathlib.Core.Logic.{◌⊎◌, inl, inr}
use mathlib.Core.List.{List}
use Prim.Native.Nat.{ℕ, ◌≤◌}
use Rattle.bools.proofs.BoolLaws.{or_l, or_r, or-e}
use Rattle.sets.specs.Upto.{Within, count}
use Rattle.sets.specs.Sets.{has}
use Rattle.sets.proofs.SetLaws.{has_within}
use Rattle.grid.specs.Sizes.{grid_by, new_mark}
use Rattle.grid.proofs.SizeLaws.{roomy}
use Rattle.quorums.specs.declared.Kind.TheVariants.{Write}
use Rattle.quorums.specs.Quorums.{is_position}
use Rattle.quorums.specs.Losses.{AllButOne, RoomBearsLoss}
use Rattle.quorums.proofs.QuorumLaws.{position-within}
use Rattle.quorums.proofs.LossLaws.{room-bears-loss}
use Rattle.fields.specs.declared.Laid.{Laid}
use Rattle.fields.specs.Layout.{used_of, county_of}
use Rattle.table.specs.Chain.{order_of, frame_of}
use Rattle.counties.specs.Levels.{seats, at_seat, level}
use Rattle.counties.specs.Counties.{list_quorum}
use Rattle.counties.specs.Claims.{OneCounty, OneCountyMarks}
use Rattle.seats.specs.Seats.{row_at, Seated, EveryListIsSeated, ListBearsLoss}
use Rattle.seats.proofs.SeatLaws.{every-list-is-seated}
use Rattle.counties.proofs.LevelLaws.{at-seat}
use Rattle.counties.proofs.OneCountyLaws.{one-county, one-county-marks}

module _ (t : List ℕ) (p : ℕ → Bool) (S : Seated t p) (s : ℕ → Bool) (all : AllButOne p s) where
  -- who misses one member misses one position
  seats-missed : AllButOne (is_position (count 64 p)) (at_seat (seats (order_of t) p) s)
  unfolding AllButOne row_at seats
  seats-missed j k x y d = go (or-e _ _ (all (row_at t p j) (row_at t p k) (S.member j (within j x)) (S.member k (within k y)) (λ z. d (S.apart j k (within j x) (within k y) z))))
    where
      within : (i : ℕ) → is_position (count 64 p) i ≡ true → Within (count 64 p) i
      within = position-within (count 64 p)

      at : (i : ℕ) → is_position (count 64 p) i ≡ true → s (row_at t p i) ≡ true → at_seat (seats (order_of t) p) s i ≡ true
      at i h m = at-seat (seats (order_of t) p) s i (rw S.many (within i h)) m

      go : (s (row_at t p j) ≡ true) ⊎ (s (row_at t p k) ≡ true) → (at_seat (seats (order_of t) p) s j || at_seat (seats (order_of t) p) s k) ≡ true
      go (inl m) = or_l _ _ (at j x m)
      go (inr m) = or_r (at_seat (seats (order_of t) p) s j) _ (at k y m)

  level-bears-loss : (tall : Bool) → 4 ≤ count 64 p → level Write (new_mark tall (count 64 p)) (order_of t) p s ≡ true
  unfolding level RoomBearsLoss
  level-bears-loss tall four =
      let r = roomy tall (count 64 p) four in room-bears-loss (grid_by (new_mark tall (count 64 p)) (count 64 p)) (count 64 p) r.0 r.1 (at_seat (seats (order_of t) p) s) seats-missed

pub list-bears-loss : ListBearsLoss
unfolding ListBearsLoss EveryListIsSeated OneCounty OneCountyMarks list_quorum frame_of
list-bears-loss t e tall l now small one four s all =
    let mark : l.mark ≡ new_mark tall (count 64 (has l.members)) = ap (λ (x : Laid). x.mark) (now ∙ (one-county-marks (county_of t) l one).laid tall) in
    (one-county (frame_of t) (has l.members) one Write l.mark).quorum s
    ∙ rw mark (level-bears-loss t (has l.members) (every-list-is-seated t e (has l.members) (λ i. has_within (used_of t) l.members i small)) s all tall four)
