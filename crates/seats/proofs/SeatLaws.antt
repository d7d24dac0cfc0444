-- The seats of a list on a well-formed table: as many as the list has members, and each member on one of them.
use mathlib.Core.Path.{◌≡◌, sym, ◌∙◌}
use mathlib.Core.Bool.{Bool, true, false}
use mathlib.Core.List.{List}
use Prim.Native.Nat.{ℕ, suc, ◌-◌, ◌<◌}
use native.Mathlib.Omega.{arith}
use lib.ListN.{length, get_or}
use Rattle.bools.proofs.BoolLaws.{and_i, and_r, same_test, clash}
use Rattle.sets.specs.Upto.{Within, count, keep, among}
use Rattle.sets.proofs.UptoLaws.{count-ext}
use Rattle.fields.specs.Layout.{used_of, name_of}
use Rattle.table.specs.Chain.{order_of}
use Rattle.table.specs.WellFormed.{well_formed}
use Rattle.table.proofs.WellFormedLaws.{sized, few-rows}
use Rattle.table.proofs.ChainLaws.{order-each, order-rises}
use Rattle.counties.specs.Levels.{seats}
use Rattle.seats.specs.Seats.{row_at, EveryListIsSeated}
use Rattle.table.proofs.RisingLaws.{order-within}
use Rattle.sets.proofs.CountLaws.{count-to}
use Rattle.sets.proofs.RisingLaws.{keep-count, keep-among, among-at, place_of, keep-rises, rises-apart}

module _ (t : List ℕ) (e : well_formed t ≡ true) (p : ℕ → Bool) (listed : (i : ℕ) → p i ≡ true → Within (used_of t) i) where
  seats-size : length (seats (order_of t) p) ≡ count 64 p
  unfolding seats
  seats-size =
      keep-count (name_of t) (used_of t) p 0 (order_of t) (order-rises t e) (order-within t e)
      ∙ count-ext (used_of t) _ p (λ i w. rw (order-each t e i w))
      ∙ sym (count-to (used_of t) p above 64 (few-rows (sized e)))
    where
      above : (i : ℕ) → used_of t < i → p i ≡ false
      above i l = same_test (p i) false (λ y. absurd (omega (arith, listed i y))) (λ z. absurd (clash z))

  -- two seats hold two rows
  two-seats : (j k : ℕ) → Within (count 64 p) j → Within (count 64 p) k → row_at t p j ≡ row_at t p k → j ≡ k
  unfolding row_at seats
  two-seats j k a b q =
      let n : length (keep p (order_of t)) ≡ count 64 p = seats-size in
      let s : j - 1 ≡ k - 1 = rises-apart (name_of t) 0 (keep p (order_of t)) (keep-rises (name_of t) p 0 (order_of t) (order-rises t e)) (j - 1) (k - 1) (omega arith) (omega arith) q in
      omega arith

  -- each holds a member
  seat-member : (k : ℕ) → Within (count 64 p) k → p (row_at t p k) ≡ true
  unfolding row_at seats
  seat-member k w =
      let n : length (keep p (order_of t)) ≡ count 64 p = seats-size in
      let m : among (keep p (order_of t)) (get_or (keep p (order_of t)) (k - 1) 0) ≡ true = among-at (keep p (order_of t)) (k - 1) (omega arith) in
      and_r (among (order_of t) (row_at t p k)) _ (sym (keep-among p (order_of t) (row_at t p k)) ∙ m)

  -- and each member has one
  seat-of : (i : ℕ) → p i ≡ true → (k : ℕ) × Within (count 64 p) k × (row_at t p k ≡ i)
  unfolding row_at seats
  seat-of i y =
      let r = place_of (keep p (order_of t)) i (keep-among p (order_of t) i ∙ and_i _ _ (order-each t e i (listed i y)) y) in
      let z : suc r.0 - 1 ≡ r.0 = omega arith in
      (suc r.0, omega (arith, r.1, seats-size), rw z r.2)

pub every-list-is-seated : EveryListIsSeated
unfolding EveryListIsSeated
every-list-is-seated t e p listed = record { many = seats-size t e p listed; apart = two-seats t e p listed; member = seat-member t e p listed; seat = seat-of t e p listed }
