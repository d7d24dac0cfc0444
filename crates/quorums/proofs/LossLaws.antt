-- With two columns, and two positions in each, all positions but one hold a write quorum.
use mathlib.Core.Path.{◌≡◌, refl, sym, ◌∙◌, ap}
use mathlib.Core.Bool.{Bool, true, false, not, ◌||◌}
use mathlib.Core.Logic.{◌≢◌, ◌⊎◌, inl, inr}
use Prim.Native.Nat.{ℕ, ◌*◌, ◌≤◌}
use native.Mathlib.Omega.{arith}
use lib.Dec.{eqb, leb}
use borrow.Author.Tests.{eqb-true, le-leb}
use Rattle.bools.proofs.BoolLaws.{and_i, or-e, clash}
use Rattle.sets.specs.Upto.{Within, every, some}
use Rattle.sets.specs.Sets.{losing}
use Rattle.sets.proofs.UptoLaws.{every_of, some_of}
use Rattle.grid.specs.declared.Grid.{Grid}
use Rattle.grid.specs.Sizes.{root, root_up, published, new_five, exchanged, grid_by, new_mark, column_of}
use Rattle.grid.proofs.SizeLaws.{roomy}
use Rattle.quorums.specs.declared.Kind.TheVariants.{Write}
use Rattle.quorums.specs.Quorums.{touches, covers, read_quorum, write_quorum, quorum, is_position}
use Rattle.quorums.specs.Starred.{Each}
use Rattle.quorums.specs.Losses.{bears, AllButOne, RoomBearsLoss, FourBearLoss, Without, Bears, shorter, ShorterHold}
use Rattle.quorums.proofs.PositionLaws.{position, cell-of}
use Rattle.quorums.proofs.QuorumLaws.{position-yes, touch, cover}

-- a set without one of its members misses at most one of them
pub losing-one : (p : ℕ → Bool) (x : ℕ) → AllButOne p (losing p x)
unfolding AllButOne losing
losing-one p x i j h g d = rw (h, g) (go (eqb i x) refl (eqb j x) refl)
  where
    go : (a : Bool) → eqb i x ≡ a → (b : Bool) → eqb j x ≡ b → (not a || not b) ≡ true
    go true e true f = absurd (d (eqb-true i x e ∙ sym (eqb-true j x f)))
    go true e false f = refl
    go false e b f = refl

module _ (g : Grid) (N : ℕ) (wide : 2 ≤ g.cols) (high : 2 * g.cols ≤ N) (held : ℕ → Bool) (all : AllButOne (is_position N) held) where
  one_of : (j k : ℕ) → Within N j → Within N k → j ≢ k → (held j ≡ true) ⊎ (held k ≡ true)
  unfolding AllButOne
  one_of j k w v d = or-e _ _ (all j k (position-yes N j w) (position-yes N k v) d)

  -- of the first two positions of a column one is held
  column-touched : (j : ℕ) → Within g.cols j → touches g.cols N held j ≡ true
  unfolding position
  column-touched j w = go (one_of (position g.cols 1 j) (position g.cols 2 j) (omega arith) (omega arith) (λ e. omega arith))
    where
      at : (i : ℕ) → 1 ≤ i → Within N (position g.cols i j) → held (position g.cols i j) ≡ true → touches g.cols N held j ≡ true
      at i one v h = rw (cell-of g.cols i j one w).0 at (touch g N held (position g.cols i j) v h)

      go : (held (position g.cols 1 j) ≡ true) ⊎ (held (position g.cols 2 j) ≡ true) → touches g.cols N held j ≡ true
      go (inl h) = at 1 (omega arith) (omega arith) h
      go (inr h) = at 2 (omega arith) (omega arith) h

  -- where the first column is not whole, the second is
  whole-column : (b : Bool) → covers g.cols N held 1 ≡ b → some g.cols (covers g.cols N held) ≡ true
  whole-column true e = some_of g.cols _ 1 (omega arith) e
  whole-column false e = some_of g.cols _ 2 (omega arith) (cover g N held 2 (λ k w c. by k w c (held k) refl))
    where
      by : (k : ℕ) → Within N k → column_of g.cols k ≡ 2 → (b : Bool) → held k ≡ b → held k ≡ true
      by k w c true q = q
      by k w c false q = absurd (clash (sym e ∙ cover g N held 1 (λ l v d. go (one_of k l w v (λ z. omega (arith, c, d, ap (column_of g.cols) z))))))
        where
          go : {x : Bool} → (held k ≡ true) ⊎ (x ≡ true) → x ≡ true
          go (inl y) = absurd (clash (sym q ∙ y))
          go (inr y) = y

  one-missed : quorum Write g N held ≡ true
  unfolding quorum write_quorum read_quorum
  one-missed =
      and_i (read_quorum g N held) _ (and_i (leb 1 g.cols) _ (le-leb 1 g.cols (omega arith)) (every_of g.cols _ column-touched))
      (whole-column (covers g.cols N held 1) refl)

pub room-bears-loss : RoomBearsLoss
unfolding RoomBearsLoss
room-bears-loss g N wide high = one-missed g N (omega arith) (omega arith)

pub four-bear-loss : FourBearLoss
unfolding FourBearLoss RoomBearsLoss bears
four-bear-loss tall N k four = let r = roomy tall N four in room-bears-loss (grid_by (new_mark tall N) N) N r.0 r.1 _ (losing-one (is_position N) k)

-- ---- shorter lists: by computing the definitions, wide and tall
both : (N k : ℕ) (answer : Bool) → bears (new_mark false N) N k ≡ answer → bears (new_mark true N) N k ≡ answer → Bears (Without N k answer)
unfolding Bears
both N k answer x y false = x
both N k answer x y true = y

pub shorter-hold : ShorterHold
unfolding ShorterHold Each shorter bears losing grid_by new_mark new_five exchanged root root_up published column_of every some touches covers read_quorum write_quorum quorum is_position
shorter-hold = (refl, (both _ _ _ refl refl, (both _ _ _ refl refl, (both _ _ _ refl refl, (both _ _ _ refl refl, (both _ _ _ refl refl, (both _ _ _ refl refl, tt)))))))
