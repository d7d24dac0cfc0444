-- How many positions a choice has, in any grid that fits.
use mathlib.Core.Path.{◌≡◌, refl, sym, ◌∙◌, ap, ap₂}
use mathlib.Core.Bool.{Bool, true, false, not, ◌&&◌, ◌||◌}
use Prim.Native.Nat.{ℕ, ◌+◌, ◌-◌, ◌*◌, ◌%◌}
use native.Mathlib.Nat.{mod-lt, mod_self}
use native.Mathlib.Omega.{arith}
use lib.Dec.{eqb}
use borrow.Author.Tests.{eqb-true, eq-eqb, le-leb}
use Rattle.bools.proofs.BoolLaws.{and_l, and_r, and_i}
use Rattle.sets.specs.Upto.{Within, count}
use Rattle.sets.specs.Sets.{losing}
use Rattle.sets.proofs.UptoLaws.{count-ext}
use Rattle.sets.proofs.CountLaws.{count-all, count_less, count-or, Pairs, count-pairs}
use Rattle.grid.specs.declared.Grid.{Grid}
use Rattle.grid.specs.Sizes.{Fits, spare, row_of, column_of, height}
use Rattle.quorums.specs.declared.Kind.TheVariants.{Read, Write}
use Rattle.quorums.specs.Quorums.{is_position, read_choice, write_choice, choice}
use Rattle.quorums.specs.ChoiceSizes.{Largest, GridChoiceSizes}
use Rattle.quorums.proofs.PositionLaws.{position, cell-of, position-of, height-some, occupied, in-grid}
use Rattle.quorums.proofs.QuorumLaws.{position-yes, read-choice-yes, row_in, place_is}

module _ (g : Grid) (N : ℕ) (fits : Fits g N) where
  abbrev n : ℕ
  n = g.cols

  -- a column has as many positions as it is high
  column-size : (j : ℕ) → Within n j → count N (λ k. eqb (column_of n k) j) ≡ height g N j
  column-size j w = sym (count-pairs (height g N j) N (λ i. true) (λ k. eqb (column_of n k) j) (λ i. position n i j) cells) ∙ count-all (height g N j)
    where
      cells : Pairs (height g N j) N (λ i. true) (λ k. eqb (column_of n k) j) (λ i. position n i j)
      cells = record {
        lands = λ i v y. (occupied g N fits i j w v, eq-eqb _ j (cell-of n i j v.0 w).0);
        apart = λ i k v u y z e. sym (cell-of n i j v.0 w).1 ∙ ap (row_of n) e ∙ (cell-of n k j u.0 w).1;
        from = λ k v y. let c : column_of n k ≡ j = eqb-true _ _ y in (row_of n k, row_in g N fits k j v c, refl, place_is g N fits k j v.0 c);
      }

  module _ (a : ℕ) where
    -- of the columns that pass a test, a read takes one position each
    read-columns : (q : ℕ → Bool) → count N (λ k. q (column_of n k) && read_choice g N a k) ≡ count n q
    unfolding read_choice
    read-columns q = count-pairs N n (λ k. q (column_of n k) && read_choice g N a k) q (column_of n) columns
      where
        row : (k : ℕ) → (q (column_of n k) && read_choice g N a k) ≡ true → row_of n k ≡ a % height g N (column_of n k) + 1
        row k y = eqb-true _ _ (and_r (is_position N k) _ (and_r (q (column_of n k)) _ y))

        columns : Pairs N n (λ k. q (column_of n k) && read_choice g N a k) q (column_of n)
        columns = record {
          lands = λ k v y. ((in-grid g N fits k v).0, and_l _ _ y);
          apart = λ k l v u y z e.
              let r : row_of n k ≡ row_of n l = row k y ∙ ap (λ (j : ℕ). a % height g N j + 1) e ∙ sym (row l z) in
              sym (position-of n k v.0) ∙ ap₂ (position n) r e ∙ position-of n l u.0;
          from = λ j w y.
              let h = height-some g N fits j w in
              let i = a % height g N j + 1 in
              let v : Within (height g N j) i = omega (arith, mod-lt a h.0) in
              let c = (cell-of n i j v.0 w).0 in
              (position n i j, occupied g N fits i j w v, and_i _ _ (ap q c ∙ y) (read-choice-yes g N fits a j w), c);
        }

    read-size : count N (choice Read g N a) ≡ n
    unfolding choice
    read-size = read-columns (λ j. true) ∙ count-all n

    -- a write takes its own column whole, and of each other column what a read takes
    abbrev own : ℕ
    own = a % n + 1

    own-within : Within n own
    own-within = omega (arith, mod-lt a fits.some-column)

    two-parts : (k : ℕ) → Within N k → choice Write g N a k ≡ (eqb (column_of n k) own || (not (eqb (column_of n k) own) && read_choice g N a k))
    unfolding choice write_choice
    two-parts k w = rw (position-yes N k w) (go (eqb (column_of n k) own))
      where
        go : (b : Bool) → (b || read_choice g N a k) ≡ (b || (not b && read_choice g N a k))
        go true = refl
        go false = refl

    write-size : count N (choice Write g N a) ≡ height g N own + n - 1
    unfolding losing
    write-size = omega (arith, split, column-size own own-within, read-columns (λ j. not (eqb j own)), count_less n (λ j. true) own own-within refl, count-all n)
      where
        split : count N (choice Write g N a) ≡ count N (λ k. eqb (column_of n k) own) + count N (λ k. not (eqb (column_of n k) own) && read_choice g N a k)
        split = count-ext N _ _ two-parts ∙ count-or N _ _ (λ k e. rw e)

  -- the name n takes the first column, which has all rows
  first-height : height g N (n % n + 1) ≡ g.rows
  unfolding height spare
  first-height = rw (mod_self n, le-leb 1 (n - (g.rows * n - N)) (omega (arith, fits.tight, fits.some-column)))

pub grid-choice-sizes : GridChoiceSizes
unfolding GridChoiceSizes
grid-choice-sizes g N fits = record {
  read = read-size g N fits;
  write = record {
    bound = λ a. omega (arith, write-size g N fits a, height-some g N fits (a % g.cols + 1) (own-within g N fits a));
    reached = (g.cols, omega (arith, write-size g N fits g.cols, first-height g N fits));
  };
}

-- a largest value is one number
pub one-largest : (f : ℕ → ℕ) (x y : ℕ) → Largest f x → Largest f y → x ≡ y
one-largest f x y p q = omega (arith, p.reached.1, q.reached.1, p.bound q.reached.0, q.bound p.reached.0)
