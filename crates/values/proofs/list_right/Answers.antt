use mathlib.Core.Path.{◌≡◌, refl, sym}
use mathlib.Core.Bool.{Bool, true, false, cond, ◌&&◌, ◌||◌, and-true, and-false, or-true}
use Prim.Native.Nat.{ℕ, ◌+◌, ◌-◌, ◌%◌, ◌^◌}
use native.Mathlib.Nat.{mod-eq_of_lt}
use native.Mathlib.Omega.{arith}
use lib.Dec.{eqb}
use lib.Pow.{pow_pos}
use borrow.Author.Tests.{eqb-true, lt-ltb}
use Rattle.fields.specs.Layout.{list, is_empty}
use Rattle.table.specs.WellFormed.{only_rows, list_right}
use Rattle.values.proofs.list_right.Goals.{Start}
use Rattle.values.proofs.list_right.Goals as goal

-- a list that its own row is not on must be empty, and then names no row at all
exempt : (n m : ℕ) (own : Bool) → cond own (only_rows n m) (eqb m 0) ≡ (only_rows n m && (eqb m 0 || own))
unfolding only_rows
exempt n m true = sym (rw (or-true (eqb m 0)) (and-true (only_rows n m)))
exempt n m false = go (eqb m 0) refl
  where
    none : only_rows n 0 ≡ true
    none = lt-ltb 0 (2 ^ n) (pow_pos n)

    go : (b : Bool) → eqb m 0 ≡ b → b ≡ (only_rows n m && (b || false))
    go true e = rw (eqb-true m 0 e, none)
    go false e = sym (and-false (only_rows n m))

-- row i stands at place i - 1
place : (c : Start) → (c.args.i - 1) % 64 + 1 ≡ c.args.i
place c = let e : (c.args.i - 1) % 64 ≡ c.args.i - 1 = mod-eq_of_lt (omega arith) in omega arith

pub returns : goal.returns
unfolding list_right is_empty list
returns c =
    rw (c.either.ensures, c.at.ensures, place (goal.at.returns c).Start, c.only_rows.ensures, c.members-bits.ensures) (exempt _ _ _)
