-- The rows in the chain order.
use mathlib.Core.Path.{◌≡◌}
use mathlib.Core.Bool.{true}
use mathlib.Core.Logic.{⊎_elim}
use mathlib.Core.List.{List}
use Prim.Native.Nat.{ℕ, zero, suc, ◌≤◌}
use native.Mathlib.Omega.{arith}
use Rattle.bools.proofs.BoolLaws.{clash}
use Rattle.sets.specs.Upto.{Within, among}
use Rattle.sets.proofs.RisingLaws.{among-e}
use Rattle.fields.specs.Layout.{used_of, first_of, link_of, name_of}
use Rattle.linking.specs.Linking.{chain, by_name}
use Rattle.linking.proofs.NameLaws.{rising-by-name}
use Rattle.table.specs.Chain.{order_of}
use Rattle.table.proofs.ChainLaws.{order-each, order-rises}
use Rattle.table.specs.WellFormed.{well_formed}
use Rattle.table.proofs.WellFormedLaws.{header, linked, link-in}

-- along links that lead to rows 1 to n it has no other rows
pub chain-within : (next : ℕ → ℕ) (n : ℕ) → ((i : ℕ) → Within n i → next i ≤ n) → (m i : ℕ) → i ≤ n → (j : ℕ) → among (chain next m i) j ≡ true → Within n j
unfolding chain among
chain-within next n links zero i h j e = absurd (clash e)
chain-within next n links (suc m) zero h j e = absurd (clash e)
chain-within next n links (suc m) (suc k) h j e = ⊎_elim
    (λ a. chain-within next n links m (next (suc k)) (links (suc k) (omega arith)) j a)
    (λ q. rw (← q) (omega arith))
    (among-e (suc k) (chain next m (next (suc k))) j e)

-- the order of a well-formed table has used rows only
pub order-within : (t : List ℕ) → well_formed t ≡ true → (j : ℕ) → among (order_of t) j ≡ true → Within (used_of t) j
unfolding order_of
order-within t e = chain-within (link_of t) (used_of t) (link-in (linked e)) (used_of t) (first_of t) (header (linked e).sized.header).first.1

-- and its rows in the order of their names
pub chain-by-name : (t : List ℕ) → well_formed t ≡ true → order_of t ≡ by_name (name_of t) (used_of t)
chain-by-name t e = rising-by-name (name_of t) (used_of t) (order_of t) (order-rises t e) (order-each t e) (order-within t e)
