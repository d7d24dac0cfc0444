-- The chain order of a well-formed table with a row more; rows in the order of their names.
use mathlib.Core.Path.{◌≡◌, sym, ◌∙◌, ap}
use mathlib.Core.Bool.{true}
use mathlib.Core.Logic.{⊎_elim}
use mathlib.Core.List.{List}
use Prim.Native.Nat.{ℕ, suc, ◌≤◌, ◌<◌}
use native.Mathlib.Omega.{arith}
use lib.Dec.{ltb}
use lib.ListN.{length}
use borrow.Author.Tests.{eq-eqb}
use Rattle.bools.proofs.BoolLaws.{or_l, or_r}
use Rattle.sets.specs.Upto.{Within, among}
use Rattle.sets.proofs.UptoLaws.{last, every_of}
use Rattle.fields.specs.Layout.{used_of, first_of, name_of, link_of}
use Rattle.table.specs.Chain.{order_of}
use Rattle.table.specs.WellFormed.{visits_each, names_rise, well_formed}
use Rattle.table.proofs.ChainLaws.{order-path, order-length, order-each, order-rises}
use Rattle.table.proofs.RisingLaws.{order-within}
use Rattle.linking.specs.Linking.{chain, last_of, inserted}
use Rattle.linking.proofs.PathLaws.{rises-same}
use Rattle.linking.proofs.InsertLaws.{inserted-length, inserted-among, inserted_same, inserted-rises, Relinked, chain-inserted}

-- u is table t with one used row more, named x, put into the chain behind the last row whose name is below x
pub record Joined (t u : List ℕ) (x : ℕ) : Type 0 where
  pub used : used_of u ≡ suc (used_of t)
  pub new : name_of u (suc (used_of t)) ≡ x
  pub names : (i : ℕ) → Within (used_of t) i → name_of u i ≡ name_of t i
  pub links : Relinked (order_of t) (last_of (λ i. ltb (name_of t i) x) 0 (order_of t)) (suc (used_of t)) (first_of t) (first_of u) (link_of t) (link_of u)

module _ (t : List ℕ) (e : well_formed t ≡ true) (u : List ℕ) (x : ℕ) (joined : Joined t u x) where
  longer : List ℕ
  longer = inserted (name_of t) x (suc (used_of t)) (order_of t)

  any-steps : (m : ℕ) → used_of t < m → chain (link_of u) m (first_of u) ≡ longer
  unfolding longer
  any-steps = chain-inserted (name_of t) (link_of t) (link_of u) x (suc (used_of t)) (used_of t) (first_of t) (first_of u) (omega arith) (order_of t) (sym (order-path t e))
      (omega (arith, order-length t e)) (order-rises t e) joined.links

  pub joined-order : order_of u ≡ inserted (name_of t) x (suc (used_of t)) (order_of t)
  unfolding order_of longer
  joined-order = any-steps (used_of u) (omega (arith, joined.used))

  joined-whole : chain (link_of u) (suc (used_of u)) (first_of u) ≡ longer
  joined-whole = any-steps (suc (used_of u)) (omega (arith, joined.used))

  each : (i : ℕ) → Within (suc (used_of t)) i → among longer i ≡ true
  unfolding longer
  each i v = inserted-among (name_of t) x (suc (used_of t)) (order_of t) i ∙ ⊎_elim
      (λ q. or_r (among (order_of t) i) _ (eq-eqb _ _ (sym q)))
      (λ old. or_l (among (order_of t) i) _ (order-each t e i old))
      (last (used_of t) i v)

  -- question 1's two clauses on the chain
  pub joined-visits : visits_each u ≡ true
  unfolding visits_each longer
  joined-visits =
      let n : length longer ≡ suc (used_of t) = inserted-length (name_of t) x (suc (used_of t)) (order_of t) ∙ ap suc (order-length t e) in
      rw (joined-whole, joined.used, eq-eqb _ _ n) (every_of (suc (used_of t)) (among longer) each)

  pub joined-rise : 1 ≤ x → ((i : ℕ) → Within (used_of t) i → name_of t i ≡ x → ⊥) → names_rise u ≡ true
  unfolding names_rise longer
  joined-rise pos free =
      let old : (j : ℕ) → among (order_of t) j ≡ true → name_of u j ≡ name_of t j = λ j m. joined.names j (order-within t e j m) in
      rw (joined-whole, ← inserted_same (name_of t) (name_of u) x (suc (used_of t)) (order_of t) old)
      (inserted-rises (name_of u) x (suc (used_of t)) joined.new 0 (order_of t) pos
      (λ j m q. free j (order-within t e j m) (sym (old j m) ∙ q))
      (rises-same (name_of t) (name_of u) 0 (order_of t) old ∙ order-rises t e))
