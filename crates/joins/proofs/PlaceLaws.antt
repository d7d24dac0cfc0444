-- A name sought along the chain, over plain variables.
use mathlib.Core.Path.{◌≡◌, refl, sym, ◌∙◌, ap}
use mathlib.Core.Bool.{true, false}
use mathlib.Core.Logic.{⊎_elim}
use mathlib.Core.List.{List, [], ◌∷◌}
use Prim.Native.Nat.{ℕ, ◌+◌, ◌≤◌, ◌<◌}
use native.Mathlib.Numerals.{add-one}
use native.Mathlib.Omega.{arith}
use lib.Dec.{eqb, ltb}
use lib.ListN.{get_or, drop, drop_of_length-le}
use lib.Seq.{drop-cons, get_or-take}
use borrow.Author.Tests.{eqb-true, eq-eqb, ne_eqb, lt-ltb, le-ltb, le-leb}
use Rattle.bools.proofs.BoolLaws.{clash, same_test}
use Rattle.sets.specs.Upto.{Within, some, among, rises_from}
use Rattle.sets.proofs.UptoLaws.{some_at, some_of, some-none}
use Rattle.sets.proofs.RisingLaws.{among-e, rises-tail, rises-above}
use Rattle.fields.specs.Layout.{used_of, name_of}
use Rattle.table.specs.Chain.{order_of}
use Rattle.table.specs.WellFormed.{between, well_formed}
use Rattle.table.specs.Asked.{Ordered}
use Rattle.table.proofs.ChainLaws.{order-length, order-each, order-rises}
use Rattle.linking.specs.Linking.{last_of}
use Rattle.linking.proofs.InsertLaws.{last_none}
use Rattle.joining.specs.Joining.{row_before}

-- the rows still to come, row `before` being the last passed, 0 where none was: those passed have names below x
pub record Left (t : List ℕ) (x before : ℕ) (rows : List ℕ) : Type 0 where
  pub low : ℕ
  pub rising : rises_from low (name_of t) rows ≡ true
  pub row : last_of (λ i. ltb (name_of t i) x) before rows ≡ row_before t x
  pub names : (j : ℕ) → Within (used_of t) j → name_of t j ≡ x → among rows j ≡ true

module _ (t : List ℕ) (e : well_formed t ≡ true) (x : ℕ) where
  pub all_left : Left t x 0 (order_of t)
  unfolding row_before
  all_left = record { low = 0; rising = order-rises t e; row = refl; names = λ j w q. order-each t e j w }

  -- the next of them
  pub next-left : (rows : List ℕ) (k : ℕ) → Ordered t rows → k < used_of t → drop k (order_of t) ≡ get_or rows k 0 ∷ drop (k + 1) (order_of t)
  next-left rows k o h =
      let here : get_or (order_of t) k 0 ≡ get_or rows k 0 = ap (λ (l : List ℕ). get_or l k 0) (sym o.order) ∙ get_or-take (used_of t) rows k 0 h in
      rw (add-one k, ← here) (drop-cons (order_of t) k 0 (omega (arith, order-length t e)))

  pub none_left : (k : ℕ) → used_of t ≤ k → drop k (order_of t) ≡ []
  none_left k h = drop_of_length-le (order_of t) {i = k} (omega (arith, order-length t e))

module _ {t : List ℕ} {x before i : ℕ} {rows : List ℕ} (l : Left t x before (i ∷ rows)) where
  -- a name below x is passed
  pub one-passed : name_of t i < x → Left t x i rows
  unfolding last_of
  one-passed h = record {
    low = name_of t i;
    rising = rises-tail (name_of t) l.low i rows l.rising;
    row = rw (lt-ltb (name_of t i) x h) at l.row;
    names = λ j w q. ⊎_elim (λ m. m) (λ z. absurd (omega (arith, q, ap (name_of t) z))) (among-e i rows j (l.names j w q));
  }

  -- another tells where x goes, and whether it is in use
  module _ (h : x ≤ name_of t i) where
    above : (j : ℕ) → among (i ∷ rows) j ≡ true → x ≤ name_of t j
    above j m = ⊎_elim
        (λ a. omega (arith, rises-above (name_of t) (name_of t i) rows (rises-tail (name_of t) l.low i rows l.rising) j a))
        (λ z. omega (arith, ap (name_of t) z))
        (among-e i rows j m)

    pub before-is : before ≡ row_before t x
    before-is = sym (last_none (λ k. ltb (name_of t k) x) before (i ∷ rows) (λ j m. le-ltb (name_of t j) x (above j m))) ∙ l.row

    pub taken_is : Within (used_of t) i → eqb (name_of t i) x ≡ some (used_of t) (λ j. eqb (name_of t j) x)
    taken_is w = same_test _ _ (λ q. some_of (used_of t) _ i w q) from
      where
        from : some (used_of t) (λ j. eqb (name_of t j) x) ≡ true → eqb (name_of t i) x ≡ true
        from s =
            let a = some_at (used_of t) _ s in
            let q : name_of t a.0 ≡ x = eqb-true _ _ a.2 in
            ⊎_elim
            (λ m. absurd (omega (arith, rises-above (name_of t) (name_of t i) rows (rises-tail (name_of t) l.low i rows l.rising) a.0 m)))
            (λ z. eq-eqb _ _ (ap (name_of t) z ∙ q))
            (among-e i rows a.0 (l.names a.0 a.1 q))

-- no name is x or above it
module _ {t : List ℕ} {x before : ℕ} (l : Left t x before []) where
  pub last-is : before ≡ row_before t x
  unfolding last_of
  last-is = l.row

  pub free-is : false ≡ some (used_of t) (λ j. eqb (name_of t j) x)
  unfolding among
  free-is = sym (some-none (used_of t) _ (λ j w. ne_eqb (name_of t j) x (λ q. clash (l.names j w q))))

-- a name of two bytes that is not 0
pub is-name : (x : ℕ) → (x ≡ 0 → ⊥) → x ≤ 65_535 → between 1 x 65_535 ≡ true
unfolding between
is-name x d h = rw (le-leb 1 x (omega arith), le-leb x 65_535 h)
