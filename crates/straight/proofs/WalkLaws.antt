-- The chain of a straight table: its rows in their places.
use mathlib.Core.Path.{◌≡◌, refl, sym, subst, ◌∙◌, ap}
use mathlib.Core.Bool.{Bool, true, ◌&&◌}
use mathlib.Core.Logic.{◌⊎◌, inl, inr}
use mathlib.Core.List.{List}
use Prim.Native.Nat.{ℕ, zero, suc, ◌≤◌, ◌<◌}
use native.Mathlib.Numerals.{add-one}
use native.Mathlib.Omega.{arith}
use lib.ListN.{length, set}
use borrow.Author.Tests.{lt-ltb, le-ltb, eq-eqb}
use Rattle.bools.proofs.BoolLaws.{and_i, or_l, or_r}
use Rattle.sets.specs.Upto.{Within}
use Rattle.sets.specs.Sets.{has, gaining}
use Rattle.sets.proofs.UptoLaws.{last, every_of}
use Rattle.sets.proofs.SetLaws.{row-yes}
use Rattle.fields.specs.Layout.{used_of, name_of}
use Rattle.table.specs.WellFormed.{visits_each, names_rise}
use Rattle.table.specs.Asked.{Linked, Ordered, walked_into}
use Rattle.table.proofs.WellFormedLaws.{header, few-rows}
use Rattle.table.proofs.ChainLaws.{Walked, walk_start, walk_turn, walk-all, walk-order, left-all}
use Rattle.straight.specs.Straight.{behind, name_before, Straight, numbered}

-- the first k rows, put in one by one
unfoldable seen : ℕ → ℕ → Bool
seen zero = has 0
seen (suc k) = gaining (seen k) (suc k)

seen-each : (k i : ℕ) → k ≤ 64 → Within k i → seen k i ≡ true
unfolding seen gaining
seen-each zero i h w = absurd (omega arith)
seen-each (suc k) i h w = go (last k i w) (λ v. seen-each k i (omega arith) v)
  where
    go : (i ≡ suc k) ⊎ Within k i → (Within k i → seen k i ≡ true) → gaining (seen k) (suc k) i ≡ true
    go (inl e) old = or_r (seen k i) _ (and_i _ _ (row-yes (suc k) (omega arith)) (eq-eqb i (suc k) e))
    go (inr v) old = or_l _ _ (old v)

behind-some : (n k : ℕ) → k < n → behind n k ≡ suc k
unfolding behind
behind-some n k h = rw (lt-ltb k n h) (add-one k)

behind-none : (n k : ℕ) → n ≤ k → behind n k ≡ 0
unfolding behind
behind-none n k h = rw (le-ltb k n h)

module _ {t : List ℕ} (l : Linked t) (s : Straight t) (lent : List ℕ) (room : length lent ≡ 64) where
  -- the walk along it passes row after row
  walked : (k : ℕ) → k ≤ used_of t → Walked t lent (numbered lent k) (seen k) (name_before t k) k (behind (used_of t) k)
  unfolding numbered seen name_before
  walked zero h = walk_start l lent _ room (behind-some (used_of t) 0 (omega (arith, (header l.sized.header).used)) ∙ sym s.first)
  walked (suc k) h =
      let e = behind-some (used_of t) k (omega arith) in
      let w = subst (λ (n : ℕ). Walked t lent (numbered lent k) (seen k) (name_before t k) k n) e (walked k (omega arith)) in
      subst (λ (n : ℕ). Walked t lent (set (numbered lent k) k (suc k)) (gaining (seen k) (suc k)) (name_of t (suc k)) n (behind (used_of t) (suc k))) (add-one k)
      (walk_turn l w (gaining (seen k) (suc k)) (name_of t (suc k)) (behind (used_of t) (suc k)) (omega arith) (omega arith) refl refl
      (let n = s.names k (omega arith) in omega (arith, n, ap (name_of t) (add-one k))) (sym (s.links (suc k) (omega arith))))

  all-walked : Walked t lent (numbered lent (used_of t)) (seen (used_of t)) (name_before t (used_of t)) (used_of t) (behind (used_of t) (used_of t))
  all-walked = walked (used_of t) (omega arith)

  pub chain-right : (visits_each t && names_rise t) ≡ true
  chain-right =
      sym (walk-all all-walked refl)
      ∙ and_i _ _ (eq-eqb (behind (used_of t) (used_of t)) 0 (behind-none (used_of t) (used_of t) (omega arith)))
      (every_of (used_of t) _ (λ i w. seen-each (used_of t) i (few-rows l.sized) w))

  pub numbered-order : Ordered t (numbered lent (used_of t))
  numbered-order = walk-order all-walked refl

  pub numbered-left : numbered lent (used_of t) ≡ walked_into t lent
  numbered-left = left-all all-walked refl
