-- Smallest write quorums, and the chart of them, of any grid and any length.
use mathlib.Core.Path.{◌≡◌, refl, sym, ◌∙◌, ap}
use mathlib.Core.Bool.{Bool, true, false, not, ◌&&◌, ◌||◌}
use Prim.Native.Nat.{ℕ, zero, suc, ◌+◌, ◌-◌, ◌^◌, ◌≤◌}
use native.Mathlib.Nat.{zero-add}
use native.Mathlib.Omega.{arith}
use lib.Dec.{eqb, ltb}
use lib.Pow.{pow_pos}
use borrow.Author.Tests.{not-true, eq-eqb, eqb-true, le-leb, lt-ltb}
use Rattle.bools.proofs.BoolLaws.{and_l, and_r, and_i, clash, same_test}
use Rattle.sets.specs.Upto.{Within, some, count, upward, keep, rises_from}
use Rattle.sets.specs.Sets.{has, losing}
use Rattle.sets.proofs.UptoLaws.{every-at, every_of, some_at, count-ext}
use Rattle.sets.proofs.TestLaws.{none-at}
use Rattle.sets.proofs.CountLaws.{count-gain, count-one}
use Rattle.sets.proofs.SetLaws.{empty-at, has_within, stored}
use Rattle.sets.proofs.RisingLaws.{keep-among, keep-rises, upward-among, upward-rises}
use Rattle.grid.specs.declared.Grid.{Grid}
use Rattle.quorums.specs.declared.Kind.TheVariants.{Write}
use Rattle.quorums.specs.Quorums.{quorum}
use Rattle.quorums.proofs.QuorumLaws.{inhabited, grows}
use Rattle.charting.specs.Charts.{smallest, chart}
use Rattle.charting.specs.Claims.{ChartIs, ChartRises, MoreMembers, HoldsCharted}

-- ---- the numbers of a chart
pub chart-is : ChartIs
unfolding ChartIs chart
chart-is g N x =
    keep-among (λ y. smallest g N (has y)) (upward (2 ^ N) 0) x ∙ rw (upward-among (2 ^ N) 0 x, le-leb 0 x (omega arith), zero-add (2 ^ N))

module _ (g : Grid) (N : ℕ) where
  -- a smallest write quorum is one
  pub smallest-writes : (held : ℕ → Bool) → smallest g N held ≡ true → quorum Write g N held ≡ true
  unfolding smallest
  smallest-writes held e = and_l _ _ e

  -- and stops being one when any member is taken out
  pub stops : (held : ℕ → Bool) → smallest g N held ≡ true → (k : ℕ) → Within N k → held k ≡ true → quorum Write g N (losing held k) ≡ false
  unfolding smallest
  stops held e k w h = not-true _ (sym (rw h) ∙ every-at N _ (and_r (quorum Write g N held) _ e) k w)

  pub smallest-of : (held : ℕ → Bool) → quorum Write g N held ≡ true → ((k : ℕ) → Within N k → held k ≡ true → quorum Write g N (losing held k) ≡ false) → smallest g N held ≡ true
  unfolding smallest
  smallest-of held q f = and_i (quorum Write g N held) _ q (every_of N _ (λ k w. go k w (held k) refl))
    where
      go : (k : ℕ) → Within N k → (b : Bool) → held k ≡ b → not (b && quorum Write g N (losing held k)) ≡ true
      go k w true h = rw (f k w h)
      go k w false h = refl

  -- the empty set is none
  none-empty : smallest g N (has 0) ≡ false
  none-empty = same_test _ false (λ e.
      let r = inhabited g N Write (has 0) (smallest-writes (has 0) e) in sym (empty-at r.0) ∙ r.2) (λ e. absurd (clash e))

pub chart-rises : ChartRises
unfolding ChartRises chart keep upward
chart-rises g N =
    let e : 2 ^ N ≡ suc (2 ^ N - 1) = omega (arith, pow_pos N) in
    ap (λ (k : ℕ). rises_from 0 (λ x. x) (keep (λ y. smallest g N (has y)) (upward k 0))) e
    ∙ from_one (2 ^ N - 1)
  where
    from_one : (k : ℕ) → rises_from 0 (λ x. x) (keep (λ y. smallest g N (has y)) (upward (suc k) 0)) ≡ true
    from_one k = rw (none-empty g N) (keep-rises (λ x. x) (λ y. smallest g N (has y)) 0 (upward k 1) (upward-rises k 1 0 (omega arith)))

pub more-members : MoreMembers
unfolding MoreMembers
more-members g N s t e sub = grows g N s t sub Write (smallest-writes g N s e)

-- ---- every write quorum holds one of the chart
-- s with its member k is what is left without it, and k
lose-gain : (s : ℕ → Bool) (k i : ℕ) → s k ≡ true → s i ≡ (losing s k i || (true && eqb i k))
unfolding losing
lose-gain s k i h = go (eqb i k) refl (s i) refl
  where
    go : (b : Bool) → eqb i k ≡ b → (a : Bool) → s i ≡ a → s i ≡ ((s i && not b) || b)
    go true e a f = let y : s i ≡ true = ap s (eqb-true i k e) ∙ h in rw y
    go false e true f = rw f
    go false e false f = rw f

pub lost : (s : ℕ → Bool) (k : ℕ) → losing s k k ≡ false
unfolding losing
lost s k = rw (eq-eqb k k refl) (go (s k))
  where
    go : (a : Bool) → (a && false) ≡ false
    go true = refl
    go false = refl

pub lose-part : (s : ℕ → Bool) (k i : ℕ) → losing s k i ≡ true → s i ≡ true
unfolding losing
lose-part s k i e = and_l _ _ e

module _ (g : Grid) (N : ℕ) where
  -- a set of 1 to N goes by its members there
  module _ (s t : ℕ → Bool) (same : (k : ℕ) → Within N k → s k ≡ t k) where
    quorum-ext : quorum Write g N s ≡ quorum Write g N t
    quorum-ext = same_test _ _ (grows g N s t (λ k w e. sym (same k w) ∙ e) Write) (grows g N t s (λ k w e. same k w ∙ e) Write)

  same-smallest : (s t : ℕ → Bool) → ((k : ℕ) → Within N k → s k ≡ t k) → smallest g N s ≡ true → smallest g N t ≡ true
  unfolding losing
  same-smallest s t same e = smallest-of g N t (sym (quorum-ext s t same) ∙ smallest-writes g N s e) (λ k w h.
      sym (quorum-ext (losing s k) (losing t k) (λ i v. ap (λ (a : Bool). a && not (eqb i k)) (same i v))) ∙ stops g N s e k w (same k w ∙ h))

  -- members are taken out one by one as long as a write quorum is left
  reduced : (n : ℕ) (s : ℕ → Bool) → count N s ≤ n → quorum Write g N s ≡ true
      → (t : ℕ → Bool) × (smallest g N t ≡ true) × ((k : ℕ) → t k ≡ true → s k ≡ true)
  reduced zero s few q = let r = inhabited g N Write s q in absurd (omega (arith, count-one N s r.0 r.1 r.2))
  reduced (suc n) s few q = go (some N (λ k. s k && quorum Write g N (losing s k))) refl (reduced n)
    where
      go : (b : Bool) → some N (λ k. s k && quorum Write g N (losing s k)) ≡ b
          → ((s : ℕ → Bool) → count N s ≤ n → quorum Write g N s ≡ true → (t : ℕ → Bool) × (smallest g N t ≡ true) × ((k : ℕ) → t k ≡ true → s k ≡ true))
          → (t : ℕ → Bool) × (smallest g N t ≡ true) × ((k : ℕ) → t k ≡ true → s k ≡ true)
      go true e ih =
          let r = some_at N _ e in
          let k = r.0 in
          let in-s : s k ≡ true = and_l _ _ r.2 in
          let left : quorum Write g N (losing s k) ≡ true = and_r (s k) _ r.2 in
          let size : count N s ≡ count N (losing s k) + 1 = count-ext N s _ (λ i w. lose-gain s k i in-s) ∙ count-gain N (losing s k) k true r.1 (lost s k) in
          let t = ih (losing s k) (omega arith) left in
          (t.0, t.1, λ i m. lose-part s k i (t.2 i m))
      go false e ih = (s, smallest-of g N s q (λ k w h. sym (rw h) ∙ none-at N (λ i. s i && quorum Write g N (losing s i)) e k w), λ k m. m)

pub holds-charted : HoldsCharted
unfolding HoldsCharted ChartIs
holds-charted g N held q =
    let r = reduced g N (count N held) held (omega arith) q in
    let x = stored N r.0 in
    let so : smallest g N (has x.0) ≡ true = same-smallest g N r.0 (has x.0) (λ k w. sym (x.2 k w)) r.1 in (
      x.0,
      chart-is g N x.0 ∙ and_i (ltb x.0 (2 ^ N)) _ (lt-ltb x.0 (2 ^ N) x.1) so,
      λ k m.
          r.2 k (sym (x.2 k (has_within N x.0 k x.1 m)) ∙ m),
    )
