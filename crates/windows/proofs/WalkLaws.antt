-- The walk along a window's chain.
use Rattle.std.proofs.Common.{Some, None}
use mathlib.Core.Path.{◌≡◌, refl, sym, ◌∙◌, ap, ap₂, fun_ext}
use mathlib.Core.Bool.{Bool, true, false, cond, ◌&&◌, ◌||◌}
use mathlib.Core.List.{List, [], ◌∷◌, ◌++◌, append-nil, append_assoc}
use Prim.Native.Nat.{ℕ, suc, ◌+◌, ◌-◌, ◌≤◌, ◌<◌}
use native.Mathlib.Omega.{arith}
use lib.Dec.{eqb, leb}
use lib.ListN.{length, length-append}
use borrow.Author.Tests.{leb-true, le-leb, lt-leb}
use Rattle.bools.proofs.BoolLaws.{and_l, and_r, or_l}
use Rattle.sets.specs.Upto.{Within, every, among}
use Rattle.sets.specs.Sets.{has, gaining}
use Rattle.sets.proofs.UptoLaws.{every-at}
use Rattle.sets.proofs.RisingLaws.{among-head}
use Rattle.sets.proofs.SetLaws.{empty-at, gain-where}
use Rattle.sets.proofs.TestLaws.{eqb_swap}
use Rattle.linking.specs.Linking.{chain}
use Rattle.linking.proofs.PathLaws.{chain-zero, chain-suc}
use Rattle.sets.proofs.EachLaws.{only-those}
use Rattle.window.specs.Windows.{Window, next, path}
use Rattle.windows.specs.Visits.{visits}

among-append : (xs : List ℕ) (x j : ℕ) → among (xs ++ (x ∷ [])) j ≡ (among xs j || eqb x j)
unfolding among
among-append [] x j = refl
among-append (y ∷ ys) x j = ap (λ (b : Bool). b || eqb y j) (among-append ys x j) ∙ swap (among ys j) (eqb x j) (eqb y j)
  where
    swap : (a b c : Bool) → ((a || b) || c) ≡ ((a || c) || b)
    swap true b c = refl
    swap false true true = refl
    swap false true false = refl
    swap false false true = refl
    swap false false false = refl

pub among-mid : (xs : List ℕ) (x : ℕ) (ys : List ℕ) → among (xs ++ (x ∷ ys)) x ≡ true
unfolding among
among-mid [] x ys = among-head x ys
among-mid (y ∷ xs) x ys = or_l _ (eqb y x) (among-mid xs x ys)

-- `count` records were passed: `seen` are they; `to` is to come (0 where the chain has ended)
pub record Passed (w : Window) (seen : ℕ → Bool) (count to : ℕ) : Type 0 where
  pub before : List ℕ
  pub long : length before ≡ count
  pub few : count ≤ 17
  pub members : among before ≡ seen
  pub whole : before ++ chain (next w) (17 - count) to ≡ path w

pub passed_none : (w : Window) → Passed w (has 0) 0 w.oldest
unfolding path among
passed_none w = record { before = []; long = refl; few = omega arith; members = fun_ext (λ j. sym (empty-at j)); whole = refl }

module _ {w : Window} {seen : ℕ → Bool} {count to : ℕ} (p : Passed w seen count to) where
  goes_on : count ≤ 16 → 1 ≤ to → chain (next w) (17 - count) to ≡ to ∷ chain (next w) (17 - (count + 1)) (next w to)
  goes_on h r = let n : 17 - count ≡ suc (17 - (count + 1)) = omega arith in ap (λ (k : ℕ). chain (next w) k to) n ∙ chain-suc (next w) (17 - (count + 1)) to r

  pub passed-more : (more : ℕ → Bool) (after : ℕ) → count ≤ 16 → Within 16 to → more ≡ gaining seen to → after ≡ next w to → Passed w more (count + 1) after
  passed-more more after h v g e = record {
    before = p.before ++ (to ∷ []);
    long = length-append p.before (to ∷ []) ∙ omega (arith, p.long);
    few = omega arith;
    members = fun_ext (λ j. among-append p.before to j ∙ ap₂ (λ (a b : Bool). a || b) (ap (λ (f : ℕ → Bool). f j) p.members) (eqb_swap to j)) ∙ sym (g ∙ gain-where seen to true (omega arith));
    whole = append_assoc p.before (to ∷ []) (chain (next w) (17 - (count + 1)) after)
        ∙ ap (λ (l : List ℕ). p.before ++ l) (ap (λ (k : ℕ). to ∷ chain (next w) (17 - (count + 1)) k) e ∙ sym (goes_on h v.0)) ∙ p.whole;
  }

  -- the chain has ended
  ended : to ≡ 0 → path w ≡ p.before
  ended z = sym p.whole ∙ ap (λ (k : ℕ). p.before ++ chain (next w) (17 - count) k) z ∙ ap (λ (l : List ℕ). p.before ++ l) (chain-zero (next w) (17 - count)) ∙ append-nil p.before

  pub at-end : to ≡ 0 → count ≤ 16 → cond (every count seen) (Some count) None ≡ cond (visits w) (Some (length (path w))) None
  unfolding visits
  at-end z h =
      let n : length (path w) ≡ count = ap length (ended z) ∙ p.long in
      let m : among (path w) ≡ seen = ap among (ended z) ∙ p.members in
      rw (n, m, le-leb count 16 h)

  -- an index that is none of the 16
  pub at_none : 16 < to → count ≤ 16 → None ≡ cond (visits w) (Some (length (path w))) None
  unfolding visits
  at_none h g = go (leb (length (path w)) 16 && every (length (path w)) (among (path w))) refl
    where
      there : among (path w) to ≡ true
      there = rw (← p.whole, goes_on g (omega arith)) (among-mid p.before to (chain (next w) (17 - (count + 1)) (next w to)))

      go : (b : Bool) → (leb (length (path w)) 16 && every (length (path w)) (among (path w))) ≡ b → None ≡ cond b (Some (length (path w))) None
      go false e = refl
      go true e =
          let v = only-those (length (path w)) (path w) refl (every-at (length (path w)) _ (and_r (leb (length (path w)) 16) _ e)) to there in
          absurd (omega (arith, v, leb-true (length (path w)) 16 (and_l _ _ e)))

  -- more than there are
  pub at_most : 17 ≤ count → None ≡ cond (visits w) (Some (length (path w))) None
  unfolding visits
  at_most h =
      let n : 16 < length (path w) = omega (arith, p.long, ap length p.whole, length-append p.before (chain (next w) (17 - count) to)) in
      rw (lt-leb (length (path w)) 16 n)
