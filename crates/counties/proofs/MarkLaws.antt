-- The rule of marks, in wide and in tall tables.
use mathlib.Core.Path.{◌≡◌, refl, sym, ◌∙◌}
use mathlib.Core.Bool.{Bool, true, false, cond, ◌||◌}
use mathlib.Core.Logic.{◌⊎◌, inl, inr, ⊎_elim}
use Prim.Native.Nat.{ℕ, ◌^◌, ◌≤◌, ◌<◌}
use native.Mathlib.Omega.{arith}
use lib.Dec.{eqb}
use borrow.Author.Tests.{eqb-true, ne_eqb}
use Rattle.bools.proofs.BoolLaws.{or-e, clash}
use Rattle.sets.specs.Upto.{every, count}
use Rattle.sets.specs.Sets.{has}
use Rattle.sets.proofs.UptoLaws.{every-at}
use Rattle.sets.proofs.TestLaws.{none-at}
use Rattle.grid.specs.Sizes.{mark_fits, new_mark}
use Rattle.grid.proofs.SizeLaws.{mark-low, new-mark-fits, new-mark-small, new-mark-tall}
use Rattle.fields.specs.declared.Laid.{Laid}
use Rattle.fields.specs.Layout.{is_empty, is_tall}
use Rattle.counties.specs.Counties.{several}
use Rattle.counties.specs.Marks.{mark_now, laid_now, mark_right, tall_table, tall_right}
use Rattle.counties.specs.Claims.{RuleOfMarks, LaidMarks}

-- a list that is not tall has mark 3 exactly where it is of several counties
three-where : (county : ℕ → ℕ) (l : Laid) → mark_right county l ≡ true → is_tall l ≡ false → eqb l.mark 3 ≡ several county (has l.members)
unfolding mark_right is_tall
three-where county l h wide = go (several county (has l.members)) h
  where
    go : (b : Bool) → cond b (eqb l.mark 3 || eqb l.mark 2) (mark_fits l.mark (count 64 (has l.members))) ≡ true → eqb l.mark 3 ≡ b
    go false e = ne_eqb l.mark 3 (λ z. omega (arith, z, mark-low l.mark _ e))
    go true e = ⊎_elim (λ d. d) (λ d. absurd (clash (sym wide ∙ d))) (or-e (eqb l.mark 3) _ e)

pub rule-of-marks : RuleOfMarks
unfolding RuleOfMarks tall_table tall_right is_tall
rule-of-marks county n lists right table i w = record {
  wide = λ none. three-where county (lists i) (right i w) (none-at n (λ k. eqb (lists k).mark 2) none i w);
  tall = λ some-tall full.
      let every_one : (false || every n (λ k. is_empty (lists k) || eqb (lists k).mark 2)) ≡ true = rw some-tall at table in
      let here : (is_empty (lists i) || eqb (lists i).mark 2) ≡ true = every-at n (λ k. is_empty (lists k) || eqb (lists k).mark 2) every_one i w in
      eqb-true (lists i).mark 2 (rw full at here);
}

-- ---- the mark of a list laid now: 3, or as within one county
pub mark-either : (tall is_several : Bool) (N : ℕ) → (mark_now tall is_several N ≡ 3) ⊎ (mark_now tall is_several N ≡ new_mark tall N)
unfolding mark_now new_mark
mark-either true true N = inr refl
mark-either false true N = inl refl
mark-either tall false N = inr refl

pub mark-small : (tall is_several : Bool) (N : ℕ) → mark_now tall is_several N < 256 ^ 1
mark-small tall is_several N = ⊎_elim (λ e. rw e (omega arith)) (λ e. rw e (new-mark-small tall N)) (mark-either tall is_several N)

mark-tall : (tall is_several : Bool) (N : ℕ) → eqb (mark_now tall is_several N) 2 ≡ tall
unfolding mark_now
mark-tall true true N = refl
mark-tall false true N = refl
mark-tall tall false N = new-mark-tall tall N

mark-right : (tall is_several : Bool) (N : ℕ) → 1 ≤ N
    → cond is_several (eqb (mark_now tall is_several N) 3 || eqb (mark_now tall is_several N) 2) (mark_fits (mark_now tall is_several N) N) ≡ true
unfolding mark_now
mark-right true true N one = refl
mark-right false true N one = refl
mark-right tall false N one = new-mark-fits tall N one

pub laid-marks : LaidMarks
unfolding LaidMarks mark_right is_tall laid_now
laid-marks tall county r = record { right = mark-right tall (several county (has r)) (count 64 (has r)); shape = mark-tall tall (several county (has r)) (count 64 (has r)) }
