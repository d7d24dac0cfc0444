-- The questions before the poll, as the code puts them.
use mathlib.Core.Path.{◌≡◌, refl, sym, ◌∙◌, ap, ap₂}
use mathlib.Core.Bool.{Bool, true, false, cond, ◌&&◌}
use mathlib.Core.List.{List, [], ◌∷◌}
use Prim.Native.Nat.{ℕ, ◌+◌, ◌*◌, ◌^◌, ◌≤◌}
use native.Mathlib.Omega.{arith}
use lib.Dec.{eqb, leb}
use borrow.Author.Tests.{leb-true, le-leb, ne_eqb}
use Rattle.sets.specs.Upto.{Within}
use Rattle.sets.specs.Sets.{has}
use Rattle.bools.proofs.BoolLaws.{and_l, and_r, and_i, same_test}
use Rattle.fields.specs.Layout.{used_of, files_of}
use Rattle.table.specs.WellFormed.{only_rows, well_formed}
use Rattle.asking.specs.Asking.{Question, first_no, before}
use Rattle.sheet.specs.Sheet.{sheet_right}
use Rattle.quorums.specs.declared.Kind.{Kind}
use Rattle.protocol.specs.Calls.{Call, questions, by_coordinator, is_used, in_group, in_file, called_by, noted, from_six, called_after, lent, outcome, result_of, lent_sheet}
use Rattle.asking.proofs.AskingLaws.{yes-first, no-first, asked-more}
use Rattle.protocol.proofs.QuestionLaws.{ByCoordinator, group-is, passed_first, early-is, refusal_is, called_is, when-refused, after_three}
use Rattle.questions.specs.Stages.{to_range, Ranged, a_read, a_write}

pub range-test : (file offset count : ℕ) (b : Bool) → (b ≡ true → (1 ≤ count) × (offset + count ≤ file)) → (1 ≤ count → offset + count ≤ file → b ≡ true)
    → b ≡ (leb 1 count && leb (offset + count) file)
range-test file offset count b f g =
    same_test b (leb 1 count && leb (offset + count) file) (λ e. and_i (leb 1 count) _ (le-leb _ _ (f e).0) (le-leb _ _ (f e).1))
    (λ e. g (leb-true 1 count (and_l _ _ e)) (leb-true (offset + count) file (and_r (leb 1 count) _ e)))

module _ (t : List ℕ) (c r : ℕ) where
  -- question 1, and 2 and 3 after it, by their answers
  pub not-formed : (qs : List Question) → well_formed t ≡ false → 1 ≡ first_no (by_coordinator t c r qs)
  unfolding first_no by_coordinator
  not-formed qs e = rw e

  pub by-answers : (y z : Bool) → well_formed t ≡ true → (is_used t c && only_rows (used_of t) r) ≡ y → has r c ≡ z → cond y (cond z 0 3) 2 ≡ first_no (by_coordinator t c r [])
  unfolding first_no by_coordinator
  by-answers y z w ey ez = rw (w, ey, ez) refl

  module _ (q offset count : ℕ) where
    pub range-one : well_formed t ≡ false → 1 ≡ first_no (to_range t q c r offset count)
    unfolding to_range
    range-one e = not-formed _ e

    pub range-no : (n : ℕ) → n ≡ first_no (by_coordinator t c r []) → 1 ≤ n → n ≡ first_no (to_range t q c r offset count)
    unfolding to_range by_coordinator
    range-no n e h = e ∙ sym (asked-more (by_coordinator t c r []) (record { ask = 16; yes = in_group t q } ∷ record { ask = 4; yes = in_file t offset count } ∷ []) (omega (arith, e)))

    pub range-yes : (a b : Bool) → first_no (by_coordinator t c r []) ≡ 0 → a ≡ in_group t q → b ≡ in_file t offset count → cond a (cond b 0 4) 16 ≡ first_no (to_range t q c r offset count)
    unfolding to_range first_no
    range-yes a b h d e = ap₂ (λ (x y : Bool). cond x (cond y 0 4) 16) d e ∙ sym ((passed_first t c r [] h).2 _)

    -- what passed them
    pub range-passed : first_no (to_range t q c r offset count) ≡ 0 → ByCoordinator t c r × Within (files_of t) q × (in_file t offset count ≡ true)
    unfolding to_range
    range-passed h =
        let a = passed_first t c r _ h in
        let b = yes-first 15 (in_group t q) _ a.1 in
        (a.0, group-is t q b.0, (yes-first 3 (in_file t offset count) [] b.1).0)

    -- and what comes after them is all that is still asked
    pub after-range : (qs : List Question) → first_no (to_range t q c r offset count) ≡ 0
        → first_no (by_coordinator t c r (record { ask = 16; yes = in_group t q } ∷ record { ask = 4; yes = in_file t offset count } ∷ qs)) ≡ first_no qs
    unfolding to_range
    after-range qs h =
        let a = passed_first t c r _ h in
        let b = yes-first 15 (in_group t q) _ a.1 in
        a.2 _ ∙ no-first 16 (in_group t q) _ b.0 ∙ no-first 4 (in_file t offset count) qs (yes-first 3 (in_file t offset count) [] b.1).0

    pub before-range : (qs : List Question) (n : ℕ) → n ≡ first_no (to_range t q c r offset count) → 1 ≤ n
        → first_no (by_coordinator t c r (record { ask = 16; yes = in_group t q } ∷ record { ask = 4; yes = in_file t offset count } ∷ qs)) ≡ n
    unfolding to_range by_coordinator
    before-range qs n e h =
        asked-more (by_coordinator t c r (record { ask = 16; yes = in_group t q } ∷ record { ask = 4; yes = in_file t offset count } ∷ [])) qs (omega (arith, e)) ∙ sym e

-- ---- how many machines were called, noted from question 6 on
-- all that is asked before it
abbrev to_five : List ℕ → ℕ → ℕ → ℕ → ℕ → ℕ → Bool → List Question
to_five t q c r offset count five =
    by_coordinator t c r (record { ask = 16; yes = in_group t q } ∷ record { ask = 4; yes = in_file t offset count } ∷ record { ask = 5; yes = five } ∷ [])

before-six : {k : Call} {kind : Kind} {q c r offset count : ℕ} {bytes : List ℕ} {five : Bool} (t : List ℕ) → Ranged k kind q c r offset count bytes five
    → first_no (before 6 (questions t k)) ≡ first_no (to_five t q c r offset count five)
unfolding questions before
before-six t a_read = ap first_no (early-is t _ _ _ 6 (omega arith))
before-six t (a_write {a} right) = no-first 1 (sheet_right a.sheet) (before 6 (by_coordinator t a.c a.r (after_three t a))) right ∙ ap first_no (early-is t a.c a.r (after_three t a) 6 (omega arith))

after_call : {k : Call} {kind : Kind} {q c r offset count : ℕ} {bytes : List ℕ} {five : Bool} (t : List ℕ) → Ranged k kind q c r offset count bytes five
    → called_after t k ≡ noted bytes (from_six (questions t k) (called_by kind t q c r))
unfolding called_after
after_call t a_read = refl
after_call t (a_write right) = refl

module _ {k : Call} {kind : Kind} {q c r offset count : ℕ} {bytes : List ℕ} {five : Bool} (t : List ℕ) (x : Ranged k kind q c r offset count bytes five) where
  -- the byte after the call, by the first no before 6
  noted-is : (n : ℕ) → first_no (to_five t q c r offset count five) ≡ n → noted bytes (cond (eqb n 0) (called_by kind t q c r) 0) ≡ (outcome t k).called
  unfolding from_six
  noted-is n e = sym (called_is t k ∙ after_call t x ∙ ap (λ (m : ℕ). noted bytes (cond (eqb m 0) (called_by kind t q c r) 0)) (before-six t x ∙ e))

  -- 0 where 1 to 4, 16 or 5 is no
  pub called-early : (n : ℕ) → n ≡ first_no (to_range t q c r offset count) → 1 ≤ n → noted bytes 0 ≡ (outcome t k).called
  called-early n e h = ap (λ (b : Bool). noted bytes (cond b (called_by kind t q c r) 0)) (sym (ne_eqb n 0 (λ z. omega arith))) ∙ noted-is n (before-range t c r q offset count _ n e h)

  module _ (p : first_no (to_range t q c r offset count) ≡ 0) where
    pub called-long : five ≡ false → noted bytes 0 ≡ (outcome t k).called
    unfolding first_no
    called-long d = noted-is 5 (after-range t c r q offset count _ p ∙ ap (λ (b : Bool). cond b 0 5) d)

    pub called-by : five ≡ true → (n : ℕ) → n ≡ called_by kind t q c r → noted bytes n ≡ (outcome t k).called
    unfolding first_no
    called-by l n e = ap (noted bytes) e ∙ noted-is 0 (after-range t c r q offset count _ p ∙ ap (λ (b : Bool). cond b 0 5) l)

-- a refusal's result, and what it leaves
pub record Refused (t : List ℕ) (k : Call) (n : ℕ) : Type 0 where
  pub result : n * 2 ^ 32 + 0 ≡ result_of (outcome t k)
  pub table : t ≡ (outcome t k).table
  pub buffer : lent k ≡ (outcome t k).buffer
  pub sheet : lent_sheet k ≡ (outcome t k).sheet

pub refused-is : (t : List ℕ) (k : Call) (n : ℕ) → first_no (questions t k) ≡ n → 1 ≤ n → Refused t k n
unfolding result_of
refused-is t k n e h =
    let r : (outcome t k).refusal ≡ n = refusal_is t k ∙ e in
    let w = when-refused t k (λ z. omega arith) in
    record { result = sym (ap₂ (λ (x y : ℕ). x * 2 ^ 32 + y) r w.0); table = sym w.1; buffer = sym w.2; sheet = sym w.3 }

-- questions 6 and 7 by the first no among them, and what is asked after them
pub no-in : (q k : Bool) (x n : ℕ) → n ≡ cond q (cond k 0 7) 6 → 1 ≤ n → cond q (cond k x 7) 6 ≡ n
no-in true true x n e h = absurd (omega arith)
no-in true false x n e h = sym e
no-in false k x n e h = sym e

pub yes-in : (q k : Bool) (x n : ℕ) → n ≡ cond q (cond k 0 7) 6 → n ≡ 0 → cond q (cond k x 7) 6 ≡ x
yes-in true true x n e h = refl
yes-in true false x n e h = absurd (omega arith)
yes-in false k x n e h = absurd (omega arith)
