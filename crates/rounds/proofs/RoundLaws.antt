-- The turns of a round come to the round; question 1 asked once stands for that of every order.
use mathlib.Core.Path.{◌≡◌, refl, sym, ◌∙◌, ap}
use mathlib.Core.Bool.{Bool, true, false, cond}
use mathlib.Core.Logic.{◌⊎◌, inl, inr}
use mathlib.Core.List.{List, [], ◌∷◌}
use Prim.Native.Nat.{ℕ, suc, ◌≤◌, ◌<◌, ◌+◌}
use native.Mathlib.Nat.{zero-add}
use native.Mathlib.Numerals.{add-one}
use native.Mathlib.Decide.{ℕ_discrete}
use native.Mathlib.Omega.{arith}
use borrow.Author.Tests.{lt-ltb, eq-eqb, ne_eqb}
use lib.Dec.{eqb}
use lib.ListN.{length, get_or, drop}
use lib.Seq.{drop-cons, drop-length}
use Rattle.table.specs.WellFormed.{well_formed}
use Rattle.asking.specs.Asking.{first_no, result_number}
use Rattle.sheet.specs.Sheet.{sheet_right}
use Rattle.protocol.specs.Calls.{Outcome, write, outcome, questions, by_coordinator, lent_sheet}
use Rattle.protocol.proofs.QuestionLaws.{refusal_is, when-refused}
use Rattle.ordering.specs.declared.Order.{Order}
use Rattle.ordering.specs.Rounds.{writing, Round, round_from, empty_questions, none_done, round_of}
use Rattle.orders.specs.Turns.{Run, stepped, turn, first_questions}
use Rattle.orders.proofs.OrderLaws.{run, same-run, step-refused, step-65, step-done, step-stop}

-- the orders in turn
unfoldable pub after : ℕ → Run → List Order → Run
after r x [] = x
after r x (o ∷ os) = after r (turn r x o) os

-- before the first of n orders
unfoldable pub opened : ℕ → List ℕ → List ℕ → ℕ → Run
opened r t s n = run (result_number (first_no (first_questions t s r n)) 0) t s

-- ---- the orders from place i on still to come
pub after-turn : (r : ℕ) (x y : Run) (ys : List Order) (i : ℕ) (past : Order) → i < length ys → y ≡ turn r x (get_or ys i past) → after r y (drop (i + 1) ys) ≡ after r x (drop i ys)
unfolding after
after-turn r x y ys i past h e = rw (add-one i, drop-cons ys i past h, e)

pub after-all : (r : ℕ) (x : Run) (ys : List Order) (i : ℕ) → i ≡ length ys → x ≡ after r x (drop i ys)
unfolding after
after-all r x ys i e = rw (e, drop-length ys)

-- ---- the turns come to the round
abbrev pub told : Round → Run
told x = run (result_number x.refusal x.value) x.table x.sheet

-- nothing after a refusal
pub after-stays : (r n : ℕ) (t s : List ℕ) (os : List Order) → 64 < n → after r (run n t s) os ≡ run n t s
unfolding after turn
after-stays r n t s [] h = refl
after-stays r n t s (o ∷ os) h = ap (λ (x : Run). after r x os) (sym (step-refused (writing r s o) t s n h)) ∙ after-stays r n t s os h

-- the write that an order stands for, made
abbrev made : List ℕ → List ℕ → ℕ → Order → Outcome
made t s r o = outcome t (write (writing r s o))

after-from : (t s : List ℕ) (r n : ℕ) (os : List Order) → n ≤ 64 → after r (run n t s) os ≡ told (round_from t s r n os)
unfolding after turn round_from
after-from t s r n [] h = same-run (sym (zero-add n)) refl refl
after-from t s r n (o ∷ os) h = go (ℕ_discrete n 64) (ℕ_discrete (made t s r o).refusal 0) (λ l. after-from (made t s r o).table (made t s r o).sheet r (suc n) os l)
  where
    go : Dec (n ≡ 64) → Dec ((made t s r o).refusal ≡ 0)
        → (suc n ≤ 64 → after r (run (suc n) (made t s r o).table (made t s r o).sheet) os ≡ told (round_from (made t s r o).table (made t s r o).sheet r (suc n) os))
        → after r (stepped (run n t s) (writing r s o)) os ≡ told (cond (eqb n 64) (record { refusal = 4; value = n; table = t; sheet = s })
        (cond (eqb (made t s r o).refusal 0) (round_from (made t s r o).table (made t s r o).sheet r (suc n) os)
        (record { refusal = (made t s r o).refusal; value = n; table = (made t s r o).table; sheet = (made t s r o).sheet })))
    go (yes e) d ih =
        rw (eq-eqb n 64 e)
        (ap (λ (x : Run). after r x os) (sym (step-65 (writing r s o) t s n e)) ∙ after-stays r (result_number 4 64) t s os (omega arith) ∙ same-run (ap (result_number 4) (sym e)) refl refl)
    go (no d) (yes e) ih =
        rw (ne_eqb n 64 d, eq-eqb (made t s r o).refusal 0 e)
        (ap (λ (x : Run). after r x os) (sym (step-done (writing r s o) t s n _ _ _ (omega arith) (refl, refl, refl) e) ∙ same-run (add-one n) refl refl) ∙ ih (omega arith))
    go (no d) (no e) ih =
        rw (ne_eqb n 64 d, ne_eqb (made t s r o).refusal 0 e)
        (ap (λ (x : Run). after r x os) (sym (step-stop (writing r s o) t s n _ _ _ (omega arith) (refl, refl, refl) e)) ∙ after-stays r _ _ _ os (omega arith))

-- ---- question 1, once
-- where it is no, the first order is refused by 1
first-refused : (t s : List ℕ) (r : ℕ) (o : Order) (os : List Order) → (made t s r o).refusal ≡ 1 → run (result_number 1 0) t s ≡ told (round_from t s r 0 (o ∷ os))
unfolding round_from lent_sheet writing
first-refused t s r o os e =
    let w = when-refused t (write (writing r s o)) (λ z. omega (arith, e, z)) in
    rw e (same-run refl (sym w.1) (sym w.3))

refused-by-1 : (t s : List ℕ) (r : ℕ) (o : Order) → ((sheet_right s ≡ false) ⊎ (well_formed t ≡ false)) → (made t s r o).refusal ≡ 1
unfolding questions by_coordinator first_no writing
refused-by-1 t s r o h = refusal_is t (write (writing r s o)) ∙ go (sheet_right s) refl h
  where
    go : (b : Bool) → sheet_right s ≡ b → ((sheet_right s ≡ false) ⊎ (well_formed t ≡ false)) → first_no (questions t (write (writing r s o))) ≡ 1
    go false e h = rw e
    go true e (inl f) = rw f
    go true e (inr f) = rw (e, f)

pub after_is : (t s : List ℕ) (r : ℕ) (os : List Order) → after r (opened r t s (length os)) os ≡ told (round_of t s r os)
unfolding after opened round_of none_done first_questions empty_questions first_no
after_is t s r [] = refl
after_is t s r (o ∷ os) = go (sheet_right s) (well_formed t) refl refl
  where
    stops : ((sheet_right s ≡ false) ⊎ (well_formed t ≡ false)) → after r (run (result_number 1 0) t s) (o ∷ os) ≡ told (round_from t s r 0 (o ∷ os))
    stops h = after-stays r (result_number 1 0) t s (o ∷ os) (omega arith) ∙ first-refused t s r o os (refused-by-1 t s r o h)

    go : (b c : Bool) → sheet_right s ≡ b → well_formed t ≡ c → after r (opened r t s (suc (length os))) (o ∷ os) ≡ told (round_from t s r 0 (o ∷ os))
    go true true e f = rw (e, f, lt-ltb 0 (suc (length os)) (omega arith)) (after-from t s r 0 (o ∷ os) (omega arith))
    go true false e f = rw (e, f) (stops (inr f))
    go false c e f = rw e (stops (inl e))

-- where nothing is refused before the first order, they come to it from there; where something is, that is all
pub after-none : (t s : List ℕ) (r : ℕ) (os : List Order) → 0 ≡ first_no (first_questions t s r (length os)) → after r (run 0 t s) os ≡ told (round_of t s r os)
unfolding opened
after-none t s r os e = ap (λ (k : ℕ). after r (run (result_number k 0) t s) os) e ∙ after_is t s r os

pub refused-first : (t s : List ℕ) (r : ℕ) (os : List Order) (k : ℕ) → k ≡ first_no (first_questions t s r (length os)) → 1 ≤ k → run (result_number k 0) t s ≡ told (round_of t s r os)
unfolding opened
refused-first t s r os k e h = sym (after-stays r (result_number k 0) t s os (omega arith)) ∙ ap (λ (m : ℕ). after r (run (result_number m 0) t s) os) e ∙ after_is t s r os
