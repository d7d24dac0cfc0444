-- The orders of a list of bytes in turn, and a list that ends inside an order.
use mathlib.Core.Path.{◌≡◌, refl, sym, ◌∙◌, ap}
use mathlib.Core.Bool.{Bool, true, false, cond}
use mathlib.Core.List.{List}
use Prim.Native.Nat.{ℕ, zero, suc, ◌≤◌, ◌<◌, ◌+◌, ◌-◌, ◌*◌, ◌/◌, ◌%◌}
use native.Mathlib.Nat.{sub-zero}
use native.Mathlib.Omega.{arith}
use borrow.Author.Tests.{eq-eqb, ne_eqb}
use lib.Dec.{eqb}
use lib.ListN.{length, take, drop}
use lib.Seq.{drop-drop}
use Rattle.fields.specs.Layout.{used_of}
use Rattle.table.specs.WellFormed.{only_rows, well_formed}
use Rattle.asking.specs.Asking.{first_no, result_number}
use Rattle.sheet.specs.Sheet.{sheet_right}
use Rattle.ordering.specs.Rounds.{Round, empty_questions, none_done, round_of, order_in, orders_in, round_in}
use Rattle.orders.specs.Turns.{Run, turn, first_questions}
use Rattle.orders.proofs.OrderLaws.{run}
use Rattle.rounds.proofs.RoundLaws.{after, opened, told, after-stays, after_is, refused-first}

-- ---- a list that ends inside an order
module _ (t s : List ℕ) (r : ℕ) (xs : List ℕ) (broken : length xs % 16 ≡ 0 → ⊥) (no : ℕ) (e : no ≡ first_no (first_questions t s r 0)) where
  is-broken : round_in t s r xs ≡ none_done t s r false
  unfolding round_in
  is-broken = rw (ne_eqb (length xs % 16) 0 broken)

  -- its questions are those of an empty one, then 4
  then-4 : (a b d : Bool) → (k : ℕ) → k ≡ cond a (cond b (cond d 0 2) 1) 1 → cond a (cond b (cond d 4 2) 1) 1 ≡ cond (eqb k 0) 4 k
  then-4 true true true k e = rw e
  then-4 true true false k e = rw e
  then-4 true false d k e = rw e
  then-4 false b d k e = rw e

  refusal-in : (round_in t s r xs).refusal ≡ cond (eqb no 0) 4 no
  unfolding none_done empty_questions first_questions first_no
  refusal-in = ap (λ (o : Round). o.refusal) is-broken ∙ then-4 (sheet_right s) (well_formed t) (only_rows (used_of t) r) no e

  pub broken-stays : (t ≡ (round_in t s r xs).table) × (s ≡ (round_in t s r xs).sheet)
  unfolding none_done
  broken-stays = (rw is-broken, rw is-broken)

  result-in : (k : ℕ) → cond (eqb no 0) 4 no ≡ k → result_number k 0 ≡ result_number (round_in t s r xs).refusal (round_in t s r xs).value
  unfolding none_done
  result-in k f = ap (λ (m : ℕ). result_number m 0) (sym f ∙ sym refusal-in) ∙ ap (λ (o : Round). result_number (round_in t s r xs).refusal o.value) (sym is-broken)

  pub broken-no : (no ≡ 0 → ⊥) → result_number no 0 ≡ result_number (round_in t s r xs).refusal (round_in t s r xs).value
  broken-no d = result-in no (rw (ne_eqb no 0 d))

  pub broken-yes : no ≡ 0 → result_number 4 0 ≡ result_number (round_in t s r xs).refusal (round_in t s r xs).value
  broken-yes d = result-in 4 (rw (eq-eqb no 0 d))

-- ---- the orders in turn
length-orders : (n : ℕ) (xs : List ℕ) → length (orders_in n xs) ≡ n
unfolding orders_in
length-orders zero xs = refl
length-orders (suc n) xs = ap suc (length-orders n (drop 16 xs))

module _ (t s : List ℕ) (r : ℕ) (xs : List ℕ) (n : ℕ) where
  -- what is left from order i on comes to the round
  pub Left : ℕ → ℕ → List ℕ → List ℕ → Type 0
  Left i sum u v = after r (run sum u v) (orders_in (n - i) (drop (i * 16) xs)) ≡ told (round_of t s r (orders_in n xs))

  pub all_left : (k : ℕ) → k ≡ result_number (first_no (first_questions t s r n)) 0 → Left 0 k t s
  unfolding Left opened
  all_left k e =
      ap (λ (m : ℕ). after r (run k t s) (orders_in m xs)) (sub-zero n)
      ∙ ap (λ (m : ℕ). after r (run m t s) (orders_in n xs)) (e ∙ ap (λ (m : ℕ). result_number (first_no (first_questions t s r m)) 0) (sym (length-orders n xs)))
      ∙ after_is t s r (orders_in n xs)

  pub one_left : (i sum k : ℕ) (u u' v v' : List ℕ) → i < n → Left i sum u v → run k u' v' ≡ turn r (run sum u v) (order_in (take ((i * 16 + 16) - i * 16) (drop (i * 16) xs))) → Left (i + 1) k u' v'
  unfolding Left orders_in after
  one_left i sum k u u' v v' h l e =
      let m : n - i ≡ suc (n - (i + 1)) = omega arith in
      let z : (i + 1) * 16 ≡ i * 16 + 16 = omega arith in
      let d : drop ((i + 1) * 16) xs ≡ drop 16 (drop (i * 16) xs) = ap (λ (x : ℕ). drop x xs) z ∙ sym (drop-drop 16 (i * 16) xs) in
      let w : (i * 16 + 16) - i * 16 ≡ 16 = omega arith in
      rw (d, e, w) (rw m at l)

  -- to the end, or to a refusal
  pub none_left : (i sum : ℕ) (u v : List ℕ) → n ≤ i → Left i sum u v → run sum u v ≡ told (round_of t s r (orders_in n xs))
  unfolding Left orders_in after
  none_left i sum u v h l = let z : n - i ≡ 0 = omega arith in rw z at l

  pub stopped_left : (i sum : ℕ) (u v : List ℕ) → 64 < sum → Left i sum u v → run sum u v ≡ told (round_of t s r (orders_in n xs))
  unfolding Left
  stopped_left i sum u v h l = sym (after-stays r sum u v _ h) ∙ l

  pub refused_left : (k : ℕ) → k ≡ first_no (first_questions t s r n) → 1 ≤ k → run (result_number k 0) t s ≡ told (round_of t s r (orders_in n xs))
  refused_left k e h = refused-first t s r (orders_in n xs) k (e ∙ ap (λ (m : ℕ). first_no (first_questions t s r m)) (sym (length-orders n xs))) h

pub told-in : (t s : List ℕ) (r : ℕ) (xs : List ℕ) (sum : ℕ) (u v : List ℕ) → length xs % 16 ≡ 0 → run sum u v ≡ told (round_of t s r (orders_in (length xs / 16) xs))
    → (sum ≡ result_number (round_in t s r xs).refusal (round_in t s r xs).value) × (u ≡ (round_in t s r xs).table) × (v ≡ (round_in t s r xs).sheet)
unfolding round_in
told-in t s r xs sum u v e l =
    let f : run sum u v ≡ told (round_in t s r xs) = rw (eq-eqb (length xs % 16) 0 e) l in
    (ap (λ (x : Run). x.result) f, ap (λ (x : Run). x.table) f, ap (λ (x : Run). x.sheet) f)
