-- A round, order by order.
use mathlib.Core.Path.{◌≡◌, refl, sym, ◌∙◌, ap, subst}
use mathlib.Core.Bool.{Bool, true, false, cond}
use mathlib.Core.List.{List, [], ◌∷◌, ◌++◌}
use mathlib.Core.Logic.{◌≢◌}
use Prim.Native.Nat.{ℕ, zero, suc, ◌+◌, ◌≤◌}
use native.Mathlib.Omega.{arith}
use native.Mathlib.Decide.{ℕ_discrete}
use lib.Dec.{eqb}
use lib.ListN.{length, take, drop}
use borrow.Author.Tests.{eq-eqb, ne_eqb}
use Rattle.octets.specs.Bytes.{number, part}
use Rattle.protocol.proofs.Unanswered.{first_part}
use Rattle.protocol.specs.Calls.{Writing, Outcome, write, questions, done, lent_sheet, outcome}
use Rattle.protocol.proofs.QuestionLaws.{refusal_is, when-done, when-refused}
use Rattle.ordering.specs.declared.Order.{Order}
use Rattle.ordering.specs.Rounds.{patch_of, writing, Round, round_from, none_done, round_of, order_in}
use Rattle.ordering.specs.Claims.{AnyByte, AtMost64, AllDone, SixtyFifth, Unread, TwoUnread}

-- what an order's write comes to
abbrev pub made : List ℕ → List ℕ → ℕ → Order → Outcome
made t s r o = outcome t (write (writing r s o))

pub any-byte : AnyByte
unfolding AnyByte writing questions done lent_sheet
any-byte t s r x o = go (ℕ_discrete (made t s r o).refusal 0)
  where
    other : Writing
    other = record { c = o.coordinator; r = r; offset = o.offset; patch = patch_of o; called = x ∷ []; file = o.file; sheet = s; club = o.club }

    same : (outcome t (write other)).refusal ≡ (made t s r o).refusal
    same = refusal_is t (write other) ∙ sym (refusal_is t (write (writing r s o)))

    go : Dec ((made t s r o).refusal ≡ 0) → ((made t s r o).refusal ≡ (outcome t (write other)).refusal) × ((made t s r o).table ≡ (outcome t (write other)).table) × ((made t s r o).sheet ≡ (outcome t (write other)).sheet)
    go (yes z) =
        let a = when-done t (write (writing r s o)) z in
        let b = when-done t (write other) (same ∙ z) in
        (sym same, ap (λ (y : Outcome). y.table) a ∙ sym (ap (λ (y : Outcome). y.table) b), ap (λ (y : Outcome). y.sheet) a ∙ sym (ap (λ (y : Outcome). y.sheet) b))
    go (no d) =
        let a = when-refused t (write (writing r s o)) d in
        let b = when-refused t (write other) (λ z. d (sym same ∙ z)) in
        (sym same, a.1 ∙ sym b.1, a.3 ∙ sym b.3)

-- ---- a way to show Q of the orders after n done ones and what they leave: no order is left; a 65th; a done one before the rest; a refused one
module _ (r : ℕ) (Q : (t s : List ℕ) (n : ℕ) (os : List Order) → Round → Type 0)
    (ended : (t s : List ℕ) (n : ℕ) → Q t s n [] (record { refusal = 0; value = n; table = t; sheet = s }))
    (spent : (t s : List ℕ) (n : ℕ) (o : Order) (os : List Order) → n ≡ 64 → Q t s n (o ∷ os) (record { refusal = 4; value = n; table = t; sheet = s }))
    (went : (t s : List ℕ) (n : ℕ) (o : Order) (os : List Order) (x : Round) → n ≢ 64 → (made t s r o).refusal ≡ 0 → Q (made t s r o).table (made t s r o).sheet (suc n) os x → Q t s n (o ∷ os) x)
    (stopped : (t s : List ℕ) (n : ℕ) (o : Order) (os : List Order) → n ≢ 64 → (made t s r o).refusal ≢ 0
    → Q t s n (o ∷ os) (record { refusal = (made t s r o).refusal; value = n; table = (made t s r o).table; sheet = (made t s r o).sheet }))
  where
    pub by_order : (t s : List ℕ) (n : ℕ) (os : List Order) → Q t s n os (round_from t s r n os)
    unfolding round_from
    by_order t s n [] = ended t s n
    by_order t s n (o ∷ os) = go (ℕ_discrete n 64) (ℕ_discrete (made t s r o).refusal 0) (by_order (made t s r o).table (made t s r o).sheet (suc n) os)
      where
        go : Dec (n ≡ 64) → Dec ((made t s r o).refusal ≡ 0) → Q (made t s r o).table (made t s r o).sheet (suc n) os (round_from (made t s r o).table (made t s r o).sheet r (suc n) os)
            → Q t s n (o ∷ os) (round_from t s r n (o ∷ os))
        go (yes e) d h = rw (eq-eqb n 64 e) (spent t s n o os e)
        go (no e) (yes z) h = rw (ne_eqb n 64 e, z) (went t s n o os _ e z h)
        go (no e) (no z) h = rw (ne_eqb n 64 e, ne_eqb (made t s r o).refusal 0 z) (stopped t s n o os e z)

-- ---- what holds of the table and the sheet before a round, and is kept by each order's write, holds after it
module _ (P : List ℕ → List ℕ → Type 0) (r : ℕ) (keeps : (t s : List ℕ) (o : Order) → P t s → P (made t s r o).table (made t s r o).sheet) where
  pub round-holds : (t s : List ℕ) (os : List Order) → P t s → P (round_of t s r os).table (round_of t s r os).sheet
  unfolding round_of none_done
  round-holds t s [] h = h
  round-holds t s (o ∷ os) h =
      by_order r (λ t s n os x. P t s → P x.table x.sheet) (λ t s n p. p) (λ t s n o os e p. p) (λ t s n o os x e z i p. i (keeps t s o p)) (λ t s n o os e z p. keeps t s o p)
      t s 0 (o ∷ os) h

-- ---- how many are done
pub at-most-64 : AtMost64
unfolding AtMost64 round_of none_done
at-most-64 t s r [] = (omega arith, omega arith)
at-most-64 t s r (o ∷ os) =
    let m = by_order r (λ t s n os x. n ≤ 64 → (x.value ≤ 64) × (x.value ≤ n + length os)) (λ t s n h. (h, omega arith)) (λ t s n o os e h. (h, omega arith))
    (λ t s n o os x e z i h. let j = i (omega arith) in (j.0, omega (arith, j.1))) (λ t s n o os e z h. (h, omega arith)) t s 0 (o ∷ os) (omega arith) in
    (m.0, omega (arith, m.1))

pub all_done : AllDone
unfolding AllDone round_of none_done
all_done t s r [] h = refl
all_done t s r (o ∷ os) h =
    let m = by_order r (λ t s n os x. x.refusal ≡ 0 → x.value ≡ n + length os) (λ t s n h. omega arith) (λ t s n o os e h. absurd (omega arith))
    (λ t s n o os x e z i h. omega (arith, i h)) (λ t s n o os e z h. absurd (z h)) t s 0 (o ∷ os) h in
    omega (arith, m)

-- ---- the 65th
pub unread : Unread
unfolding Unread round_of round_from
unread t s r [] ps qs p q e = absurd (omega arith)
unread t s r (o ∷ os) ps qs p q e =
    by_order r (λ t s n os x. n + length os ≡ 64 → round_from t s r n (os ++ (p ∷ ps)) ≡ round_from t s r n (os ++ (q ∷ qs)))
    (λ t s n h. rw (eq-eqb n 64 (omega arith))) (λ t s n o os e h. absurd (omega arith))
    (λ t s n o os x e z i h. rw (ne_eqb n 64 e, z) (i (omega arith))) (λ t s n o os e z h. rw (ne_eqb n 64 e, ne_eqb (made t s r o).refusal 0 z))
    t s 0 (o ∷ os) (omega arith)

pub sixty-fifth : SixtyFifth
unfolding SixtyFifth round_of round_from
sixty-fifth t s r [] ps p e h = absurd (omega arith)
sixty-fifth t s r (o ∷ os) ps p e h =
    by_order r (λ t s n os x. n + length os ≡ 64 → x.refusal ≡ 0 → round_from t s r n (os ++ (p ∷ ps)) ≡ record { refusal = 4; value = 64; table = x.table; sheet = x.sheet })
    (λ t s n h z. let e : n ≡ 64 = omega arith in rw (eq-eqb n 64 e, e)) (λ t s n o os e h z. absurd (omega arith))
    (λ t s n o os x e z i h w. rw (ne_eqb n 64 e, z) (i (omega arith) w)) (λ t s n o os e z h w. absurd (z w))
    t s 0 (o ∷ os) (omega arith) h

-- ---- an order's first 14 bytes
pub two-unread : TwoUnread
unfolding TwoUnread order_in
two-unread xs ys e = rw (at 0 1 (omega arith), at 1 1 (omega arith), at 2 2 (omega arith), at 4 8 (omega arith), at 12 1 (omega arith), at 13 1 (omega arith))
  where
    at : (a n : ℕ) → a + n ≤ 14 → part a n xs ≡ part a n ys
    at a n h = sym (first_part 14 a n xs h) ∙ ap (part a n) e ∙ first_part 14 a n ys h
