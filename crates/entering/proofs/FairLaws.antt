-- Rounds and the sheet: what an order is turned down for.
use mathlib.Core.Path.{◌≡◌, refl, sym, ◌∙◌, ap, subst}
use mathlib.Core.Bool.{Bool, true, false, cond}
use mathlib.Core.Logic.{◌⊎◌, inl, inr, ◌≢◌}
use mathlib.Core.List.{List, [], ◌∷◌, cons-ne-nil, head-eq_of_cons-eq}
use Prim.Native.Nat.{ℕ, zero, suc, ◌+◌, ◌≤◌, ◌<◌}
use native.Mathlib.Nat.{zero-add}
use native.Mathlib.Omega.{arith}
use lib.ListN.{drop}
use Rattle.asking.specs.Asking.{Question, first_no}
use Rattle.asking.proofs.AskingLaws.{no-first}
use Rattle.table.specs.WellFormed.{well_formed}
use Rattle.sheet.specs.Sheet.{assured_of, count_of, sheet_right, is_club, by_club}
use Rattle.protocol.specs.Calls.{Writing, write, questions, by_coordinator, outcome, lent_sheet}
use Rattle.protocol.specs.Claims.{a_write, StaysWellFormed}
use Rattle.protocol.proofs.QuestionLaws.{refusal_is, when-refused, WriteYes, write-yes}
use Rattle.protocol.proofs.Claimed.{stays-well-formed}
use Rattle.sharing.specs.Shares.{to_write, SheetStaysRight, AssuredNeverTurnedDown}
use Rattle.sharing.proofs.ShareLaws.{sheet-stays-right, assured-never-turned-down}
use Rattle.ordering.specs.declared.Order.{Order}
use Rattle.ordering.specs.Rounds.{writing, Round, round_from, none_done, round_of}
use Rattle.ordering.proofs.RoundLaws.{made, by_order, round-holds}
use Rattle.entering.specs.Claims.{OneComesFirst, RoundStaysRight, AssuredInRound}

-- ---- the sheet after an order's write, and after a round
made-right : (t s : List ℕ) (r : ℕ) (o : Order) → sheet_right s ≡ true → sheet_right (made t s r o).sheet ≡ true
unfolding SheetStaysRight lent_sheet writing
made-right t s r o h = sheet-stays-right t (write (writing r s o)) to_write h

pub round-stays-right : RoundStaysRight
unfolding RoundStaysRight
round-stays-right t s r os h = round-holds (λ u v. sheet_right v ≡ true) r (λ u v o e. made-right u v r o e) t s os h

-- ---- question 1
not-one : (n : ℕ) (x : Bool) (qs : List Question) → n ≢ 1 → first_no qs ≢ 1 → first_no (record { ask = n; yes = x } ∷ qs) ≢ 1
unfolding first_no
not-one n true qs a l = l
not-one n false qs a l = a

none-one : first_no [] ≢ 1
unfolding first_no
none-one e = omega arith

-- it turns down no write on a well-formed table with a right sheet
write-not-one : (t : List ℕ) (a : Writing) → well_formed t ≡ true → sheet_right a.sheet ≡ true → (outcome t (write a)).refusal ≢ 1
unfolding questions by_coordinator by_club
write-not-one t a w s = λ e.
    not-one 2 _ _ (λ z. omega arith) (not-one 3 _ _ (λ z. omega arith) (not-one 16 _ _ (λ z. omega arith) (not-one 4 _ _ (λ z. omega arith) (not-one 5 _ _ (λ z. omega arith)
    (not-one 6 _ _ (λ z. omega arith) (not-one 7 _ _ (λ z. omega arith) (not-one 18 _ _ (λ z. omega arith) (not-one 19 _ _ (λ z. omega arith) (not-one 8 _ [] (λ z. omega arith) none-one)))))))))
    (sym (no-first 1 (well_formed t) _ w) ∙ sym (no-first 1 (sheet_right a.sheet) _ s) ∙ sym (refusal_is t (write a)) ∙ e)

pub one-comes-first : OneComesFirst
unfolding OneComesFirst round_of none_done StaysWellFormed writing
one-comes-first t s r [] h = refl
one-comes-first t s r (o ∷ os) h =
    by_order r (λ t s n os x. (n ≡ 0) ⊎ ((well_formed t ≡ true) × (sheet_right s ≡ true)) → x.refusal ≡ 1 → x.value ≡ 0)
    (λ t s n f e. absurd (omega arith))
    (λ t s n o os d f e. absurd (omega arith))
    (λ t s n o os x d z i f e.
    let y = write-yes t (writing r s o) (sym (refusal_is t (write (writing r s o))) ∙ z) in
    i (inr (stays-well-formed t (write (writing r s o)) a_write y.first.formed, made-right t s r o y.sheet)) e)
    (λ t s n o os d z f e. go t s n o f e)
    t s 0 (o ∷ os) (inl refl) h
  where
    go : (t s : List ℕ) (n : ℕ) (o : Order) → (n ≡ 0) ⊎ ((well_formed t ≡ true) × (sheet_right s ≡ true)) → (made t s r o).refusal ≡ 1 → n ≡ 0
    go t s n o (inl z) e = z
    go t s n o (inr f) e = absurd (write-not-one t (writing r s o) f.0 f.1 e)

-- ---- an order that was turned down
-- the sheet is as it was lent
made_kept : (t s : List ℕ) (r : ℕ) (o : Order) → (made t s r o).refusal ≢ 0 → (made t s r o).sheet ≡ s
unfolding lent_sheet writing
made_kept t s r o d = (when-refused t (write (writing r s o)) d).3

-- an order whose club is below its assured number
made-assured : (t s : List ℕ) (r : ℕ) (o : Order) → sheet_right s ≡ true → is_club o.club ≡ true → count_of s o.club < assured_of s o.club
    → ((made t s r o).refusal ≡ 18 → ⊥) × ((made t s r o).refusal ≡ 19 → ⊥)
unfolding writing AssuredNeverTurnedDown
made-assured t s r o h c l = assured-never-turned-down t (writing r s o) h c l

module _ (r : ℕ) (rest : List Order) (o : Order) (c : is_club o.club ≡ true) where
  -- after n done ones and k more, o comes
  Fair : (t s : List ℕ) (n : ℕ) (os : List Order) → Round → Type 0
  Fair t s n os x = (n ≤ x.value) × ((k : ℕ) → x.value ≡ n + k → sheet_right s ≡ true → drop k os ≡ o ∷ rest → count_of x.sheet o.club < assured_of x.sheet o.club
      → (x.refusal ≡ 18 → ⊥) × (x.refusal ≡ 19 → ⊥))

  fair-went : (t s : List ℕ) (n : ℕ) (p : Order) (os : List Order) (x : Round) → Fair (made t s r p).table (made t s r p).sheet (suc n) os x → Fair t s n (p ∷ os) x
  unfolding Fair
  fair-went t s n p os x f = (omega (arith, f.0), go)
    where
      go : (k : ℕ) → x.value ≡ n + k → sheet_right s ≡ true → drop k (p ∷ os) ≡ o ∷ rest → count_of x.sheet o.club < assured_of x.sheet o.club
          → (x.refusal ≡ 18 → ⊥) × (x.refusal ≡ 19 → ⊥)
      go zero e h d l = absurd (omega (arith, f.0))
      go (suc k) e h d l = f.1 k (omega arith) (made-right t s r p h) d l

  fair-stopped : (t s : List ℕ) (n : ℕ) (p : Order) (os : List Order) → (made t s r p).refusal ≢ 0
      → Fair t s n (p ∷ os) (record { refusal = (made t s r p).refusal; value = n; table = (made t s r p).table; sheet = (made t s r p).sheet })
  unfolding Fair
  fair-stopped t s n p os z = (omega arith, go)
    where
      go : (k : ℕ) → n ≡ n + k → sheet_right s ≡ true → drop k (p ∷ os) ≡ o ∷ rest → count_of (made t s r p).sheet o.club < assured_of (made t s r p).sheet o.club
          → ((made t s r p).refusal ≡ 18 → ⊥) × ((made t s r p).refusal ≡ 19 → ⊥)
      go zero e h d l =
          let q : p ≡ o = head-eq_of_cons-eq d in
          let m : count_of s o.club < assured_of s o.club = rw (made_kept t s r p z) at l in
          made-assured t s r p h (subst (λ (y : Order). is_club y.club ≡ true) (sym q) c) (subst (λ (y : Order). count_of s y.club < assured_of s y.club) (sym q) m)
      go (suc k) e h d l = absurd (omega arith)

  fair : (t s : List ℕ) (n : ℕ) (os : List Order) → Fair t s n os (round_from t s r n os)
  unfolding Fair
  fair t s n os =
      by_order r Fair (λ t s n. (omega arith, λ k e h d l. (λ z. omega arith, λ z. omega arith))) (λ t s n p os e. (omega arith, λ k e h d l. (λ z. omega arith, λ z. omega arith)))
      (λ t s n p os x e z f. fair-went t s n p os x f) (λ t s n p os e z. fair-stopped t s n p os z) t s n os

pub assured-in-round : AssuredInRound
unfolding AssuredInRound round_of none_done Fair
assured-in-round t s r [] rest o h d c l = absurd (cons-ne-nil o rest (sym d))
assured-in-round t s r (p ∷ os) rest o h d c l = (fair r rest o c t s 0 (p ∷ os)).1 _ (sym (zero-add _)) h d l
