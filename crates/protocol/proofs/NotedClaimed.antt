-- What a refused read or write notes of the size of the set called.
use mathlib.Core.Path.{◌≡◌, refl, sym, ◌∙◌, ap}
use mathlib.Core.Bool.{Bool, true, false, cond, ◌&&◌, ◌||◌, and-false}
use mathlib.Core.Logic.{◌⊎◌, inl, inr, ⊎_elim}
use mathlib.Core.List.{List, [], ◌∷◌, map}
use Prim.Native.Nat.{ℕ, ◌≤◌}
use native.Mathlib.Omega.{arith}
use lib.Dec.{eqb, ltb}
use lib.ListN.{length}
use borrow.Author.Tests.{eqb-true, eq-eqb, ne_eqb, ltb-true}
use Rattle.bools.proofs.BoolLaws.{and_l, and_r, or_l, or_r, or-e, clash}
use Rattle.sets.specs.Upto.{Within, among}
use Rattle.sets.specs.Sets.{has}
use Rattle.quorums.specs.declared.Kind.{Kind}
use Rattle.quorums.specs.declared.Kind.TheVariants.{Read, Write}
use Rattle.fields.specs.Layout.{used_of, name_of}
use Rattle.table.specs.Chain.{frame_of}
use Rattle.table.specs.WellFormed.{limit}
use Rattle.asking.specs.Asking.{Question, first_no, before}
use Rattle.asking.proofs.AskingLaws.{yes-first, no-first}
use Rattle.sheet.specs.Sheet.{assured_of, ceiling_of, count_of, remainder, all_beyond, sheet_right, is_club, by_club}
use Rattle.protocol.specs.Polls.{good_version, current, quorum_held, own_try, stays, worked_on}
use Rattle.protocol.specs.Calls.{Reading, Writing, Call, founding, join, read, write, send, check, carry, in_file, in_group, by_coordinator, questions, answers, work_set, called_by, noted, from_six, called_after, outcome}
use Rattle.protocol.specs.Claims.{numbers_put, PutInOrder, Counting, of_read, of_write, RefusedNote, OtherLengthsStay, OthersNoteNone}
use Rattle.protocol.proofs.QuestionLaws.{refusal_is, called_is, early-passed, after_three}
use Rattle.protocol.proofs.Claimed.{put-in-order}

-- ---- questions by their numbers
abbrev numbers : List Question → List ℕ
numbers qs = map (λ (q : Question). q.ask) qs

-- the numbers before n, and those from n on
until : ℕ → List ℕ → List ℕ
until n [] = []
until n (m ∷ ms) = cond (eqb m n) [] (m ∷ until n ms)

onward : ℕ → List ℕ → List ℕ
onward n [] = []
onward n (m ∷ ms) = cond (eqb m n) (m ∷ ms) (onward n ms)

-- the first no is one of those asked, or there is none
no-among : (qs : List Question) → (first_no qs ≡ 0) ⊎ (among (numbers qs) (first_no qs) ≡ true)
unfolding first_no among
no-among [] = inl refl
no-among (q ∷ qs) = go q.yes (no-among qs)
  where
    go : (b : Bool) → (first_no qs ≡ 0) ⊎ (among (numbers qs) (first_no qs) ≡ true) → (cond b (first_no qs) q.ask ≡ 0) ⊎ ((among (numbers qs) (cond b (first_no qs) q.ask) || eqb q.ask (cond b (first_no qs) q.ask)) ≡ true)
    go true (inl z) = inl z
    go true (inr m) = inr (or_l _ _ m)
    go false s = inr (or_r (among (numbers qs) q.ask) _ (eq-eqb q.ask q.ask refl))

-- either nothing before n is answered no, and the first no is asked from n on or there is none; or the first no comes before n
Sides : ℕ → List Question → Type 0
Sides n qs = ((first_no (before n qs) ≡ 0) × ((first_no qs ≡ 0) ⊎ (among (onward n (numbers qs)) (first_no qs) ≡ true))) ⊎ ((first_no (before n qs) ≡ first_no qs) × (among (until n (numbers qs)) (first_no qs) ≡ true))

sides : (n : ℕ) (qs : List Question) → Sides n qs
unfolding Sides first_no before until onward among
sides n [] = inl (refl, inl refl)
sides n (q ∷ qs) = go (eqb q.ask n) q.yes refl (sides n qs)
  where
    go : (x y : Bool) → q.yes ≡ y → Sides n qs
        → ((first_no (cond x [] (q ∷ before n qs)) ≡ 0) × ((first_no (q ∷ qs) ≡ 0) ⊎ (among (cond x (numbers (q ∷ qs)) (onward n (numbers qs))) (first_no (q ∷ qs)) ≡ true)))
        ⊎ ((first_no (cond x [] (q ∷ before n qs)) ≡ first_no (q ∷ qs)) × (among (cond x [] (q.ask ∷ until n (numbers qs))) (first_no (q ∷ qs)) ≡ true))
    go true y e s = inl (refl, no-among (q ∷ qs))
    go false true e (inl s) = rw e (inl s)
    go false true e (inr s) = rw e (inr (s.0, or_l _ _ s.1))
    go false false e s = rw e (inr (refl, or_r (among (until n (numbers qs)) q.ask) _ (eq-eqb q.ask q.ask refl)))

-- all numbers of a list pass
pass : (ℕ → Bool) → List ℕ → Bool
pass p [] = true
pass p (m ∷ ms) = p m && pass p ms

pass-at : (p : ℕ → Bool) (ms : List ℕ) (x : ℕ) → pass p ms ≡ true → among ms x ≡ true → p x ≡ true
unfolding pass among
pass-at p [] x h m = absurd (clash m)
pass-at p (n ∷ ms) x h m = ⊎_elim (λ k. pass-at p ms x (and_r (p n) _ h) k) (λ k. ap p (sym (eqb-true n x k)) ∙ and_l _ _ h) (or-e (among ms x) (eqb n x) m)

-- of a read and of a write, 1 to 5 and 16 are asked before 6, and from 6 on no more than 8, 18 and 19
early : ℕ → Bool
early x = ltb x 6 || eqb x 16

late : ℕ → Bool
late x = (ltb 5 x && ltb x 9) || (eqb x 18 || eqb x 19)

-- none is both
late_is : (x : ℕ) → late x ≡ true → (6 ≤ x) × (x ≡ 16 → ⊥)
unfolding late
late_is x e = go (or-e (ltb 5 x && ltb x 9) _ e)
  where
    own : (eqb x 18 ≡ true) ⊎ (eqb x 19 ≡ true) → (6 ≤ x) × (x ≡ 16 → ⊥)
    own (inl h) = (omega (arith, eqb-true x 18 h), λ z. omega (arith, eqb-true x 18 h))
    own (inr h) = (omega (arith, eqb-true x 19 h), λ z. omega (arith, eqb-true x 19 h))

    go : ((ltb 5 x && ltb x 9) ≡ true) ⊎ ((eqb x 18 || eqb x 19) ≡ true) → (6 ≤ x) × (x ≡ 16 → ⊥)
    go (inl h) = (omega (arith, ltb-true 5 x (and_l _ _ h)), λ z. omega (arith, ltb-true x 9 (and_r (ltb 5 x) _ h)))
    go (inr h) = own (or-e (eqb x 18) _ h)

in_order : (k : Call) (kind : Kind) (q c r : ℕ) (bytes : List ℕ) → Counting k kind q c r bytes → (pass early (until 6 (numbers_put k)) ≡ true) × (pass late (onward 6 (numbers_put k)) ≡ true)
unfolding numbers_put pass early late until onward
in_order k kind q c r bytes of_read = (refl, refl)
in_order k kind q c r bytes of_write = (refl, refl)

-- ---- what is noted
notes : (t : List ℕ) (k : Call) (kind : Kind) (q c r : ℕ) (bytes : List ℕ) → Counting k kind q c r bytes → (outcome t k).called ≡ noted bytes (from_six (questions t k) (called_by kind t q c r))
unfolding called_after
notes t k kind q c r bytes (of_read {a}) = called_is t (read a)
notes t k kind q c r bytes (of_write {a}) = called_is t (write a)

-- in a list of one byte
one-noted : (bytes : List ℕ) (n : ℕ) → length bytes ≡ 1 → noted bytes n ≡ n ∷ []
unfolding noted
one-noted bytes n one = rw one

module _ (t : List ℕ) (k : Call) (kind : Kind) (q c r : ℕ) (bytes : List ℕ) (x : Counting k kind q c r bytes) where
  -- by the order in which the questions are put
  by_number : ((first_no (before 6 (questions t k)) ≡ 0) × (((outcome t k).refusal ≡ 0) ⊎ (late (outcome t k).refusal ≡ true))) ⊎ ((first_no (before 6 (questions t k)) ≡ (outcome t k).refusal) × (early (outcome t k).refusal ≡ true))
  unfolding Sides PutInOrder
  by_number = rw (refusal_is t k) (go (sides 6 (questions t k)))
    where
      n : ℕ
      n = first_no (questions t k)

      go : Sides 6 (questions t k) → ((first_no (before 6 (questions t k)) ≡ 0) × ((n ≡ 0) ⊎ (late n ≡ true))) ⊎ ((first_no (before 6 (questions t k)) ≡ n) × (early n ≡ true))
      go (inl s) = inl (s.0, ⊎_elim inl (λ m. inr (pass-at late (onward 6 (numbers_put k)) n (in_order k kind q c r bytes x).1 (rw (put-in-order t k) at m))) s.1)
      go (inr s) = inr (s.0, pass-at early (until 6 (numbers_put k)) n (in_order k kind q c r bytes x).0 (rw (put-in-order t k) at s.1))

  from-six : late (outcome t k).refusal ≡ true → first_no (before 6 (questions t k)) ≡ 0
  unfolding early
  from-six l = ⊎_elim (λ s. s.0) (λ s. absurd (not-early (or-e (ltb (outcome t k).refusal 6) _ s.1))) by_number
    where
      is : (6 ≤ (outcome t k).refusal) × ((outcome t k).refusal ≡ 16 → ⊥)
      is = late_is (outcome t k).refusal l

      not-early : (ltb (outcome t k).refusal 6 ≡ true) ⊎ (eqb (outcome t k).refusal 16 ≡ true) → ⊥
      not-early (inl e) = omega (arith, is.0, ltb-true (outcome t k).refusal 6 e)
      not-early (inr e) = is.1 (eqb-true (outcome t k).refusal 16 e)

  module _ (one : length bytes ≡ 1) where
    -- refused before 6
    note-early : 1 ≤ (outcome t k).refusal → (late (outcome t k).refusal ≡ true → ⊥) → (outcome t k).called ≡ 0 ∷ []
    unfolding from_six
    note-early h d =
        let e : first_no (before 6 (questions t k)) ≡ (outcome t k).refusal = ⊎_elim (λ s. absurd (⊎_elim (λ z. omega arith) d s.1)) (λ s. s.0) by_number in
        notes t k kind q c r bytes x ∙ one-noted bytes _ one ∙ rw (ne_eqb (first_no (before 6 (questions t k))) 0 (λ z. omega arith))

    note-late : late (outcome t k).refusal ≡ true → (outcome t k).called ≡ called_by kind t q c r ∷ []
    unfolding from_six
    note-late l = notes t k kind q c r bytes x ∙ one-noted bytes _ one ∙ rw (eq-eqb (first_no (before 6 (questions t k))) 0 (from-six l))

-- ---- a call refused by 6 or 7 went on to R
-- where it stays with P, both are yes
stays-yes : (kind : Kind) (t : List ℕ) (q c r : ℕ) → stays kind (frame_of t) (answers t q r) c (name_of t c) (has r) ≡ true
    → (quorum_held kind (frame_of t) (answers t q r) (work_set kind t q c r) ≡ true) × (current (answers t q r) (work_set kind t q c r) ≡ true)
unfolding work_set worked_on stays
stays-yes kind t q c r e = rw e (and_l _ _ e, and_r (quorum_held kind (frame_of t) (answers t q r) (own_try kind (frame_of t) (answers t q r) c (name_of t c) (has r))) _ e)

-- questions 4 and 5 of a read, and of a write
abbrev read_range : List ℕ → Reading → Question
read_range t a = record { ask = 4; yes = in_file t a.offset a.count }

abbrev read_lent : Reading → Question
read_lent a = record { ask = 5; yes = eqb (length a.buffer) a.count && eqb (length a.called) 1 }

abbrev write_range : List ℕ → Writing → Question
write_range t a = record { ask = 4; yes = in_file t a.offset (length a.patch) }

abbrev write_lent : Writing → Question
write_lent a = record { ask = 5; yes = eqb (length a.called) 1 }

-- and then it is refused by neither
stays-passes : (t : List ℕ) (k : Call) (kind : Kind) (q c r : ℕ) (bytes : List ℕ) → Counting k kind q c r bytes → first_no (before 6 (questions t k)) ≡ 0
    → stays kind (frame_of t) (answers t q r) c (name_of t c) (has r) ≡ true → ((outcome t k).refusal ≡ 0) ⊎ (8 ≤ (outcome t k).refusal)
unfolding questions before first_no by_club
stays-passes t k kind q c r bytes (of_read {a}) h e =
    let y = stays-yes Read t a.file a.c a.r e in
    let x = early-passed t a.c a.r _ 6 (omega arith) h in
    let g = yes-first 15 (in_group t a.file) (read_range t a ∷ read_lent a ∷ []) x.1 in
    let d = yes-first 3 (read_range t a).yes (read_lent a ∷ []) g.1 in
    let f = yes-first 4 (read_lent a).yes [] d.1 in
    inl (refusal_is t (read a) ∙ x.2 ∙ rw (g.0, d.0, f.0, y.0, y.1))
stays-passes t k kind q c r bytes (of_write {a}) h e =
    let y = stays-yes Write t a.file a.c a.r e in
    let z = yes-first 0 (sheet_right a.sheet) (before 6 (by_coordinator t a.c a.r (after_three t a))) h in
    let x = early-passed t a.c a.r (after_three t a) 6 (omega arith) z.1 in
    let g = yes-first 15 (in_group t a.file) (write_range t a ∷ write_lent a ∷ []) x.1 in
    let d = yes-first 3 (write_range t a).yes (write_lent a ∷ []) g.1 in
    let f = yes-first 4 (write_lent a).yes [] d.1 in
    go (is_club a.club && ltb (count_of a.sheet a.club) (ceiling_of a.sheet a.club)) (ltb (count_of a.sheet a.club) (assured_of a.sheet a.club) || ltb (all_beyond a.sheet) (remainder a.sheet))
    (ltb (good_version (answers t a.file a.r) (work_set Write t a.file a.c a.r)) limit)
    (refusal_is t (write a) ∙ no-first 1 (sheet_right a.sheet) (by_coordinator t a.c a.r (after_three t a)) z.0 ∙ x.2 ∙ rw (g.0, d.0, f.0, y.0, y.1))
  where
    go : (m n b : Bool) → (outcome t (write a)).refusal ≡ cond m (cond n (cond b 0 8) 19) 18 → ((outcome t (write a)).refusal ≡ 0) ⊎ (8 ≤ (outcome t (write a)).refusal)
    go true true true e = inl e
    go true true false e = inr (omega arith)
    go true false b e = inr (omega arith)
    go false n b e = inr (omega arith)

module _ (t : List ℕ) (k : Call) (kind : Kind) (q c r : ℕ) (bytes : List ℕ) (x : Counting k kind q c r bytes) where
  calls-all : late (outcome t k).refusal ≡ true → 6 ≤ (outcome t k).refusal → (outcome t k).refusal ≤ 7 → called_by kind t q c r ≡ used_of t
  unfolding called_by
  calls-all l h g = rw (went_on (stays kind (frame_of t) (answers t q r) c (name_of t c) (has r)) refl)
    where
      went_on : (b : Bool) → stays kind (frame_of t) (answers t q r) c (name_of t c) (has r) ≡ b → stays kind (frame_of t) (answers t q r) c (name_of t c) (has r) ≡ false
      went_on true e = ⊎_elim (λ z. absurd (omega arith)) (λ z. absurd (omega arith)) (stays-passes t k kind q c r bytes x (from-six t k kind q c r bytes x l) e)
      went_on false e = e

pub refused-note : RefusedNote
unfolding RefusedNote late
refused-note t k kind q c r bytes x one =
    let noted = note-late t k kind q c r bytes x one in
    record {
      early = λ h. note-early t k kind q c r bytes x one h.0 (λ e. omega (arith, h, (late_is (outcome t k).refusal e).0));
      no-file = λ h. note-early t k kind q c r bytes x one (omega arith) (λ e. (late_is (outcome t k).refusal e).1 h);
      six = λ e. noted (ap late e) ∙ ap (λ (n : ℕ). n ∷ []) (calls-all t k kind q c r bytes x (ap late e) (omega arith) (omega arith));
      seven = λ e. noted (ap late e) ∙ ap (λ (n : ℕ). n ∷ []) (calls-all t k kind q c r bytes x (ap late e) (omega arith) (omega arith));
      eighteen = λ e. noted (ap late e);
      nineteen = λ e. noted (ap late e);
      eight = λ e. noted (ap late e);
    }

-- ---- a list of another length
five-no : (t : List ℕ) (k : Call) (kind : Kind) (q c r : ℕ) (bytes : List ℕ) → Counting k kind q c r bytes → (length bytes ≡ 1 → ⊥) → first_no (before 5 (questions t k)) ≡ 0 → (outcome t k).refusal ≡ 5
unfolding questions before first_no
five-no t k kind q c r bytes (of_read {a}) other h =
    let x = early-passed t a.c a.r _ 5 (omega arith) h in
    let g = yes-first 15 (in_group t a.file) (read_range t a ∷ []) x.1 in
    let d = yes-first 3 (read_range t a).yes [] g.1 in
    refusal_is t (read a) ∙ x.2 ∙ rw (g.0, d.0, ne_eqb (length a.called) 1 other, and-false (eqb (length a.buffer) a.count))
five-no t k kind q c r bytes (of_write {a}) other h =
    let z = yes-first 0 (sheet_right a.sheet) (before 5 (by_coordinator t a.c a.r (after_three t a))) h in
    let x = early-passed t a.c a.r (after_three t a) 5 (omega arith) z.1 in
    let g = yes-first 15 (in_group t a.file) (write_range t a ∷ []) x.1 in
    let d = yes-first 3 (write_range t a).yes [] g.1 in
    refusal_is t (write a) ∙ no-first 1 (sheet_right a.sheet) (by_coordinator t a.c a.r (after_three t a)) z.0 ∙ x.2 ∙ rw (g.0, d.0, ne_eqb (length a.called) 1 other)

pub other-lengths-stay : OtherLengthsStay
unfolding OtherLengthsStay noted
other-lengths-stay t k kind q c r bytes x other = (notes t k kind q c r bytes x ∙ rw (ne_eqb (length bytes) 1 other), five-no t k kind q c r bytes x other)

-- ---- the other calls
pub others-note-none : OthersNoteNone
unfolding OthersNoteNone called_after
others-note-none t = record {
  by-founding = λ a. called_is t (founding a);
  by-join = λ a. called_is t (join a);
  by-send = λ a. called_is t (send a);
  by-check = λ a. called_is t (check a);
  by-carry = λ a. called_is t (carry a);
}
