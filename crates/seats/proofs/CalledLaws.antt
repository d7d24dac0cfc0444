-- The size of the set called, of done calls.
use mathlib.Core.Path.{◌≡◌, sym, ◌∙◌, ap}
use mathlib.Core.Bool.{true, false}
use mathlib.Core.List.{List, [], ◌∷◌}
use Prim.Native.Nat.{ℕ}
use lib.Dec.{eqb}
use lib.ListN.{length}
use borrow.Author.Tests.{eq-eqb}
use Rattle.bools.proofs.BoolLaws.{and_l, and_r}
use Rattle.sets.specs.Upto.{count}
use Rattle.sets.specs.Sets.{has, cut_to}
use Rattle.fields.specs.declared.Laid.{Laid}
use Rattle.fields.specs.Layout.{list, is_empty, used_of, name_of, list_of}
use Rattle.table.specs.Chain.{frame_of}
use Rattle.table.proofs.FormLaws.{formed}
use Rattle.quorums.specs.declared.Kind.{Kind}
use Rattle.quorums.specs.declared.Kind.TheVariants.{Read, Write}
use Rattle.asking.specs.Asking.{Question, first_no}
use Rattle.asking.proofs.AskingLaws.{before-yes}
use Rattle.counties.specs.Counties.{list_choice}
use Rattle.protocol.specs.Polls.{polled, quorum_held, own_try, stays}
use Rattle.protocol.specs.Calls.{Reading, Writing, read, write, questions, answers, called_by, noted, from_six, called_after, outcome}
use Rattle.protocol.proofs.ListLaws.{has-list}
use Rattle.protocol.proofs.PollLaws.{current-good}
use Rattle.protocol.proofs.QuestionLaws.{ByCoordinator, refusal_is, called_is, read-yes, write-yes}
use Rattle.seats.specs.Seats.{ChoiceSizes}
use Rattle.quorums.specs.ChoiceSizes.{ChoicesSized}
use Rattle.seats.specs.Called.{own_grid, stayed, OwnInOne, CalledFew}
use Rattle.counties.specs.Claims.{ChosenPass}
use Rattle.counties.proofs.TwoLevelLaws.{chosen-pass}
use Rattle.seats.proofs.SizeLaws.{choice-sizes}

-- ---- a read or a write by c over r that passed questions 1 to 3
module _ (kind : Kind) (t : List ℕ) (q c r : ℕ) (y : ByCoordinator t c r) where
  own-said : (answers t q r).list c ≡ list_of t c
  unfolding answers polled
  own-said = rw y.answered

  -- it stayed with P: as many as its own choice has
  on-try : stayed kind t q c r ≡ true → called_by kind t q c r ≡ count 64 (list_choice kind (frame_of t) (list_of t c) (name_of t c))
  unfolding called_by stayed
  on-try s = rw s (ap (λ (l : Laid). count 64 (list_choice kind (frame_of t) l (name_of t c))) own-said)

  on-all : stayed kind t q c r ≡ false → called_by kind t q c r ≡ used_of t
  unfolding called_by stayed
  on-all s = rw s

  -- and its own list is not empty: P has a good row
  own-list : stayed kind t q c r ≡ true → is_empty (list_of t c) ≡ false
  unfolding stayed stays own_try cut_to list_choice ChosenPass
  own-list s =
      let g = current-good (answers t q r) _ (and_r (quorum_held kind (frame_of t) (answers t q r) (own_try kind (frame_of t) (answers t q r) c (name_of t c) (has r))) _ s) in
      let l = (answers t q r).list c in
      rw (← own-said) (has-list l g.0 (chosen-pass kind l.mark (frame_of t) (has l.members) (name_of t c) g.0 (and_l _ _ g.2.inside)))

-- the sizes of its choices, by the grid of its own list
sizes : (t : List ℕ) (c r : ℕ) → ByCoordinator t c r → OwnInOne t c → is_empty (list_of t c) ≡ false → ChoicesSized (own_grid t c) (λ kind a. count 64 (list_choice kind (frame_of t) (list_of t c) a))
unfolding own_grid OwnInOne ChoiceSizes list_of list
sizes t c r y county full = choice-sizes t y.formed (list_of t c) ((formed t y.formed).heads c y.coordinator).only county full

-- a done call notes it in the byte that it was lent
noted-done : (qs : List Question) (bytes : List ℕ) (n : ℕ) → first_no qs ≡ 0 → eqb (length bytes) 1 ≡ true → noted bytes (from_six qs n) ≡ n ∷ []
unfolding noted from_six
noted-done qs bytes n h e = rw (e, eq-eqb _ _ (before-yes 6 qs h))

read-notes : (t : List ℕ) (a : Reading) → (outcome t (read a)).refusal ≡ 0 → (outcome t (read a)).called ≡ called_by Read t a.file a.c a.r ∷ []
unfolding called_after
read-notes t a h = let z = sym (refusal_is t (read a)) ∙ h in called_is t (read a) ∙ noted-done (questions t (read a)) a.called _ z (read-yes t a z).byte

write-notes : (t : List ℕ) (a : Writing) → (outcome t (write a)).refusal ≡ 0 → (outcome t (write a)).called ≡ called_by Write t a.file a.c a.r ∷ []
unfolding called_after
write-notes t a h = let z = sym (refusal_is t (write a)) ∙ h in called_is t (write a) ∙ noted-done (questions t (write a)) a.called _ z (write-yes t a z).byte

pub called-few : CalledFew
unfolding CalledFew
called-few t = record {
  read-few = λ a county h s.
      let y = (read-yes t a (sym (refusal_is t (read a)) ∙ h)).first in
      read-notes t a h ∙ ap (λ (n : ℕ). n ∷ []) (on-try Read t a.file a.c a.r y s ∙ (sizes t a.c a.r y county (own-list Read t a.file a.c a.r y s)).read (name_of t a.c));
  write-few = λ a county h s.
      let y = (write-yes t a (sym (refusal_is t (write a)) ∙ h)).first in
      (_, write-notes t a h ∙ ap (λ (n : ℕ). n ∷ []) (on-try Write t a.file a.c a.r y s), (sizes t a.c a.r y county (own-list Write t a.file a.c a.r y s)).write.bound (name_of t a.c));
  read_all = λ a h s. read-notes t a h ∙ ap (λ (n : ℕ). n ∷ []) (on-all Read t a.file a.c a.r (read-yes t a (sym (refusal_is t (read a)) ∙ h)).first s);
  write-all = λ a h s. write-notes t a h ∙ ap (λ (n : ℕ). n ∷ []) (on-all Write t a.file a.c a.r (write-yes t a (sym (refusal_is t (write a)) ∙ h)).first s);
}
