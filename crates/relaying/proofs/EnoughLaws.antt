-- A choice that answers whole is enough: it holds a quorum of the list in force and is current, so the call stays with it.
use mathlib.Core.Path.{◌≡◌, refl, sym, ◌∙◌, ap, ap₂, fun_ext}
use mathlib.Core.Bool.{Bool, true, false, cond, ◌&&◌}
use mathlib.Core.List.{List, [], ◌∷◌}
use Prim.Native.Nat.{ℕ, ◌≤◌}
use native.Mathlib.Omega.{arith}
use lib.Dec.{eqb}
use Rattle.bools.proofs.BoolLaws.{and_l, and_r, and_i}
use Rattle.sets.specs.Upto.{Within, count}
use Rattle.sets.specs.Sets.{has, cut_to}
use Rattle.sets.proofs.UptoLaws.{some_at}
use Rattle.sets.proofs.CountLaws.{count-one}
use Rattle.sets.proofs.SetLaws.{has_within}
use Rattle.quorums.specs.declared.Kind.{Kind}
use Rattle.quorums.specs.declared.Kind.TheVariants.{Read, Write}
use Rattle.fields.specs.declared.Laid.{Laid}
use Rattle.fields.specs.Layout.{used_of, name_of, list_of, contents_of}
use Rattle.table.specs.Chain.{frame_of}
use Rattle.asking.specs.Asking.{first_no, before}
use Rattle.asking.proofs.AskingLaws.{yes-first, no-first}
use Rattle.sheet.specs.Sheet.{sheet_right, by_club}
use Rattle.counties.specs.Counties.{list_quorum, list_choice}
use Rattle.protocol.specs.Polls.{polled, current, quorum_held, own_try, stays, worked_on}
use Rattle.protocol.specs.Calls.{Call, read, write, by_coordinator, is_used, questions, answers, work_set, founding, join, send, check, carry}
use Rattle.protocol.proofs.QuestionLaws.{ByCoordinator, passed_first}
use Rattle.protocol.proofs.Unanswered.{used-same, framed-same}
use Rattle.seats.specs.Seats.{EveryChoiceHolds}
use Rattle.counties.specs.Claims.{ChosenPass}
use Rattle.counties.proofs.TwoLevelLaws.{chosen-pass}
use Rattle.seats.proofs.HeldLaws.{every-choice-holds}
use Rattle.history.specs.Book.{Book, holds_quorum, some_has_all}
use Rattle.history.specs.Demand3.{verdict, share_no, due, RefusedRight, Right}
use Rattle.history.proofs.Invariant.{both_is}
use Rattle.history.proofs.State.{whole, State, frame_is, few, answered, quorum-whole, current-whole, six-is, seven_is}
use Rattle.history.proofs.Answers.{right, read-group, write-group, Group}
use Rattle.history.proofs.Theorems.{reached}
use Rattle.choosing.specs.Choosing.{first_called, choice_questions, chosen}
use Rattle.relaying.specs.Relaying.{BlankedEqual}
use Rattle.relaying.specs.Enough.{ChosenAlike, By, a_read, a_write, AnswersWhole, StaysWithChoice, ChoiceEnough}
use Rattle.relaying.proofs.RelayLaws.{blanked-equal}

-- chain and counties are those of the whole table, and c's row its own
pub chosen-alike : ChosenAlike
unfolding ChosenAlike BlankedEqual chosen choice_questions first_called is_used name_of list_of
chosen-alike t r c kind set e m =
    let E = blanked-equal t r e in
    rw (E.formed-too, e, used-same E, framed-same E, sym (E.rows c m))

module _ (q : ℕ) (t : List ℕ) (b : Book) (e : ℕ) (S : State q t b e) (kind : Kind) (c r : ℕ) (B : ByCoordinator t c r) (own : b.own c ≡ b.in_force)
    (all : (i : ℕ) → first_called kind t c i ≡ true → has r i ≡ true) (cur : some_has_all b (first_called kind t c) ≡ true) where
  -- c's list is the list in force
  in-force : list_of t c ≡ b.in_force
  unfolding whole polled
  in-force = sym (S.inv.epochs.owned c B.coordinator) ∙ own

  member : (i : ℕ) → first_called kind t c i ≡ true → has b.in_force.members i ≡ true
  unfolding first_called list_choice ChosenPass
  member i m = ap (λ (l : Laid). has l.members i) (sym in-force) ∙ chosen-pass kind (list_of t c).mark (frame_of t) (has (list_of t c).members) (name_of t c) i m

  used : (i : ℕ) → has b.in_force.members i ≡ true → Within (used_of t) i
  used i m = has_within (used_of t) b.in_force.members i S.inv.epochs.bound m

  -- it has a member
  peopled : 1 ≤ count 64 (has b.in_force.members)
  unfolding some_has_all
  peopled = let w = some_at 64 _ cur in count-one 64 (has b.in_force.members) w.0 w.1 (member w.0 (and_l _ _ w.2))

  -- so c's choice holds a quorum of it
  holds : holds_quorum b kind (first_called kind t c) ≡ true
  unfolding holds_quorum first_called list_quorum list_choice EveryChoiceHolds
  holds = rw (in-force, ← (frame_is q t b e S)) (every-choice-holds t B.formed (has b.in_force.members) used peopled kind b.in_force.mark (name_of t c)).0

  -- cut down to R it is what it was
  tried-is : own_try kind (frame_of t) (answers t q r) c (name_of t c) (has r) ≡ first_called kind t c
  unfolding own_try first_called answers polled cut_to
  tried-is = rw B.answered (fun_ext (λ i. go i (list_choice kind (frame_of t) (list_of t c) (name_of t c) i) refl))
    where
      go : (i : ℕ) (x : Bool) → list_choice kind (frame_of t) (list_of t c) (name_of t c) i ≡ x → (x && has r i) ≡ x
      go i true m = all i m
      go i false m = refl

  -- questions 6 and 7 are yes for it
  both : (quorum_held kind (frame_of t) (answers t q r) (first_called kind t c) && current (answers t q r) (first_called kind t c)) ≡ true
  both =
      ap₂ ◌&&◌ (quorum-whole q t b e S r (first_called kind t c) all kind) (current-whole q t b e S r (first_called kind t c) all)
      ∙ both_is (used_of t) (whole t q) (contents_of t q) b e (few q t b e S r) S.inv (first_called kind t c) (λ i m. answered q t b e S r kind c B i (all i m)) kind
      ∙ and_i _ _ holds cur

  works : work_set kind t q c r ≡ first_called kind t c
  unfolding work_set worked_on stays
  works = rw (tried-is, both)

  six : quorum_held kind (frame_of t) (answers t q r) (work_set kind t q c r) ≡ true
  six = rw works (and_l _ _ both)

  seven : current (answers t q r) (work_set kind t q c r) ≡ true
  seven = rw works (and_r (quorum_held kind (frame_of t) (answers t q r) (first_called kind t c)) _ both)

  by-book : verdict b kind r ≡ 0
  unfolding verdict
  by-book =
      let h : holds_quorum b kind (has r) ≡ true = sym (six-is q t b e S r kind c B) ∙ six in
      let m : some_has_all b (has r) ≡ true = sym (seven_is q t b e S r kind c B h) ∙ seven in
      rw (h, m)

  -- after 16, 4 and 5, with the answers z, x and y
  passed : (z x y : Bool) → first_no (record { ask = 16; yes = z } ∷ record { ask = 4; yes = x } ∷ record { ask = 5; yes = y } ∷ []) ≡ 0
      → first_no (record { ask = 16; yes = z } ∷ record { ask = 4; yes = x } ∷ record { ask = 5; yes = y } ∷ record { ask = 6; yes = quorum_held kind (frame_of t) (answers t q r) (work_set kind t q c r) } ∷ record { ask = 7; yes = current (answers t q r) (work_set kind t q c r) } ∷ []) ≡ 0
  unfolding first_no
  passed true true true h = rw (six, seven)
  passed true true false h = absurd (omega arith)
  passed true false y h = absurd (omega arith)
  passed false x y h = absurd (omega arith)

enough : (t : List ℕ) (b : ℕ → Book) (e : ℕ) → Group t b e → (k : Call) (kind : Kind) (q c r : ℕ) → By k kind q c r → AnswersWhole t (b q) k kind c r → StaysWithChoice t (b q) k kind q c r
unfolding questions before by_coordinator by_club due Right RefusedRight
enough t b e G (read a) kind q c r a_read h =
    let x = passed_first t a.c a.r _ h.passes in
    let S = G.file a.file (read-group t (b a.file) e a h.passes) in
    record {
      passes = x.2 _ ∙ passed a.file t (b a.file) e S Read a.c a.r x.0 h.own h.answers h.current _ _ _ x.1;
      alone = works a.file t (b a.file) e S Read a.c a.r x.0 h.own h.answers h.current;
      done = λ l. (right t b e G a.file (read a) refl).1 h.passes l ∙ ap (λ (n : ℕ). cond (eqb n 0) (share_no (read a)) n) (by-book a.file t (b a.file) e S Read a.c a.r x.0 h.own h.answers h.current);
    }
enough t b e G (write a) kind q c r a_write h =
    let z = yes-first 0 (sheet_right a.sheet) _ h.passes in
    let x = passed_first t a.c a.r _ z.1 in
    let S = G.file a.file (write-group t (b a.file) e a h.passes) in
    record {
      passes = no-first 1 (sheet_right a.sheet) _ z.0 ∙ x.2 _ ∙ passed a.file t (b a.file) e S Write a.c a.r x.0 h.own h.answers h.current _ _ _ x.1;
      alone = works a.file t (b a.file) e S Write a.c a.r x.0 h.own h.answers h.current;
      done = λ l. right t b e G a.file (write a) refl h.passes l ∙ ap (λ (n : ℕ). cond (eqb n 0) (share_no (write a)) n) (by-book a.file t (b a.file) e S Write a.c a.r x.0 h.own h.answers h.current);
    }
enough t b e G (founding _) kind q c r o h = elim o [ ]
enough t b e G (join _) kind q c r o h = elim o [ ]
enough t b e G (send _) kind q c r o h = elim o [ ]
enough t b e G (check _) kind q c r o h = elim o [ ]
enough t b e G (carry _) kind q c r o h = elim o [ ]

pub choice-enough : ChoiceEnough
unfolding ChoiceEnough
choice-enough t b x = let l = reached t b x in enough t b l.0 l.1
