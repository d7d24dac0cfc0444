-- Reads and writes are answered as the book says.
use mathlib.Core.Path.{◌≡◌, refl, sym, ◌∙◌, ap, subst}
use mathlib.Core.Bool.{Bool, true, false, cond, ◌&&◌}
use mathlib.Core.List.{List, [], ◌∷◌}
use Prim.Native.Nat.{ℕ, zero, suc, ◌≤◌}
use native.Mathlib.Omega.{arith}
use lib.Dec.{eqb, ltb, eqb-suc-zero}
use lib.ListN.{length}
use borrow.Author.Tests.{lt-ltb, le-ltb}
use Rattle.sets.specs.Upto.{lowest, Within}
use Rattle.sets.specs.Sets.{has}
use Rattle.quorums.specs.declared.Kind.{Kind}
use Rattle.quorums.specs.declared.Kind.TheVariants.{Read, Write}
use Rattle.octets.specs.Bytes.{part}
use Rattle.fields.specs.Layout.{used_of, files_of, contents_of}
use Rattle.table.specs.Chain.{frame_of}
use Rattle.table.specs.WellFormed.{limit}
use Rattle.protocol.specs.Polls.{in_force, good_version, good, current, quorum_held}
use Rattle.asking.specs.Asking.{first_no, before}
use Rattle.sheet.specs.Sheet.{sheet_right, by_club}
use Rattle.sheet.proofs.SheetLaws.{club-asked, club-passed}
use Rattle.protocol.specs.Calls.{Reading, Writing, Call, founding, join, read, write, send, check, carry, in_file, in_group, by_coordinator, questions, done, outcome, answers, work_set}
use Rattle.protocol.proofs.ListLaws.{reads}
use Rattle.protocol.proofs.PollLaws.{lowest-good}
use Rattle.asking.proofs.AskingLaws.{yes-first, no-first}
use Rattle.protocol.proofs.QuestionLaws.{refusal_is, when-done, ByCoordinator, early-passed, group-is, read-yes, after_three}
use Rattle.history.specs.Book.{Book, frame, holds_quorum, some_has_all}
use Rattle.history.specs.Demand3.{verdict, share_no, due, ReadGives, RefusedRight, Right}
use Rattle.history.proofs.Invariant.{version-is}
use Rattle.history.proofs.State.{State, whole, few, current-whole, good-whole, version-whole, work-sub, work-used, six-is, seven_is, work-quorum}

-- what is due where no sheet is asked
no-share : (n : ℕ) → cond (eqb n 0) 0 n ≡ n
no-share zero = refl
no-share (suc n) = rw (eqb-suc-zero n)

module _ (q : ℕ) (t : List ℕ) (b : Book) (e : ℕ) (S : State q t b e) where
  -- ---- what is done on a current set that holds a quorum
  module _ (kind : Kind) (c r : ℕ) (B : ByCoordinator t c r) (six : quorum_held kind (frame_of t) (answers t q r) (work_set kind t q c r) ≡ true)
      (seven : current (answers t q r) (work_set kind t q c r) ≡ true) where
    pub read-quorum : holds_quorum b Read (work_set kind t q c r) ≡ true
    unfolding holds_quorum
    read-quorum = reads (frame b) b.in_force kind (work_set kind t q c r) (work-quorum q t b e S r kind c B six)

    pub current-all : current (whole t q) (work_set kind t q c r) ≡ true
    current-all = sym (current-whole q t b e S r (work_set kind t q c r) (work-sub q t b e S r kind c B)) ∙ seven

    -- the good version is the number of done writes
    pub version-all : good_version (whole t q) (work_set kind t q c r) ≡ b.writes
    version-all = version-is (used_of t) (whole t q) (contents_of t q) b e (few q t b e S r) S.inv (work_set kind t q c r) (work-used q t b e S r kind c B) read-quorum current-all

    pub version_now : good_version (answers t q r) (work_set kind t q c r) ≡ b.writes
    version_now = version-whole q t b e S r (work_set kind t q c r) (work-sub q t b e S r kind c B) ∙ version-all

    -- the good row of lowest index holds the file
    pub contents-now : contents_of t q (lowest 64 (good (answers t q r) (work_set kind t q c r))) ≡ b.file
    contents-now =
        let g = lowest-good (whole t q) (work_set kind t q c r) current-all in
        let i = lowest 64 (good (whole t q) (work_set kind t q c r)) in
        let u = work-used q t b e S r kind c B i g.1.inside in
        ap (λ (f : ℕ → Bool). contents_of t q (lowest 64 f)) (good-whole q t b e S r (work_set kind t q c r) (work-sub q t b e S r kind c B))
        ∙ (S.inv.versions i u).same (g.1.newest ∙ version-all)

  -- questions 6 and 7 alone
  six-seven : (kind : Kind) (c r : ℕ) → ByCoordinator t c r
      → ◌≡◌ {A = ℕ} (cond (quorum_held kind (frame_of t) (answers t q r) (work_set kind t q c r)) (cond (current (answers t q r) (work_set kind t q c r)) 0 7) 6) (verdict b kind r)
  unfolding verdict
  six-seven kind c r B = rw (six-is q t b e S r kind c B) (go (holds_quorum b kind (has r)) refl)
    where
      go : (x : Bool) → holds_quorum b kind (has r) ≡ x → ◌≡◌ {A = ℕ} (cond x (cond (current (answers t q r) (work_set kind t q c r)) 0 7) 6) (cond x (cond (some_has_all b (has r)) 0 7) 6)
      go true held = rw (seven_is q t b e S r kind c B held)
      go false held = refl

-- ---- reads and writes of a file
module _ (t : List ℕ) (b : Book) (e : ℕ) where
  read-gives : (a : Reading) → State a.file t b e → (outcome t (read a)).refusal ≡ 0 → ReadGives b a (outcome t (read a))
  unfolding done
  read-gives a S h =
      let y = read-yes t a (sym (refusal_is t (read a)) ∙ h) in
      rw (when-done t (read a) h) (record {
        value = version_now a.file t b e S Read a.c a.r y.first y.quorum y.current;
        bytes = ap (part a.offset a.count) (contents-now a.file t b e S Read a.c a.r y.first y.quorum y.current);
      })

  -- however many writes were done
  pub read-refused : (a : Reading) → State a.file t b e → first_no (before 6 (questions t (read a))) ≡ 0 → (outcome t (read a)).refusal ≡ verdict b Read a.r
  unfolding questions before first_no
  read-refused a S h =
      let x = early-passed t a.c a.r _ 6 (omega arith) h in
      let k = yes-first 15 (in_group t a.file) (record { ask = 4; yes = in_file t a.offset a.count } ∷ record { ask = 5; yes = eqb (length a.buffer) a.count && eqb (length a.called) 1 } ∷ []) x.1 in
      let d = yes-first 3 (in_file t a.offset a.count) (record { ask = 5; yes = eqb (length a.buffer) a.count && eqb (length a.called) 1 } ∷ []) k.1 in
      let f = yes-first 4 (eqb (length a.buffer) a.count && eqb (length a.called) 1) [] d.1 in
      refusal_is t (read a) ∙ x.2 ∙ rw (k.0, d.0, f.0) (six-seven a.file t b e S Read a.c a.r x.0)

  -- ---- writes
  write-refused : (a : Writing) → State a.file t b e → RefusedRight t b (write a) Write a.r (outcome t (write a))
  unfolding RefusedRight due share_no questions before first_no limit
  write-refused a S h l =
      let z = yes-first 0 (sheet_right a.sheet) (before 6 (by_coordinator t a.c a.r (after_three t a))) h in
      let x = early-passed t a.c a.r (after_three t a) 6 (omega arith) z.1 in
      let k = yes-first 15 (in_group t a.file) (record { ask = 4; yes = in_file t a.offset (length a.patch) } ∷ record { ask = 5; yes = eqb (length a.called) 1 } ∷ []) x.1 in
      let d = yes-first 3 (in_file t a.offset (length a.patch)) (record { ask = 5; yes = eqb (length a.called) 1 } ∷ []) k.1 in
      let f = yes-first 4 (eqb (length a.called) 1) [] d.1 in
      refusal_is t (write a) ∙ no-first 1 (sheet_right a.sheet) (by_coordinator t a.c a.r (after_three t a)) z.0 ∙ x.2
      ∙ rw (k.0, d.0, f.0, club-asked a.sheet a.club (record { ask = 8; yes = ltb (good_version (answers t a.file a.r) (work_set Write t a.file a.c a.r)) limit } ∷ []))
      (go x.0 (quorum_held Write (frame_of t) (answers t a.file a.r) (work_set Write t a.file a.c a.r)) refl (current (answers t a.file a.r) (work_set Write t a.file a.c a.r)) refl
      ∙ ap (λ (n : ℕ). cond (eqb n 0) (first_no (by_club a.sheet a.club [])) n) (six-seven a.file t b e S Write a.c a.r x.0))
    where
      go : ByCoordinator t a.c a.r → (x : Bool) → quorum_held Write (frame_of t) (answers t a.file a.r) (work_set Write t a.file a.c a.r) ≡ x → (y : Bool) → current (answers t a.file a.r) (work_set Write t a.file a.c a.r) ≡ y
          → let n = first_no (by_club a.sheet a.club []) in
          ◌≡◌ {A = ℕ} (cond x (cond y (cond (eqb n 0) (cond (ltb (good_version (answers t a.file a.r) (work_set Write t a.file a.c a.r)) limit) 0 8) n) 7) 6) (cond (eqb (cond x (cond y 0 7) 6) 0) n (cond x (cond y 0 7) 6))
      go B true p true q = rw (lt-ltb (good_version (answers t a.file a.r) (work_set Write t a.file a.c a.r)) limit (omega (arith, version_now a.file t b e S Write a.c a.r B p q))) (no-share (first_no (by_club a.sheet a.club [])))
      go B true p false q = refl
      go B false p y q = refl

  -- what passes the questions before 8 has only 8 left
  pub passed-seven : (a : Writing) → first_no (before 8 (questions t (write a))) ≡ 0
      → ByCoordinator t a.c a.r × (quorum_held Write (frame_of t) (answers t a.file a.r) (work_set Write t a.file a.c a.r) ≡ true) × (current (answers t a.file a.r) (work_set Write t a.file a.c a.r) ≡ true)
      × (first_no (questions t (write a)) ≡ first_no (record { ask = 8; yes = ltb (good_version (answers t a.file a.r) (work_set Write t a.file a.c a.r)) limit } ∷ []))
      × Within (files_of t) a.file
  unfolding questions before by_club
  passed-seven a h =
      let z = yes-first 0 (sheet_right a.sheet) _ h in
      let x = early-passed t a.c a.r _ 8 (omega arith) z.1 in
      let k = yes-first 15 (in_group t a.file) _ x.1 in
      let d = yes-first 3 (in_file t a.offset (length a.patch)) _ k.1 in
      let f = yes-first 4 (eqb (length a.called) 1) _ d.1 in
      let q = yes-first 5 (quorum_held Write (frame_of t) (answers t a.file a.r) (work_set Write t a.file a.c a.r)) _ f.1 in
      let m = yes-first 6 (current (answers t a.file a.r) (work_set Write t a.file a.c a.r)) (by_club a.sheet a.club []) q.1 in
      (x.0, q.0, m.0, no-first 1 (sheet_right a.sheet) _ z.0 ∙ x.2 ∙ no-first 16 _ _ k.0 ∙ no-first 4 _ _ d.0 ∙ no-first 5 _ _ f.0 ∙ no-first 6 _ _ q.0 ∙ no-first 7 _ _ m.0 ∙ club-passed a.sheet a.club _ m.1, group-is t a.file k.0)

  pub write-full : b.writes ≡ 1_000_000 → (a : Writing) → State a.file t b e → first_no (before 8 (questions t (write a))) ≡ 0 → (outcome t (write a)).refusal ≡ 8
  unfolding first_no limit
  write-full w a S h =
      let x = passed-seven a h in
      let none : limit ≤ good_version (answers t a.file a.r) (work_set Write t a.file a.c a.r) = omega (arith, version_now a.file t b e S Write a.c a.r x.0 x.1 x.2) in
      refusal_is t (write a) ∙ x.3 ∙ rw (le-ltb (good_version (answers t a.file a.r) (work_set Write t a.file a.c a.r)) limit none)

  -- the file of a call that passes 16 is one of the group
  pub read-group : (a : Reading) → first_no (before 6 (questions t (read a))) ≡ 0 → Within (files_of t) a.file
  unfolding questions before
  read-group a h =
      let x = early-passed t a.c a.r _ 6 (omega arith) h in
      group-is t a.file (yes-first 15 (in_group t a.file) _ x.1).0

  pub write-group : (a : Writing) → first_no (before 6 (questions t (write a))) ≡ 0 → Within (files_of t) a.file
  unfolding questions before
  write-group a h =
      let z = yes-first 0 (sheet_right a.sheet) (before 6 (by_coordinator t a.c a.r (after_three t a))) h in
      let x = early-passed t a.c a.r (after_three t a) 6 (omega arith) z.1 in
      group-is t a.file (yes-first 15 (in_group t a.file) _ x.1).0

-- ---- the books of all files
-- a table against the book of each of its files, of which there is one
pub record Group (t : List ℕ) (b : ℕ → Book) (e : ℕ) : Type 0 where
  pub some : 1 ≤ files_of t
  pub file : (q : ℕ) → Within (files_of t) q → State q t (b q) e

pub first-file : {t : List ℕ} {b : ℕ → Book} {e : ℕ} → Group t b e → State 1 t (b 1) e
first-file G = G.file 1 (omega (arith, G.some))

-- the state of the file that a call names
of-file : {t : List ℕ} {b : ℕ → Book} {e : ℕ} → Group t b e → {f q : ℕ} → f ≡ q → Within (files_of t) f → State f t (b q) e
of-file {t} {b} {e} G {f} z v = subst (λ (x : ℕ). State f t (b x) e) z (G.file f v)

pub right : (t : List ℕ) (b : ℕ → Book) (e : ℕ) → Group t b e → (q : ℕ) (k : Call) → Right q t (b q) k (outcome t k)
unfolding Right RefusedRight due share_no
right t b e G q (founding a) = tt
right t b e G q (join a) = tt
right t b e G q (read a) = λ z.
    (λ h. read-gives t (b q) e a (of-file G z (read-yes t a (sym (refusal_is t (read a)) ∙ h)).group) h, λ h l. read-refused t (b q) e a (of-file G z (read-group t (b q) e a h)) h ∙ sym (no-share (verdict (b q) Read a.r)))
right t b e G q (write a) = λ z h l. write-refused t (b q) e a (of-file G z (write-group t (b q) e a h)) h l
right t b e G q (send a) = tt
right t b e G q (check a) = tt
right t b e G q (carry a) = tt
