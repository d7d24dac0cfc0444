-- Demand 3, for any list of calls; and what else holds of every founded history.
use mathlib.Core.Path.{◌≡◌, refl, sym, ◌∙◌, subst}
use mathlib.Core.Bool.{Bool, true, false, cond, ◌&&◌, ◌||◌}
use mathlib.Core.List.{List, [], ◌∷◌, ◌++◌}
use Prim.Native.Nat.{ℕ, zero, suc}
use native.Mathlib.Decide.{ℕ_discrete}
use native.Mathlib.Omega.{arith}
use lib.Dec.{eqb, ltb, eqb-suc-zero}
use borrow.Author.Tests.{eqb-true, eq-eqb, ne_eqb, ltb-true}
use Rattle.sets.specs.Upto.{Within, every}
use Rattle.sets.proofs.UptoLaws.{every-at, every-ext}
use Rattle.sets.specs.Sets.{has}
use Rattle.sets.proofs.SetLaws.{has_within}
use Rattle.quorums.specs.declared.Kind.{Kind}
use Rattle.quorums.specs.declared.Kind.TheVariants.{Read, Write}
use Rattle.fields.specs.Layout.{used_of, files_of, list_of}
use Rattle.table.specs.Chain.{frame_of}
use Rattle.table.specs.WellFormed.{limit, only_rows, well_formed}
use Rattle.table.proofs.FormLaws.{Formed, well-formed-of}
use Rattle.counties.specs.Marks.{laid_now}
use Rattle.protocol.specs.Polls.{polled, highest_epoch, in_force, current, quorum_held}
use Rattle.sheet.specs.Sheet.{sheet_right}
use Rattle.asking.specs.Asking.{first_no, before}
use Rattle.protocol.specs.Calls.{Founding, Checking, Call, founding, join, read, write, send, check, carry, Outcome, is_used, by_coordinator, questions, done, outcome, answers}
use Rattle.asking.proofs.AskingLaws.{yes-first}
use Rattle.protocol.proofs.QuestionLaws.{ByCoordinator, passed_first, refusal_is, when-done, when-refused, join-yes, write-yes, send-yes, CheckYes, check-yes}
use Rattle.protocol.proofs.FoundedLaws.{founds-of, founded-files}
use Rattle.protocol.proofs.FrameLaws.{same-files}
use Rattle.protocol.proofs.CopyLaws.{OnlyCopies}
use Rattle.protocol.proofs.DoneLaws.{writing, write_table, write-only, send_table, send-only, checking, check_list, check_table, check-leaves}
use Rattle.protocol.proofs.KeepLaws.{write-formed, send-formed}
use Rattle.history.specs.Book.{Book, opened, holds_quorum, some_has_all, entered, write_set, written, passed_on, agreed, checked}
use Rattle.history.specs.Demand3.{verdict, due, RefusedRight, Right, AllRight, Demand3}
use Rattle.history.specs.Claims.{table_after, book_after, Reached, after, AlwaysWellFormed, each_has_all, ChecksByBook, CheckAgrees, Asks, a_read, a_write, BelowTheLimit, AtTheLimit}
use Rattle.history.proofs.State.{State, whole, six-check, seven-check}
use Rattle.history.proofs.Answers.{read-refused, read-group, passed-seven, write-full, Group, first-file, right}
use Rattle.history.proofs.Next.{join-files, next-join, next-other, next-write, next-send, next-same, next-check}
use Rattle.history.proofs.Founded.{founded-state}

-- ---- one call, and the books of all files
module _ (t : List ℕ) (b : ℕ → Book) (e : ℕ) (G : Group t b e) where
  -- where the files stay
  onto : {u : List ℕ} {c : ℕ → Book} {d : ℕ} → files_of u ≡ files_of t → ((q : ℕ) → Within (files_of t) q → State q u (c q) d) → Group u c d
  onto z g = record { some = rw z G.some; file = rw z g }

  -- a call of one file: that file's book, and the others
  named : {u : List ℕ} {q : ℕ} {s : ℕ → Bool} {g : ℕ → List ℕ → List ℕ} (c : ℕ → Book) → OnlyCopies t u q s g → Formed u → State q u (c q) e
      → Group u (λ p. cond (eqb q p) (c p) (b p)) e
  named {u} {q} {s} {g} c o w S = onto (same-files o.leaves.frame) (λ p v. go p v (ℕ_discrete p q))
    where
      go : (p : ℕ) → Within (files_of t) p → Dec (p ≡ q) → State p u (cond (eqb q p) (c p) (b p)) e
      go p v (yes z) = subst (λ (x : ℕ). State x u (cond (eqb q x) (c x) (b x)) e) (sym z) (rw (eq-eqb q q refl) S)
      go p v (no d) = rw (ne_eqb q p (λ z. d (sym z))) (next-other o w p (b p) e d (G.file p v))

  -- after a done check the files stay, and each file's book is checked
  check_done : (a : Checking) → first_no (questions t (check a)) ≡ 0
      → (e' : ℕ) × (files_of (done t (check a)).table ≡ files_of t) × ((q : ℕ) → Within (files_of t) q → State q (done t (check a)).table (checked (b q) a.r) e')
  unfolding done check_table checking check_list
  check_done a h = go (eqb a.r (in_force (answers t 1 a.r) (has a.r)).members) refl
    where
      y : CheckYes t a
      y = check-yes t a h

      go : (x : Bool) → eqb a.r (in_force (answers t 1 a.r) (has a.r)).members ≡ x
          → (e' : ℕ) × (files_of (done t (check a)).table ≡ files_of t) × ((q : ℕ) → Within (files_of t) q → State q (done t (check a)).table (checked (b q) a.r) e')
      go true z = (e, rw z, rw z (λ q v. next-same q t (b q) e (G.file q v) a y (eqb-true _ _ z)))
      go false z =
          let all : every (files_of t) (λ q. current (answers t q a.r) (has a.r)) ≡ true = rw z at y.current in
          let room : ltb (highest_epoch (answers t 1 a.r) (has a.r)) limit ≡ true = rw z at y.room in (
            suc e,
            rw z (same-files (check-leaves t a y (ltb-true _ _ room)).frame),
            rw z (λ q v. next-check q t (b q) e (G.file q v) a y (ltb-true _ _ room) (λ p w. every-at (files_of t) (λ q. current (answers t q a.r) (has a.r)) all p w) z),
          )

  -- after a done call
  next-done : (k : Call) → first_no (questions t k) ≡ 0 → (e' : ℕ) × Group (done t k).table (λ q. entered q (b q) k true) e'
  unfolding done entered write_table writing send_table
  next-done (founding a) h = let f = founds-of t a h in (0, record { some = rw (founded-files a f) f.group.0; file = rw (founded-files a f) (founded-state a f) })
  next-done (join a) h = let y = join-yes t a h in (e, onto (join-files t a y) (λ q v. next-join q t (b q) e (G.file q v) a y))
  next-done (read a) h = (e, G)
  next-done (write a) h =
      let y = write-yes t a h in
      (e, named (λ q. written (b q) (write_set (b q) a.c a.r) a.offset a.patch) (write-only t a y) (write-formed t a y) (next-write t (b a.file) e a (G.file a.file y.group) y))
  next-done (send a) h =
      let y = send-yes t a h in
      (e, named (λ q. passed_on (b q) a.f a.t) (send-only t a y) (send-formed t a y) (next-send t (b a.file) e a (G.file a.file y.group) y))
  next-done (check a) h = let n = check_done a h in (n.0, onto n.1 n.2)
  next-done (carry a) h = (e, G)

  -- after any call
  pub next : (k : Call) → (e' : ℕ) × Group (outcome t k).table (λ q. entered q (b q) k (eqb (outcome t k).refusal 0)) e'
  unfolding entered
  next k = go (outcome t k).refusal refl
    where
      go : (n : ℕ) → (outcome t k).refusal ≡ n → (e' : ℕ) × Group (outcome t k).table (λ q. entered q (b q) k (eqb n 0)) e'
      go zero z = rw (when-done t k z) (next-done k (sym (refusal_is t k) ∙ z))
      go (suc n) z = rw (eqb-suc-zero n, (when-refused t k (λ x. omega arith)).1) (e, G)

-- ---- a whole list
all_right : (t : List ℕ) (b : ℕ → Book) (e : ℕ) → Group t b e → (q : ℕ) (ks : List Call) → AllRight q t (b q) ks
unfolding AllRight
all_right t b e G q [] = tt
all_right t b e G q (k ∷ ks) =
    let n = next t b e G k in
    (right t b e G q k, all_right (outcome t k).table (λ q. entered q (b q) k (eqb (outcome t k).refusal 0)) n.0 n.1 q ks)

-- the state after a done founding
pub opens : (t : List ℕ) (a : Founding) → (outcome t (founding a)).refusal ≡ 0 → Group (outcome t (founding a)).table (λ q. opened a) 0
unfolding done
opens t a h =
    let f = founds-of t a (sym (refusal_is t (founding a)) ∙ h) in
    rw (when-done t (founding a) h) (record { some = rw (founded-files a f) f.group.0; file = rw (founded-files a f) (founded-state a f) })

pub demand-3 : Demand3
unfolding Demand3
demand-3 t a ks h q = all_right (outcome t (founding a)).table (λ q. opened a) 0 (opens t a h) q ks

-- ---- the state after a list of calls
pub later : (t : List ℕ) (b : ℕ → Book) (e : ℕ) → Group t b e → (ks : List Call) → (e' : ℕ) × Group (table_after t ks) (λ q. book_after q t (b q) ks) e'
unfolding table_after book_after
later t b e G [] = (e, G)
later t b e G (k ∷ ks) =
    let n = next t b e G k in later (outcome t k).table (λ q. entered q (b q) k (eqb (outcome t k).refusal 0)) n.0 n.1 ks

pub reached : (t : List ℕ) (b : ℕ → Book) → Reached t b → (e : ℕ) × Group t b e
reached t b (after t₀ a ks h) = later (outcome t₀ (founding a)).table (λ q. opened a) 0 (opens t₀ a h) ks

pub always-well-formed : AlwaysWellFormed
unfolding AlwaysWellFormed
always-well-formed t b x = well-formed-of t (first-file (reached t b x).1).formed

-- ---- checks
module _ (t : List ℕ) (b : ℕ → Book) (e : ℕ) (G : Group t b e) (a : Checking) where
  six-seven : ByCoordinator t a.c a.r
      → ◌≡◌ {A = ℕ} (cond (quorum_held Write (frame_of t) (answers t 1 a.r) (has a.r)) (cond (eqb a.r (in_force (answers t 1 a.r) (has a.r)).members || every (files_of t) (λ q. current (answers t q a.r) (has a.r))) 0 7) 6)
      (cond (holds_quorum (b 1) Write (has a.r)) (cond (eqb a.r (b 1).in_force.members || each_has_all (files_of t) b (has a.r)) 0 7) 6)
  unfolding each_has_all
  six-seven B = rw (six-check 1 t (b 1) e (first-file G) a.c a.r B) (go (holds_quorum (b 1) Write (has a.r)) refl)
    where
      -- the list in force is that of every book
      held : holds_quorum (b 1) Write (has a.r) ≡ true → (q : ℕ) → Within (files_of t) q → holds_quorum (b q) Write (has a.r) ≡ true
      held z q v = sym (six-check q t (b q) e (G.file q v) a.c a.r B) ∙ six-check 1 t (b 1) e (first-file G) a.c a.r B ∙ z

      go : (x : Bool) → holds_quorum (b 1) Write (has a.r) ≡ x
          → ◌≡◌ {A = ℕ} (cond x (cond (eqb a.r (in_force (answers t 1 a.r) (has a.r)).members || every (files_of t) (λ q. current (answers t q a.r) (has a.r))) 0 7) 6) (cond x (cond (eqb a.r (b 1).in_force.members || every (files_of t) (λ q. some_has_all (b q) (has a.r))) 0 7) 6)
      go true z =
          let w = seven-check 1 t (b 1) e (first-file G) a.c a.r B z in
          let all : every (files_of t) (λ q. current (answers t q a.r) (has a.r)) ≡ every (files_of t) (λ q. some_has_all (b q) (has a.r)) =
          every-ext (files_of t) _ _ (λ q v. (seven-check q t (b q) e (G.file q v) a.c a.r B (held z q v)).1) in
          rw (w.0, all)
      go false z = refl

  check-right : first_no (before 6 (questions t (check a))) ≡ 0
      → first_no (before 8 (questions t (check a))) ≡ cond (holds_quorum (b 1) Write (has a.r)) (cond (eqb a.r (b 1).in_force.members || each_has_all (files_of t) b (has a.r)) 0 7) 6
  unfolding questions before by_coordinator first_no
  check-right h =
      let s = yes-first 0 (sheet_right a.sheet) (by_coordinator t a.c a.r []) h in
      let x = yes-first 0 (well_formed t) (record { ask = 2; yes = is_used t a.c && only_rows (used_of t) a.r } ∷ record { ask = 3; yes = has a.r a.c } ∷ []) s.1 in
      let d = yes-first 1 (is_used t a.c && only_rows (used_of t) a.r) (record { ask = 3; yes = has a.r a.c } ∷ []) x.1 in
      let g = yes-first 2 (has a.r a.c) [] d.1 in
      rw (s.0, x.0, d.0, g.0) (six-seven (passed_first t a.c a.r [] s.1).0)

pub checks-by-book : ChecksByBook
unfolding ChecksByBook
checks-by-book t b x a = let l = reached t b x in check-right t b l.0 l.1 a

-- the list in force after a done check has the members of R
agreed-members : (b : Book) (r : ℕ) → (checked b r).in_force.members ≡ r
unfolding checked agreed laid_now
agreed-members b r = go (eqb r b.in_force.members) refl
  where
    go : (x : Bool) → eqb r b.in_force.members ≡ x → (cond x b (agreed b r)).in_force.members ≡ r
    go true q = sym (eqb-true r b.in_force.members q)
    go false q = refl

-- and by the invariant after it the rows of that list have it
pub check-agrees : CheckAgrees
unfolding CheckAgrees entered whole polled
check-agrees t b x a h q v = record {
  members = agreed-members (b q) a.r;
  own = λ i m. S.inv.epochs.owned i (used i m) ∙ listed i m;
  rows = listed;
}
  where
    n : (e : ℕ) × (files_of (done t (check a)).table ≡ files_of t) × ((q : ℕ) → Within (files_of t) q → State q (done t (check a)).table (checked (b q) a.r) e)
    n = check_done t b (reached t b x).0 (reached t b x).1 a (sym (refusal_is t (check a)) ∙ h)

    S : State q (outcome t (check a)).table (checked (b q) a.r) n.0
    S = subst (λ (o : Outcome). State q o.table (checked (b q) a.r) n.0) (sym (when-done t (check a) h)) (n.2 q v)

    used : (i : ℕ) → has a.r i ≡ true → Within (used_of (outcome t (check a)).table) i
    used i m = has_within _ (checked (b q) a.r).in_force.members i S.inv.epochs.bound (rw (agreed-members (b q) a.r) m)

    listed : (i : ℕ) → has a.r i ≡ true → list_of (outcome t (check a)).table i ≡ (checked (b q) a.r).in_force
    listed i m = (S.inv.epochs.inside i (used i m) (rw (agreed-members (b q) a.r) m)).1

-- ---- 1,000,000 from both sides
-- the claim of a list, for the call after it
last-right : (q : ℕ) (t : List ℕ) (b : Book) (ks : List Call) (k : Call) → AllRight q t b (ks ++ (k ∷ [])) → Right q (table_after t ks) (book_after q t b ks) k (outcome (table_after t ks) k)
unfolding AllRight table_after book_after
last-right q t b [] k a = a.0
last-right q t b (x ∷ ks) k a = last-right q (outcome t x).table (entered q b x (eqb (outcome t x).refusal 0)) ks k a.1

-- by demand 3 itself
pub below-the-limit : BelowTheLimit
unfolding BelowTheLimit Demand3 Right RefusedRight
below-the-limit t b (after t₀ a ks h) k kind q r x w p =
    go k kind q r x w (last-right q (outcome t₀ (founding a)).table (opened a) ks k (demand-3 t₀ a (ks ++ (k ∷ [])) h q)) p
  where
    go : (k : Call) (kind : Kind) (q r : ℕ) → Asks k kind q r → (b q).writes ≡ 999_999 → Right q t (b q) k (outcome t k) → first_no (before 6 (questions t k)) ≡ 0 → (outcome t k).refusal ≡ due (b q) k kind r
    go k kind q r a_read w a p = (a refl).1 p (omega arith)
    go k kind q r a_write w a p = a refl p (omega arith)

pub at-the-limit : AtTheLimit
unfolding AtTheLimit
at-the-limit t b x q w = let l = reached t b x in record {
  writes = λ k r y p. full k q r l.0 w l.1 y p;
  reads = λ k r y p. same k q r l.0 l.1 y p;
  gives = right t b l.0 l.1 q;
}
  where
    full : (k : Call) (q r e : ℕ) → (b q).writes ≡ 1_000_000 → Group t b e → Asks k Write q r → first_no (before 8 (questions t k)) ≡ 0 → (outcome t k).refusal ≡ 8
    full k q r e w G a_write p = write-full t (b q) e w _ (G.file q (passed-seven t (b q) e _ p).4) p

    same : (k : Call) (q r e : ℕ) → Group t b e → Asks k Read q r → first_no (before 6 (questions t k)) ≡ 0 → (outcome t k).refusal ≡ verdict (b q) Read r
    same k q r e G a_read p = read-refused t (b q) e _ (G.file q (read-group t (b q) e _ p)) p
