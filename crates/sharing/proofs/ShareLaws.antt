-- Fair use of calls and of histories.
use mathlib.Core.Path.{◌≡◌, refl, sym, ◌∙◌, ap}
use mathlib.Core.Bool.{Bool, true, false, cond}
use mathlib.Core.Logic.{◌⊎◌, inl, inr, ⊎_elim}
use mathlib.Core.List.{List, [], ◌∷◌}
use Prim.Native.Nat.{ℕ, zero, suc, ◌+◌, ◌≤◌}
use native.Mathlib.Decide.{ℕ_discrete}
use native.Mathlib.Omega.{arith}
use lib.Dec.{eqb, ltb, eqb-suc-zero}
use Rattle.sets.specs.Sets.{has}
use Rattle.asking.specs.Asking.{Question, first_no}
use Rattle.sheet.specs.Sheet.{sum, count_of, sheet_right, by_club, counted, cleared}
use Rattle.sheet.specs.Claims.{AssuredNeverRefused, CountsOne, ClearsAll}
use Rattle.sheet.proofs.SumLaws.{sum-zero}
use Rattle.sheet.proofs.SheetLaws.{assured-never-refused, counts-one, clears-all, club-passed}
use Rattle.fields.specs.declared.Laid.{Laid}
use Rattle.quorums.specs.declared.Kind.TheVariants.{Write}
use Rattle.table.specs.WellFormed.{limit}
use Rattle.protocol.specs.Polls.{in_force, good_version}
use Rattle.protocol.specs.Calls.{Writing, Checking, Call, founding, join, read, write, send, check, carry, outcome, done, questions, by_coordinator, answers, work_set, lent_sheet}
use Rattle.protocol.proofs.QuestionLaws.{refusal_is, when-done, when-refused, WriteYes, write-yes, CheckYes, check-yes}
use Rattle.history.specs.Book.{Book, opened, entered}
use Rattle.history.proofs.State.{six-check, seven-check}
use Rattle.history.proofs.Answers.{Group, first-file}
use Rattle.history.proofs.Theorems.{next, opens}
use Rattle.sharing.specs.Shares.{AssuredNeverTurnedDown, to_write, to_check, SheetStaysRight, LentIt, sheet_after, OneSheet, last_sheet, since, done_since, CountsSum}

-- ---- an assured write
-- n is neither 18 nor 19
Other : ℕ → Type 0
Other n = (n ≤ 8) ⊎ (n ≡ 16)

one-other : (q : Question) (qs : List Question) → Other q.ask → Other (first_no qs) → Other (first_no (q ∷ qs))
unfolding first_no
one-other q qs h l = go q.yes
  where
    go : (b : Bool) → Other (cond b (first_no qs) q.ask)
    go true = l
    go false = h

-- where 18 and 19 are answered yes, only 8 is left after 7
last-other : (s : List ℕ) (x : ℕ) (b : Bool) → first_no (by_club s x []) ≡ 0 → Other (first_no (by_club s x (record { ask = 8; yes = b } ∷ [])))
unfolding first_no Other
last-other s x b p = rw (club-passed s x (record { ask = 8; yes = b } ∷ []) p) (one-other (record { ask = 8; yes = b }) [] (inl (omega arith)) (inl (omega arith)))

-- and the first no is another
questions-other : (t : List ℕ) (a : Writing) → first_no (by_club a.sheet a.club []) ≡ 0 → Other (first_no (questions t (write a)))
unfolding questions by_coordinator Other
questions-other t a p =
    let low : (n : ℕ) → n ≤ 8 → Other n = λ n h. inl h in
    one-other _ _ (low 1 (omega arith)) (one-other _ _ (low 1 (omega arith)) (one-other _ _ (low 2 (omega arith)) (one-other _ _ (low 3 (omega arith)) (one-other _ _ (inr refl) (one-other _ _ (low 4 (omega arith))
    (one-other _ _ (low 5 (omega arith)) (one-other _ _ (low 6 (omega arith)) (one-other _ _ (low 7 (omega arith))
    (last-other a.sheet a.club (ltb (good_version (answers t a.file a.r) (work_set Write t a.file a.c a.r)) limit) p)))))))))

pub assured-never-turned-down : AssuredNeverTurnedDown
unfolding AssuredNeverTurnedDown AssuredNeverRefused Other
assured-never-turned-down t a r c h =
    let l = questions-other t a (assured-never-refused a.sheet a.club r c h) in
    let e = refusal_is t (write a) in
    (λ z. ⊎_elim (λ s. omega (arith, s, e)) (λ s. omega (arith, s, e)) l, λ z. ⊎_elim (λ s. omega (arith, s, e)) (λ s. omega (arith, s, e)) l)

-- ---- the sheet after a write and after a check
module _ (t : List ℕ) where
  write_done : (a : Writing) → (outcome t (write a)).refusal ≡ 0 → (outcome t (write a)).sheet ≡ counted a.sheet a.club
  unfolding done
  write_done a q = rw (when-done t (write a) q) refl

  write_kept : (a : Writing) → ((outcome t (write a)).refusal ≡ 0 → ⊥) → (outcome t (write a)).sheet ≡ a.sheet
  unfolding lent_sheet
  write_kept a d = (when-refused t (write a) d).3

  check_done : (a : Checking) → (outcome t (check a)).refusal ≡ 0
      → (outcome t (check a)).sheet ≡ cond (eqb a.r (in_force (answers t 1 a.r) (has a.r)).members) a.sheet (cleared a.sheet)
  unfolding done
  check_done a q = rw (when-done t (check a) q) refl

  check-kept : (a : Checking) → ((outcome t (check a)).refusal ≡ 0 → ⊥) → (outcome t (check a)).sheet ≡ a.sheet
  unfolding lent_sheet
  check-kept a d = (when-refused t (check a) d).3

  write-passed : (a : Writing) → (outcome t (write a)).refusal ≡ 0 → WriteYes t a
  write-passed a q = write-yes t a (sym (refusal_is t (write a)) ∙ q)

  check-passed : (a : Checking) → (outcome t (check a)).refusal ≡ 0 → CheckYes t a
  check-passed a q = check-yes t a (sym (refusal_is t (check a)) ∙ q)

pub sheet-stays-right : SheetStaysRight
unfolding SheetStaysRight CountsOne ClearsAll lent_sheet
sheet-stays-right t (write a) to_write r = go (ℕ_discrete (outcome t (write a)).refusal 0)
  where
    go : Dec ((outcome t (write a)).refusal ≡ 0) → sheet_right (outcome t (write a)).sheet ≡ true
    go (yes q) = rw (write_done t a q) (counts-one a.sheet a.club r (write-passed t a q).club).right
    go (no d) = rw (write_kept t a d) r
sheet-stays-right t (check a) to_check r = go (ℕ_discrete (outcome t (check a)).refusal 0)
  where
    either : (b : Bool) → sheet_right (cond b a.sheet (cleared a.sheet)) ≡ true
    either true = r
    either false = (clears-all a.sheet r).right

    go : Dec ((outcome t (check a)).refusal ≡ 0) → sheet_right (outcome t (check a)).sheet ≡ true
    go (yes q) = rw (check_done t a q) (either (eqb a.r (in_force (answers t 1 a.r) (has a.r)).members))
    go (no d) = rw (check-kept t a d) r
sheet-stays-right t (founding _) x3 r = elim x3 [ ]
sheet-stays-right t (join _) x4 r = elim x4 [ ]
sheet-stays-right t (read _) x5 r = elim x5 [ ]
sheet-stays-right t (send _) x6 r = elim x6 [ ]
sheet-stays-right t (carry _) x7 r = elim x7 [ ]

-- ---- the counts over a history: they sum to n so far
abbrev all_counts : List ℕ → ℕ
all_counts s = sum 16 (count_of s)

module _ (t : List ℕ) (b : ℕ → Book) (e : ℕ) (G : Group t b e) (s : List ℕ) (n : ℕ) (so_far : all_counts s ≡ n) where
  step-write : (a : Writing) → a.sheet ≡ s → all_counts (outcome t (write a)).sheet ≡ since n (b 1) (write a) (eqb (outcome t (write a)).refusal 0)
  unfolding since CountsOne
  step-write a l = go (outcome t (write a)).refusal refl
    where
      go : (x : ℕ) → (outcome t (write a)).refusal ≡ x → all_counts (outcome t (write a)).sheet ≡ since n (b 1) (write a) (eqb x 0)
      go zero q =
          let y = write-passed t a q in
          ap all_counts (write_done t a q) ∙ (counts-one a.sheet a.club y.sheet y.club).sum ∙ ap (λ (u : List ℕ). all_counts u + 1) l ∙ ap (λ (m : ℕ). m + 1) so_far
      go (suc x) q = rw (eqb-suc-zero x) (ap all_counts (write_kept t a (λ z. omega arith) ∙ l) ∙ so_far)

  -- V is the list in force in the book
  step-check : (a : Checking) → a.sheet ≡ s → all_counts (outcome t (check a)).sheet ≡ since n (b 1) (check a) (eqb (outcome t (check a)).refusal 0)
  unfolding since ClearsAll
  step-check a l = go (outcome t (check a)).refusal refl
    where
      either : CheckYes t a → (x : Bool) → all_counts (cond x a.sheet (cleared a.sheet)) ≡ cond x n 0
      either y true = ap all_counts l ∙ so_far
      either y false = (clears-all a.sheet y.sheet).sum

      go : (x : ℕ) → (outcome t (check a)).refusal ≡ x → all_counts (outcome t (check a)).sheet ≡ since n (b 1) (check a) (eqb x 0)
      go zero q =
          let y = check-passed t a q in
          let S = first-file G in
          let f = (seven-check 1 t (b 1) e S a.c a.r y.first (sym (six-check 1 t (b 1) e S a.c a.r y.first) ∙ y.quorum)).0 in
          ap all_counts (check_done t a q) ∙ either y (eqb a.r (in_force (answers t 1 a.r) (has a.r)).members) ∙ ap (λ (v : Laid). cond (eqb a.r v.members) n 0) f
      go (suc x) q = rw (eqb-suc-zero x) (ap all_counts (check-kept t a (λ z. omega arith) ∙ l) ∙ so_far)

  -- a call that counts nothing where it is done
  idle : (k : Call) → since n (b 1) k true ≡ n → all_counts s ≡ since n (b 1) k (eqb (outcome t k).refusal 0)
  unfolding since
  idle k h = so_far ∙ go (eqb (outcome t k).refusal 0)
    where
      go : (x : Bool) → n ≡ since n (b 1) k x
      go true = sym h
      go false = refl

  step : (k : Call) → LentIt s k → all_counts (sheet_after t s k) ≡ since n (b 1) k (eqb (outcome t k).refusal 0)
  unfolding LentIt sheet_after since
  step (founding a) l = absurd l
  step (join a) l = idle (join a) refl
  step (read a) l = idle (read a) refl
  step (write a) l = step-write a l
  step (send a) l = idle (send a) refl
  step (check a) l = step-check a l
  step (carry a) l = idle (carry a) refl

all-steps : (t : List ℕ) (b : ℕ → Book) (e : ℕ) → Group t b e → (s : List ℕ) (n : ℕ) → all_counts s ≡ n → (ks : List Call) → OneSheet t s ks → all_counts (last_sheet t s ks) ≡ done_since n t (b 1) ks
unfolding OneSheet last_sheet done_since
all-steps t b e G s n h [] l = h
all-steps t b e G s n h (k ∷ ks) l =
    let m = next t b e G k in
    all-steps (outcome t k).table (λ q. entered q (b q) k (eqb (outcome t k).refusal 0)) m.0 m.1 (sheet_after t s k) (since n (b 1) k (eqb (outcome t k).refusal 0)) (step t b e G s n h k l.0) ks l.1

pub counts-sum : CountsSum
unfolding CountsSum
counts-sum t a s ks h z l = all-steps (outcome t (founding a)).table (λ q. opened a) 0 (opens t a h) s 0 (sum-zero 16 (count_of s) z) ks l
