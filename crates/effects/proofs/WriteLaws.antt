-- A write, as the code goes through it.
use mathlib.Core.Path.{◌≡◌, refl, sym, ◌∙◌, ap, ap₂}
use mathlib.Core.Bool.{Bool, true, false, cond, ◌&&◌}
use mathlib.Core.List.{List, [], ◌∷◌}
use Prim.Native.Nat.{ℕ, ◌+◌, ◌*◌, ◌^◌, ◌≤◌, ◌<◌}
use native.Mathlib.Decide.{ℕ_discrete, dec_lt}
use native.Mathlib.Omega.{arith}
use lib.Dec.{eqb, ltb}
use lib.ListN.{length}
use borrow.Author.Tests.{eq-eqb, ne_eqb, lt-ltb, le-ltb}
use Rattle.sets.specs.Upto.{Within}
use Rattle.sets.specs.Sets.{has}
use Rattle.sets.proofs.SetLaws.{has_within}
use Rattle.quorums.specs.declared.Kind.TheVariants.{Write}
use Rattle.fields.specs.Layout.{get, version, in_copy, used_of, file_length_of, name_of, county_of, copy_bytes, with_rows}
use Rattle.window.specs.Windows.{window_of}
use Rattle.windows.specs.Visits.{RightFor}
use Rattle.table.proofs.FormLaws.{formed}
use Rattle.table.specs.Chain.{order_of, frame_of}
use Rattle.counties.specs.Counties.{Frame}
use Rattle.table.specs.WellFormed.{limit, well_formed}
use Rattle.protocol.specs.Polls.{good_version, good, current, quorum_held}
use Rattle.protocol.specs.Rows.{wrote_copy}
use Rattle.std.specs.Result.{IfOk, is_ok}
use Rattle.std.specs.Prelude.{Result, Ok, Err}
use Rattle.bools.proofs.BoolLaws.{clash}
use Rattle.asking.specs.Refusals.{no_number, answer_number}
use Rattle.asking.specs.declared.Refusal.{Refusal}
use Rattle.asking.proofs.AskingLaws.{some-number}
use Rattle.asking.specs.Asking.{Question, first_no, before}
use Rattle.asking.proofs.AskingLaws.{no-first}
use Rattle.sheet.specs.Sheet.{sheet_right, by_club, counted}
use Rattle.sheet.proofs.SheetLaws.{club-asked, sheet-facts, may_write}
use Rattle.protocol.specs.Calls.{Writing, Outcome, write, questions, answers, work_set, noted, from_six, called_after, done, outcome, result_of, lent_sheet}
use Rattle.protocol.proofs.PollLaws.{worked-in}
use Rattle.protocol.proofs.QuestionLaws.{write-yes, refusal_is, called_is, when-done, when-refused}
use Rattle.protocol.specs.Claims
use Rattle.protocol.specs.Claims.{ResultTells, StaysWellFormed, by_write}
use Rattle.protocol.proofs.Claimed.{result-tells, stays-well-formed}
use Rattle.protocol.proofs.FrameLaws.{same-used, same-frame}
use Rattle.protocol.proofs.FrameKept.{call-frame}
use Rattle.grouping.specs.Grouped.{Framed}
use Rattle.grouping.proofs.GroupLaws.{framed-too}
use Rattle.settle.specs.declared.Settled.{Settled}
use Rattle.settle.specs.Works.{Works}
use Rattle.questions.specs.Stages.{to_range, a_write}
use Rattle.questions.proofs.QuestionLaws.{range-one, after-range, before-range, called-early, Refused, refused-is, no-in, yes-in}

-- the first of some questions answered no
no-here : (m : ℕ) (b : Bool) (qs : List Question) → b ≡ false → first_no (record { ask = m; yes = b } ∷ qs) ≡ m
unfolding first_no
no-here m b qs e = rw e

two-asked : (x y : Bool) (qs : List Question) → first_no (record { ask = 6; yes = x } ∷ record { ask = 7; yes = y } ∷ qs) ≡ cond x (cond y (first_no qs) 7) 6
unfolding first_no
two-asked x y qs = refl

-- refused by 1 for its sheet
sheet-no : (t : List ℕ) (a : Writing) → sheet_right a.sheet ≡ false → Refused t (write a) 1 × (noted a.called 0 ≡ (outcome t (write a)).called)
unfolding questions first_no called_after from_six before
sheet-no t a e = (refused-is t (write a) 1 (rw e) (omega arith), sym (called_is t (write a) ∙ ap (noted a.called) (rw e)))

module _ (t : List ℕ) (a : Writing) (right : sheet_right a.sheet ≡ true) where
  -- refused by 1 for the table, by 2, 3, 16 or 4
  pub write-early : (n : ℕ) → n ≡ first_no (to_range t a.file a.c a.r a.offset (length a.patch)) → 1 ≤ n → Refused t (write a) n
  unfolding questions
  write-early n e h = refused-is t (write a) n (no-first 1 (sheet_right a.sheet) _ right ∙ before-range t a.c a.r a.file a.offset (length a.patch) _ n e h) h

  -- refused by 5
  module _ (p : first_no (to_range t a.file a.c a.r a.offset (length a.patch)) ≡ 0) (d : eqb (length a.called) 1 ≡ false) where
    pub write-long : Refused t (write a) 5
    unfolding questions
    write-long = refused-is t (write a) 5 (no-first 1 (sheet_right a.sheet) _ right ∙ after-range t a.c a.r a.file a.offset (length a.patch) _ p ∙ no-here 5 _ _ d) (omega arith)

  module _ (p : first_no (to_range t a.file a.c a.r a.offset (length a.patch)) ≡ 0) (l : eqb (length a.called) 1 ≡ true) (v : Settled) (j : Works Write t a.file a.c a.r v)
      (n : ℕ) (share : n ≡ first_no (by_club a.sheet a.club [])) where
    -- the set worked on, and what a poll says of it
    abbrev Q : Bool
    Q = quorum_held Write (frame_of t) (answers t a.file a.r) (work_set Write t a.file a.c a.r)

    abbrev K : Bool
    K = current (answers t a.file a.r) (work_set Write t a.file a.c a.r)

    -- 18, 19 and 8
    abbrev later : ℕ
    later = cond (eqb n 0) (cond (ltb v.version limit) 0 8) n

    after-club : first_no (by_club a.sheet a.club (record { ask = 8; yes = ltb (good_version (answers t a.file a.r) (work_set Write t a.file a.c a.r)) limit } ∷ [])) ≡ later
    unfolding first_no
    after-club =
        club-asked a.sheet a.club _
        ∙ ap (λ (m : ℕ). cond (eqb m 0) (cond (ltb (good_version (answers t a.file a.r) (work_set Write t a.file a.c a.r)) limit) 0 8) m) (sym share)
        ∙ ap (λ (m : ℕ). cond (eqb n 0) (cond (ltb m limit) 0 8) n) (sym j.version)

    after-four : first_no (questions t (write a)) ≡ cond Q (cond K later 7) 6
    unfolding questions
    after-four =
        no-first 1 (sheet_right a.sheet) _ right ∙ after-range t a.c a.r a.file a.offset (length a.patch) _ p ∙ no-first 5 (eqb (length a.called) 1) _ l ∙ two-asked Q K _
        ∙ ap (λ (m : ℕ). cond Q (cond K m 7) 6) after-club

    -- refused by 6 or 7
    pub write-no : (m : ℕ) → no_number v.asked ≡ m → 1 ≤ m → Refused t (write a) m
    write-no m e h = refused-is t (write a) m (after-four ∙ no-in Q K later (no_number v.asked) j.refusal (omega (arith, e)) ∙ e) h

    module _ (z : no_number v.asked ≡ 0) where
      after-seven : first_no (questions t (write a)) ≡ later
      after-seven = after-four ∙ yes-in Q K later (no_number v.asked) j.refusal z

      -- refused by 18 or 19
      pub write-share : (m : ℕ) → n ≡ m → 1 ≤ m → Refused t (write a) m
      write-share m e h = refused-is t (write a) m (after-seven ∙ ap (λ (b : Bool). cond b (cond (ltb v.version limit) 0 8) n) (ne_eqb n 0 (λ z. omega (arith, e, z))) ∙ e) h

      after-share : n ≡ 0 → first_no (questions t (write a)) ≡ cond (ltb v.version limit) 0 8
      after-share e = after-seven ∙ ap (λ (b : Bool). cond b (cond (ltb v.version limit) 0 8) n) (eq-eqb n 0 e)

      -- refused by 8
      pub write-full : n ≡ 0 → ltb v.version limit ≡ false → Refused t (write a) 8
      write-full e h = refused-is t (write a) 8 (after-share e ∙ ap (λ (b : Bool). cond b 0 8) h) (omega arith)

      module _ (none : n ≡ 0) (room : ltb v.version limit ≡ true) where
        all_yes : first_no (questions t (write a)) ≡ 0
        all_yes = after-share none ∙ ap (λ (b : Bool). cond b 0 8) room

        pub patch-in : a.offset + length a.patch ≤ file_length_of t
        patch-in = (write-yes t a all_yes).range.1

        -- the rows worked on answered, and are used
        pub works-used : (i : ℕ) → has v.rows.bits i ≡ true → Within (used_of t) i
        unfolding work_set
        works-used i h = has_within (used_of t) a.r i (write-yes t a all_yes).first.rows
            (worked-in Write (frame_of t) (answers t a.file a.r) a.c (name_of t a.c) (has a.r) i (ap (λ (f : ℕ → Bool). f i) (sym j.rows) ∙ h))

        -- their windows are right
        pub works-right : (i : ℕ) → has v.rows.bits i ≡ true → (file : ℕ) × RightFor file (window_of (copy_bytes t a.file i))
        works-right i h =
            let y = write-yes t a all_yes in
            (file_length_of t, record { version = get version (copy_bytes t a.file i); right = ((formed t y.first.formed).copies i a.file (works-used i h) y.group).kept })

        abbrev wrote : (ℕ → Bool) → ℕ → ℕ → List ℕ → List ℕ
        wrote g n i = in_copy (file_length_of t) a.file (wrote_copy g n a.offset a.patch i)

        pub write_done : (0 * 2 ^ 32 + (v.version + 1) ≡ result_of (outcome t (write a)))
            × (with_rows t (has v.rows.bits) (wrote (has v.good.bits) (v.version + 1)) (used_of t) ≡ (outcome t (write a)).table)
        unfolding done result_of
        write_done =
            let o = when-done t (write a) (refusal_is t (write a) ∙ all_yes) in (
              ap (λ (x : ℕ). 0 * 2 ^ 32 + (x + 1)) j.version ∙ sym (ap result_of o),
              ap₂ (λ (x : ℕ → Bool) (g : ℕ → Bool). with_rows t x (wrote g (v.version + 1)) (used_of t)) j.rows j.good
                  ∙ ap (λ (n : ℕ). with_rows t (work_set Write t a.file a.c a.r) (wrote (good (answers t a.file a.r) (work_set Write t a.file a.c a.r)) (n + 1)) (used_of t)) j.version
                  ∙ sym (ap (λ (x : Outcome). x.table) o),
            )

-- refused by 1
pub one-no : (t : List ℕ) (a : Writing) → (sheet_right a.sheet && well_formed t) ≡ false → Refused t (write a) 1 × (noted a.called 0 ≡ (outcome t (write a)).called)
one-no t a e = go (sheet_right a.sheet) refl
  where
    go : (b : Bool) → sheet_right a.sheet ≡ b → Refused t (write a) 1 × (noted a.called 0 ≡ (outcome t (write a)).called)
    go false q = sheet-no t a q
    go true q =
        let n = range-one t a.c a.r a.file a.offset (length a.patch) (rw q at e) in
        (write-early t a q 1 n (omega arith), called-early t (a_write {a = a} q) 1 n (omega arith))

-- ---- the frame
pub same-order : (t u : List ℕ) → frame_of u ≡ frame_of t → (order_of t ≡ order_of u) × (county_of t ≡ county_of u)
unfolding frame_of
same-order t u q = (sym (ap (λ (x : Frame). x.order) q), sym (ap (λ (x : Frame). x.county) q))

-- that which question 1 found is that of the table after the write too
pub write-framed : {t order sets : List ℕ} (a : Writing) → Framed t order sets → Framed (outcome t (write a)).table order sets
unfolding StaysWellFormed
write-framed {t} a f =
    let s = call-frame t (write a) a.r by_write in
    framed-too (stays-well-formed t (write a) Claims.a_write f.formed) (same-used s) (same-frame s) f

-- ---- the sheet: one more where the result is below 2^32
module _ (t : List ℕ) (a : Writing) (x : ℕ) (e : x ≡ result_of (outcome t (write a))) where
  done-low : (outcome t (write a)).refusal ≡ 0 → x < 2 ^ 32
  unfolding ResultTells result_of
  done-low q =
      let s = (result-tells t (write a)).small in
      let z : x ≡ 0 * 2 ^ 32 + (outcome t (write a)).value = e ∙ ap (λ (n : ℕ). n * 2 ^ 32 + (outcome t (write a)).value) q in
      omega (arith, z, s)

  low-done : x < 2 ^ 32 → (outcome t (write a)).refusal ≡ 0
  unfolding result_of
  low-done h = omega (arith, e)

  -- a done write's sheet is right, and its club one of the 16
  pub may-count : x < 2 ^ 32 → (length a.sheet ≡ 196) × Within 16 a.club
  may-count h =
      let y = write-yes t a (sym (refusal_is t (write a)) ∙ low-done h) in
      ((sheet-facts a.sheet y.sheet).long, (may_write a.sheet a.club y.club).club)

  pub counted-or-not : cond (ltb x (2 ^ 32)) (counted a.sheet a.club) a.sheet ≡ (outcome t (write a)).sheet
  unfolding done lent_sheet
  counted-or-not = go (ℕ_discrete (outcome t (write a)).refusal 0)
    where
      high : ((outcome t (write a)).refusal ≡ 0 → ⊥) → Dec (x < 2 ^ 32) → 2 ^ 32 ≤ x
      high d (yes l) = absurd (d (low-done l))
      high d (no l) = omega arith

      go : Dec ((outcome t (write a)).refusal ≡ 0) → cond (ltb x (2 ^ 32)) (counted a.sheet a.club) a.sheet ≡ (outcome t (write a)).sheet
      go (yes q) = rw (lt-ltb x (2 ^ 32) (done-low q), when-done t (write a) q) refl
      go (no d) = let h : 2 ^ 32 ≤ x = high d (dec_lt x (2 ^ 32)) in rw (le-ltb x (2 ^ 32) h) (sym (when-refused t (write a) d).3)

  pub counted-done : x < 2 ^ 32 → counted a.sheet a.club ≡ (outcome t (write a)).sheet
  counted-done h = ap (λ (b : Bool). cond b (counted a.sheet a.club) a.sheet) (sym (lt-ltb x (2 ^ 32) h)) ∙ counted-or-not

  pub not-counted : 2 ^ 32 ≤ x → a.sheet ≡ (outcome t (write a)).sheet
  not-counted h = ap (λ (b : Bool). cond b (counted a.sheet a.club) a.sheet) (sym (le-ltb x (2 ^ 32) h)) ∙ counted-or-not

-- a done write's result is its version, and so below 2^32; a refused one's is not
pub ok-low : (x : Result ℕ Refusal) → true ≡ is_ok x → IfOk x (λ v. v ≤ limit) → answer_number x < 2 ^ 32
unfolding limit
ok-low (Ok v) e h = omega arith
ok-low (Err r) e h = absurd (clash (sym e))

pub err-high : (x : Result ℕ Refusal) → false ≡ is_ok x → 2 ^ 32 ≤ answer_number x
err-high (Ok v) e = absurd (clash e)
err-high (Err r) e = omega (arith, some-number r)
