-- A read, as the code goes through it.
use mathlib.Core.Path.{◌≡◌, sym, ◌∙◌, ap, ap₂}
use mathlib.Core.Bool.{Bool, true, false, cond, ◌&&◌}
use mathlib.Core.List.{List}
use Prim.Native.Nat.{ℕ, ◌+◌, ◌*◌, ◌^◌, ◌≤◌}
use native.Mathlib.Omega.{arith}
use lib.Dec.{eqb}
use lib.ListN.{length}
use borrow.Author.Tests.{eqb-true}
use Rattle.bools.proofs.BoolLaws.{and_l}
use Rattle.sets.specs.Upto.{Within, lowest}
use Rattle.sets.specs.Sets.{has}
use Rattle.sets.proofs.SetLaws.{has_within}
use Rattle.quorums.specs.declared.Kind.TheVariants.{Read}
use Rattle.octets.specs.Bytes.{part}
use Rattle.fields.specs.Layout.{used_of, file_length_of, name_of, copy_bytes, contents, contents_of}
use Rattle.fields.proofs.FieldLaws.{copy_is}
use Rattle.table.specs.Chain.{frame_of}
use Rattle.table.specs.WellFormed.{well_formed}
use Rattle.table.proofs.FormLaws.{formed}
use Rattle.protocol.specs.Polls.{good, current, quorum_held}
use Rattle.asking.specs.Refusals.{no_number}
use Rattle.asking.specs.Asking.{first_no}
use Rattle.protocol.specs.Calls.{Reading, Outcome, read, questions, answers, work_set, done, outcome, result_of, noted}
use Rattle.protocol.proofs.CopyLaws.{copy-long}
use Rattle.protocol.proofs.PollLaws.{lowest-good, worked-in}
use Rattle.protocol.proofs.QuestionLaws.{read-yes, refusal_is, when-done}
use Rattle.settle.specs.declared.Settled.{Settled}
use Rattle.settle.specs.Works.{Works}
use Rattle.questions.specs.Stages.{to_range, a_read}
use Rattle.questions.proofs.QuestionLaws.{range-one, after-range, before-range, called-early, Refused, refused-is}

module _ (t : List ℕ) (a : Reading) where
  -- refused by 1 to 3, 16 or 4
  pub read-early : (n : ℕ) → n ≡ first_no (to_range t a.file a.c a.r a.offset a.count) → 1 ≤ n
      → Refused t (read a) n
  unfolding questions
  read-early n e h = refused-is t (read a) n (before-range t a.c a.r a.file a.offset a.count _ n e h) h

  -- by 1
  pub read_one : well_formed t ≡ false → Refused t (read a) 1 × (noted a.called 0 ≡ (outcome t (read a)).called)
  read_one e =
      let n = range-one t a.c a.r a.file a.offset a.count e in
      (read-early 1 n (omega arith), called-early t (a_read {a = a}) 1 n (omega arith))

  -- question 5: both lent lists
  abbrev five : Bool
  five = eqb (length a.buffer) a.count && eqb (length a.called) 1

  module _ (p : first_no (to_range t a.file a.c a.r a.offset a.count) ≡ 0) where
    after-four : first_no (questions t (read a)) ≡ cond five (cond (quorum_held Read (frame_of t) (answers t a.file a.r) (work_set Read t a.file a.c a.r)) (cond (current (answers t a.file a.r) (work_set Read t a.file a.c a.r)) 0 7) 6) 5
    unfolding questions first_no
    after-four = after-range t a.c a.r a.file a.offset a.count _ p

    -- refused by 5
    pub read-long : five ≡ false → Refused t (read a) 5
    read-long d =
        refused-is t (read a) 5
        (after-four ∙ ap (λ (b : Bool). cond b (cond (quorum_held Read (frame_of t) (answers t a.file a.r) (work_set Read t a.file a.c a.r)) (cond (current (answers t a.file a.r) (work_set Read t a.file a.c a.r)) 0 7) 6) 5) d)
        (omega arith)

    module _ (l : five ≡ true) (v : Settled) (j : Works Read t a.file a.c a.r v) where
      whole : length a.buffer ≡ a.count
      whole = eqb-true _ _ (and_l _ _ l)

      after-poll : first_no (questions t (read a)) ≡ no_number v.asked
      after-poll =
          after-four
          ∙ ap (λ (b : Bool). cond b (cond (quorum_held Read (frame_of t) (answers t a.file a.r) (work_set Read t a.file a.c a.r)) (cond (current (answers t a.file a.r) (work_set Read t a.file a.c a.r)) 0 7) 6) 5) l
          ∙ sym j.refusal

      -- refused by 6 or 7
      pub read_no : (m : ℕ) → no_number v.asked ≡ m → 1 ≤ m → Refused t (read a) m
      read_no m e h = refused-is t (read a) m (after-poll ∙ e) h

      good-is : lowest 64 (has v.good.bits) ≡ lowest 64 (good (answers t a.file a.r) (work_set Read t a.file a.c a.r))
      good-is = ap (lowest 64) j.good

      module _ (z : no_number v.asked ≡ 0) where
        pub source-used : Within (used_of t) (lowest 64 (has v.good.bits))
        unfolding work_set
        source-used =
            let y = read-yes t a (after-poll ∙ z) in
            let g = lowest-good (answers t a.file a.r) (work_set Read t a.file a.c a.r) y.current in
            rw good-is (has_within (used_of t) a.r _ y.first.rows (worked-in Read (frame_of t) (answers t a.file a.r) a.c (name_of t a.c) (has a.r) _ g.1.inside))

        pub range-in : 588 + a.offset + length a.buffer ≤ length (copy_bytes t a.file (lowest 64 (has v.good.bits)))
        range-in =
            let y = read-yes t a (after-poll ∙ z) in
            omega (arith, copy-long t (formed t y.first.formed) (lowest 64 (has v.good.bits)) a.file source-used y.group, copy_is (file_length_of t), y.range, whole)

        pub read_done : (0 * 2 ^ 32 + v.version ≡ result_of (outcome t (read a))) × (t ≡ (outcome t (read a)).table)
            × (part a.offset (length a.buffer) (contents (copy_bytes t a.file (lowest 64 (has v.good.bits)))) ≡ (outcome t (read a)).buffer)
        unfolding done result_of contents_of
        read_done =
            let o = when-done t (read a) (refusal_is t (read a) ∙ after-poll ∙ z) in (
              ap (λ (x : ℕ). 0 * 2 ^ 32 + x) j.version ∙ sym (ap result_of o),
              sym (ap (λ (x : Outcome). x.table) o),
              ap₂ (λ (n i : ℕ). part a.offset n (contents (copy_bytes t a.file i))) whole good-is ∙ sym (ap (λ (x : Outcome). x.buffer) o),
            )
