-- Other files have no part in a call that names a file, and stay as they were.
use mathlib.Core.Path.{◌≡◌, refl, sym, ◌∙◌, ap, ap₂, subst, fun_ext}
use mathlib.Core.Bool.{Bool, true, false, cond, ◌&&◌}
use mathlib.Core.List.{List, []}
use Prim.Native.Nat.{ℕ, zero, suc, ◌+◌, ◌*◌, ◌≤◌}
use native.Mathlib.Nat.{mul-le-mul_right}
use native.Mathlib.Decide.{dec_le}
use native.Mathlib.Omega.{arith}
use lib.Dec.{eqb}
use lib.ListN.{take, drop}
use Rattle.bools.proofs.BoolLaws.{clash}
use Rattle.sets.specs.Upto.{Within}
use Rattle.sets.specs.Sets.{has}
use Rattle.sets.proofs.SetLaws.{empty-at}
use Rattle.quorums.specs.declared.Kind.{Kind}
use Rattle.quorums.specs.declared.Kind.TheVariants.{Read, Write}
use Rattle.octets.specs.Bytes.{part}
use Rattle.fields.specs.Layout.{get, name, link, county, epoch, mark, version, desired, no_list, contents, used_of, name_of, link_of, epoch_of, list_of, stale_of, version_of, desired_of, contents_of, row_bytes, row_length, rows_end, copy_in, copy_bytes}
use Rattle.blocks.specs.Blocks.{block}
use Rattle.table.proofs.FormLaws.{Formed, well-formed-of}
use Rattle.table.proofs.CountyLaws.{county-at}
use Rattle.fields.proofs.FieldLaws.{head-get, head-list}
use Rattle.asking.specs.Asking.{first_no}
use Rattle.protocol.specs.Polls.{polled}
use Rattle.protocol.specs.Rows.{refreshed_copy}
use Rattle.protocol.specs.Calls.{Call, read, write, send, by_coordinator, is_used, in_file, in_group, questions, called_by, called_after, done, outcome, answers, work_set, carry, check, founding, join}
use Rattle.protocol.specs.Claims.{OfFile, reads_file, writes_file, sends_file, OtherFiles, OtherFilesStay, EqualIn, EqualInFile, SameInFile, OtherFilesHaveNoPart}
use Rattle.protocol.proofs.QuestionLaws.{refusal_is, called_is, when-done, when-refused, write-yes, send-yes}
use Rattle.protocol.proofs.CopyLaws.{SameHead, OnlyCopies, out-copy}
use Rattle.protocol.proofs.DoneLaws.{writing, write_table, write-only, sending, send_table, send-only}
use Rattle.protocol.proofs.Unanswered.{first_part, used-same, file-same, files-same, used-by, framed-same, widths, rest, drop_more}

-- ---- other files stay
none : (q : ℕ) (t : List ℕ) → OtherFiles q t t
none q t = record { heads = λ i u. refl; copies = λ i p u d. refl }

of-only : {q : ℕ} {t u : List ℕ} {s : ℕ → Bool} {g : ℕ → List ℕ → List ℕ} → OnlyCopies t u q s g → OtherFiles q t u
unfolding part
of-only o = record { heads = λ i u. o.heads i u 0 32 (omega arith); copies = o.others }

stay-done : (t : List ℕ) (k : Call) (q : ℕ) → OfFile k q → first_no (questions t k) ≡ 0 → OtherFiles q t (done t k).table
unfolding done write_table writing send_table
stay-done t (read a) q reads_file h = none a.file t
stay-done t (write a) q writes_file h = of-only (write-only t a (write-yes t a h))
stay-done t (send a) q sends_file h = of-only (send-only t a (send-yes t a h))
stay-done t (founding _) q x3 h = elim x3 [ ]
stay-done t (join _) q x4 h = elim x4 [ ]
stay-done t (check _) q x5 h = elim x5 [ ]
stay-done t (carry _) q x6 h = elim x6 [ ]

pub other-files-stay : OtherFilesStay
unfolding OtherFilesStay
other-files-stay t k q n = go (outcome t k).refusal refl
  where
    go : (x : ℕ) → (outcome t k).refusal ≡ x → OtherFiles q t (outcome t k).table
    go zero e = rw (when-done t k e) (stay-done t k q n (sym (refusal_is t k) ∙ e))
    go (suc x) e = rw (when-refused t k (λ z. omega arith)).1 (none q t)

-- for another file the tables are equal
pub only-equal : {t u : List ℕ} {q : ℕ} {s : ℕ → Bool} {g : ℕ → List ℕ → List ℕ} → OnlyCopies t u q s g → Formed t → Formed u → (p : ℕ) → (p ≡ q → ⊥) → EqualInFile p t u
unfolding part
only-equal {t} {u} {q} o w x p d = record {
  formed = well-formed-of t w;
  formed-too = well-formed-of u x;
  header = sym (o.leaves.change.like.header 0 16 (omega arith));
  heads = λ i v. sym (o.heads i v 0 32 (omega arith));
  copies = λ i v. sym (o.others i p v d);
}

-- ---- and have no part
module _ {q : ℕ} {t u : List ℕ} (E : EqualInFile q t u) where
  -- any part of a used row's head
  heads : (i : ℕ) → Within (used_of t) i → SameHead (row_bytes u i) (row_bytes t i)
  heads i w b m h = sym (first_part 32 b m (row_bytes t i) h) ∙ ap (part b m) (E.heads i w) ∙ first_part 32 b m (row_bytes u i) h

  -- names, links, counties and header alone
  frame : EqualIn 0 t u
  unfolding name_of link_of name link county
  frame = record {
    formed = E.formed;
    formed-too = E.formed-too;
    header = E.header;
    names = λ i w. head-get (row_bytes u i) (row_bytes t i) (heads i w) name (omega arith);
    links = λ i w. head-get (row_bytes u i) (row_bytes t i) (heads i w) link (omega arith);
    counties = λ i w. county-at t i w ∙ head-get (row_bytes u i) (row_bytes t i) (heads i w) county (omega arith) ∙ sym (county-at u i (rw (used-by t u E.header) w));
    rows = λ i m. absurd (clash (sym (empty-at i) ∙ m));
  }

  -- a row behind the used ones is the same: both are zero there
  row-behind : (k : ℕ) → used_of t ≤ k → row_bytes u (suc k) ≡ row_bytes t (suc k)
  unfolding row_bytes block part rows_end
  row-behind k l =
      ap (λ (w : ℕ). take w (drop (16 + k * w) u)) (widths frame)
      ∙ ap (take (row_length t)) (drop_more (rows_end t (used_of t)) (16 + k * row_length t) u t (omega (arith, mul-le-mul_right {m = used_of t} {n = k} (row_length t) l)) (rest frame))

  -- so heads and copies are, of every row
  same_head : (i : ℕ) → SameHead (row_bytes t i) (row_bytes u i)
  unfolding row_bytes block
  same_head zero b m h = refl
  same_head (suc k) b m h = go (dec_le (suc k) (used_of t))
    where
      go : Dec (suc k ≤ used_of t) → part b m (row_bytes u (suc k)) ≡ part b m (row_bytes t (suc k))
      go (yes l) = sym (heads (suc k) (omega arith) b m h)
      go (no l) = ap (part b m) (row-behind k (omega arith))

  same_copy : (i : ℕ) → copy_bytes u q i ≡ copy_bytes t q i
  unfolding row_bytes block copy_bytes
  same_copy zero = ap (λ (f : ℕ). copy_in f q []) (file-same frame)
  same_copy (suc k) = go (dec_le (suc k) (used_of t))
    where
      go : Dec (suc k ≤ used_of t) → copy_bytes u q (suc k) ≡ copy_bytes t q (suc k)
      go (yes l) = sym (E.copies (suc k) (omega arith))
      go (no l) = ap₂ (λ (f : ℕ) (x : List ℕ). copy_in f q x) (file-same frame) (row-behind k (omega arith))

  name-same : name_of u ≡ name_of t
  unfolding name_of name
  name-same = fun_ext (λ i. head-get (row_bytes t i) (row_bytes u i) (same_head i) name (omega arith))

  copies-same : copy_bytes u q ≡ copy_bytes t q
  copies-same = fun_ext same_copy

  epochs-same : epoch_of u ≡ epoch_of t
  unfolding epoch_of epoch
  epochs-same = fun_ext (λ i. head-get (row_bytes t i) (row_bytes u i) (same_head i) epoch (omega arith))

  lists-same : list_of u ≡ list_of t
  unfolding list_of
  lists-same = fun_ext (λ i. head-list (row_bytes t i) (row_bytes u i) (same_head i))

  says : (stale_of u q ≡ stale_of t q) × (version_of u q ≡ version_of t q) × (desired_of u q ≡ desired_of t q) × (contents_of u q ≡ contents_of t q)
  unfolding stale_of version_of desired_of contents_of
  says = (
    ap (λ (c : ℕ → List ℕ). λ (i : ℕ). eqb (get mark (c i)) 1) copies-same,
    ap (λ (c : ℕ → List ℕ). λ (i : ℕ). get version (c i)) copies-same,
    ap (λ (c : ℕ → List ℕ). λ (i : ℕ). get desired (c i)) copies-same,
    ap (λ (c : ℕ → List ℕ). λ (i : ℕ). contents (c i)) copies-same,
  )

  -- what any rows say of the file
  pub polled-same : (s : ℕ → Bool) → polled u q s ≡ polled t q s
  unfolding polled
  polled-same s = λ j. record {
    stale = λ i. s i && says.0 j i;
    version = λ i. cond (s i) (says.1 j i) 0;
    desired = λ i. cond (s i) (says.2 j i) 0;
    epoch = λ i. cond (s i) (epochs-same j i) 0;
    list = λ i. cond (s i) (lists-same j i) no_list;
  }

  pub contents-same : contents_of u q ≡ contents_of t q
  contents-same = says.3

  poll-same : (r : ℕ) → answers u q r ≡ answers t q r
  unfolding answers
  poll-same r = polled-same (has r)

  work-same : (kind : Kind) (c r : ℕ) → work_set kind u q c r ≡ work_set kind t q c r
  unfolding work_set
  work-same kind c r = rw (framed-same frame, poll-same r, name-same)

  called-by-same : (kind : Kind) (c r : ℕ) → called_by kind u q c r ≡ called_by kind t q c r
  unfolding called_by
  called-by-same kind c r = rw (framed-same frame, poll-same r, name-same, used-same frame)

asks-same : (t u : List ℕ) (k : Call) (q : ℕ) → OfFile k q → EqualInFile q t u → questions u k ≡ questions t k
unfolding questions by_coordinator is_used in_file in_group
asks-same t u (read a) q reads_file E =
    rw (E.formed, E.formed-too, used-same (frame E), files-same (frame E), file-same (frame E), work-same E Read a.c a.r, poll-same E a.r, framed-same (frame E))
asks-same t u (write a) q writes_file E =
    rw (E.formed, E.formed-too, used-same (frame E), files-same (frame E), file-same (frame E), work-same E Write a.c a.r, poll-same E a.r, framed-same (frame E))
asks-same t u (send a) q sends_file E =
    rw (E.formed, E.formed-too, used-same (frame E), files-same (frame E), (says E).0, (says E).1, (says E).2)
asks-same t u (founding _) q x3 E = elim x3 [ ]
asks-same t u (join _) q x4 E = elim x4 [ ]
asks-same t u (check _) q x5 E = elim x5 [ ]
asks-same t u (carry _) q x6 E = elim x6 [ ]

called_same : (t u : List ℕ) (k : Call) (q : ℕ) → OfFile k q → EqualInFile q t u → called_after t k ≡ called_after u k
unfolding called_after
called_same t u (read a) q reads_file E = rw (asks-same t u (read a) q reads_file E, called-by-same E Read a.c a.r)
called_same t u (write a) q writes_file E = rw (asks-same t u (write a) q writes_file E, called-by-same E Write a.c a.r)
called_same t u (send a) q sends_file E = refl
called_same t u (founding _) q x3 E = elim x3 [ ]
called_same t u (join _) q x4 E = elim x4 [ ]
called_same t u (check _) q x5 E = elim x5 [ ]
called_same t u (carry _) q x6 E = elim x6 [ ]

-- copies of q that were changed alike
changed-same : {t u t' u' : List ℕ} {q : ℕ} {s : ℕ → Bool} {g : ℕ → List ℕ → List ℕ} → EqualInFile q t u → OnlyCopies t t' q s g → OnlyCopies u u' q s g
    → (i : ℕ) → Within (used_of t) i → copy_bytes t' q i ≡ copy_bytes u' q i
changed-same {t} {u} {t'} {u'} {q} {s} {g} E a b i w = go (s i) refl
  where
    v : Within (used_of u) i
    v = rw (used-same (frame E)) w

    go : (x : Bool) → s i ≡ x → copy_bytes t' q i ≡ copy_bytes u' q i
    go true m = a.named i w m ∙ ap (g i) (E.copies i w) ∙ sym (b.named i v m)
    go false m = out-copy a.leaves i q w m ∙ E.copies i w ∙ sym (out-copy b.leaves i q v m)

done-same : (t u : List ℕ) (k : Call) (q : ℕ) → OfFile k q → EqualInFile q t u → first_no (questions t k) ≡ 0 → first_no (questions u k) ≡ 0 → SameInFile q t (done t k) (done u k)
unfolding done write_table writing send_table sending
done-same t u (read a) q reads_file E ht hu = record {
  refusal = refl;
  value = rw (work-same E Read a.c a.r, poll-same E a.r);
  buffer = rw (work-same E Read a.c a.r, poll-same E a.r, (says E).3);
  called = called_same t u (read a) q reads_file E;
  sheet = refl;
  copies = λ i w. E.copies i w;
}
done-same t u (write a) q writes_file E ht hu = record {
  refusal = refl;
  value = rw (work-same E Write a.c a.r, poll-same E a.r);
  buffer = refl;
  called = called_same t u (write a) q writes_file E;
  sheet = refl;
  copies = changed-same E (write-only t a (write-yes t a ht)) alike;
}
  where
    alike : OnlyCopies u (done u (write a)).table a.file (work_set Write t a.file a.c a.r) (writing t a (write-yes t a ht))
    alike = rw (← work-same E Write a.c a.r, ← poll-same E a.r) (write-only u a (write-yes u a hu))
done-same t u (send a) q sends_file E ht hu = record {
  refusal = refl;
  value = rw (says E).1;
  buffer = refl;
  called = called_same t u (send a) q sends_file E;
  sheet = refl;
  copies = changed-same E (send-only t a (send-yes t a ht)) alike;
}
  where
    alike : OnlyCopies u (done u (send a)).table a.file (eqb a.t) (sending t a (send-yes t a ht))
    alike = subst (λ (x : List ℕ). OnlyCopies u (done u (send a)).table a.file (eqb a.t) (λ i. refreshed_copy x)) (same_copy E a.f) (send-only u a (send-yes u a hu))
done-same t u (founding _) q x5 E ht hu = elim x5 [ ]
done-same t u (join _) q x6 E ht hu = elim x6 [ ]
done-same t u (check _) q x7 E ht hu = elim x7 [ ]
done-same t u (carry _) q x8 E ht hu = elim x8 [ ]

pub other-files-have-no-part : OtherFilesHaveNoPart
unfolding OtherFilesHaveNoPart
other-files-have-no-part t u k q n E = go (outcome t k).refusal refl
  where
    same : (outcome u k).refusal ≡ (outcome t k).refusal
    same = refusal_is u k ∙ ap first_no (asks-same t u k q n E) ∙ sym (refusal_is t k)

    go : (x : ℕ) → (outcome t k).refusal ≡ x → SameInFile q t (outcome t k) (outcome u k)
    go zero e = rw (when-done t k e, when-done u k (same ∙ e)) (done-same t u k q n E (sym (refusal_is t k) ∙ e) (sym (refusal_is u k) ∙ same ∙ e))
    go (suc x) e =
        let a = when-refused t k (λ z. omega arith) in
        let b = when-refused u k (λ z. omega (arith, same)) in
        record {
          refusal = sym same;
          value = a.0 ∙ sym b.0;
          buffer = a.2 ∙ sym b.2;
          called = called_is t k ∙ called_same t u k q n E ∙ sym (called_is u k);
          sheet = a.3 ∙ sym b.3;
          copies = λ i w. ap (λ (x : List ℕ). copy_bytes x q i) a.1 ∙ E.copies i w ∙ sym (ap (λ (x : List ℕ). copy_bytes x q i) b.1);
        }
