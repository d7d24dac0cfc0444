-- The table after a call against the book after it.
use mathlib.Core.Path.{◌≡◌, refl, sym, ◌∙◌, ap, ap₂, subst}
use mathlib.Core.Bool.{Bool, true, false, cond}
use mathlib.Core.Logic.{◌⊎◌, ⊎_elim, inl, inr}
use mathlib.Core.List.{List}
use Prim.Native.Nat.{ℕ, suc, ◌+◌, ◌-◌, ◌≤◌, ◌<◌}
use native.Mathlib.Decide.{ℕ_discrete}
use native.Mathlib.Numerals.{add-one}
use native.Mathlib.Omega.{arith}
use lib.Dec.{eqb}
use lib.ListN.{length, get_or}
use borrow.Author.Tests.{eqb-false, eq-eqb, ne_eqb}
use Rattle.sets.specs.Upto.{Within}
use Rattle.sets.specs.Sets.{has}
use Rattle.quorums.specs.declared.Kind.TheVariants.{Write}
use Rattle.fields.specs.Layout.{get, mark, version, desired, epoch, list, contents, copy_bytes, used_of, files_of, file_length_of, name_of, county_of, stale_of, version_of, desired_of, contents_of, epoch_of, list_of, is_tall}
use Rattle.table.specs.WellFormed.{limit}
use Rattle.octets.specs.Bytes.{zeros}
use Rattle.octets.proofs.ByteLaws.{length-put}
use Rattle.table.proofs.FormLaws.{Formed}
use Rattle.fields.specs.declared.Laid.{Laid}
use Rattle.fields.proofs.FieldLaws.{BlankCopy}
use Rattle.joining.specs.Joining.{joined}
use Rattle.joining.specs.Claims.{OneMore}
use Rattle.joining.proofs.FrameLaws.{joined-alters}
use Rattle.joining.proofs.RowLaws.{more-used, file-kept, files-kept, kept, copies_kept, list-kept, new-says, new-copies, county-kept, county-new, more-chain, more-formed}
use Rattle.joining.proofs.OrderLaws.{Joined}
use Rattle.sets.proofs.UptoLaws.{last}
use Rattle.counties.specs.Counties.{county_at}
use Rattle.counties.specs.Marks.{laid_now}
use Rattle.protocol.specs.Polls.{polled, highest_epoch, in_force, good_version, good, current}
use Rattle.protocol.specs.Calls.{Joining, Writing, Sending, Checking, answers, work_set}
use Rattle.protocol.proofs.RowLaws.{copy_kit, fields_of, changed}
use Rattle.protocol.proofs.FrameLaws.{SameFrame, same-used, same-file, same-files}
use Rattle.protocol.proofs.QuestionLaws.{JoinYes, WriteYes, SendYes, CheckYes}
use Rattle.protocol.proofs.CopyLaws.{OnlyCopies, out-copy}
use Rattle.protocol.proofs.OtherFiles.{only-equal, polled-same, contents-same}
use Rattle.protocol.proofs.DoneLaws.{file-low, CopyBecomes, patch-fits, write_table, write-leaves, write-taken, write-marked, send_table, send-leaves, send-target, check_table, check-leaves, check-taken, check-marked}
use Rattle.protocol.proofs.KeepLaws.{good-newest, write-formed, write-membership, send-formed, send-membership, check-formed, check-membership}
use Rattle.history.specs.Book.{Book, name_in, county_in, holds_quorum, write_set, written, passed_on, agreed, checked, admitted}
use Rattle.history.proofs.Invariant.{Inv, set_is}
use Rattle.history.proofs.Steps.{Is, Stays, Wrote, keep-write, Sent, keep-send, Checked, keep-check}
use Rattle.history.proofs.Joined.{names_more, old-name, new-name, places-more, old-county, new-county, Grown, keep_join}
use Rattle.history.proofs.State.{polls-alike, whole, State, county-is, few, epoch-whole, good-whole, six-check, force-check, version-whole, current-whole, answered, work-is, work-sub, work-used, work-quorum}
use Rattle.history.proofs.Answers.{current-all, version_now}
use Rattle.history.proofs.Trail.{Trail, SameKept, same_kept, same_copy, trail-same, trail_more, trail-write, sent-all}
use Rattle.history.specs.Claims.{kept_of}
use Rattle.window.specs.Windows.{Window, window_of, emptied, patched}
use Rattle.window.proofs.CopyLaws.{window-blank}
use Rattle.protocol.specs.Rows.{sent_contents}

-- what row i of u says of file q, where it became so
is-of : (t u : List ℕ) (q i : ℕ) {f : ℕ → ℕ} {c : List ℕ} {w : Window} → CopyBecomes t u q i f c w → Is (whole u q) (contents_of u q) i (eqb (f 1) 1) (f 2) (f 3) c
unfolding whole polled stale_of version_of desired_of contents_of copy_kit
is-of t u q i b = record {
  stale = ap (λ (x : ℕ). eqb x 1) (b.fields 1 (omega arith));
  version = b.fields 2 (omega arith);
  desired = b.fields 3 (omega arith);
  contents = b.bytes;
}

-- a copy that stays as it was
stays_of : (t u : List ℕ) (q i : ℕ) → copy_bytes u q i ≡ copy_bytes t q i → Stays (whole t q) (contents_of t q) (whole u q) (contents_of u q) i
unfolding whole polled stale_of version_of desired_of contents_of
stays_of t u q i e = record {
  stale = ap (λ (x : List ℕ). eqb (get mark x) 1) e;
  version = ap (get version) e;
  desired = ap (get desired) e;
  contents = ap contents e;
}

-- what row i of u keeps, where it became so
kept_same : (t u : List ℕ) (q i : ℕ) {f : ℕ → ℕ} → CopyBecomes t u q i f (contents (copy_bytes t q i)) (window_of (copy_bytes t q i)) → f 2 ≡ version_of t q i → SameKept q t u i
unfolding version_of contents_of copy_kit
kept_same t u q i b e = record { version = b.fields 2 (omega arith) ∙ e; contents = b.bytes; window = b.window }

-- the frame of the book is that of the table before and after
framed : {q : ℕ} {t u : List ℕ} {b b' : Book} {e e' : ℕ} → State q t b e → SameFrame t u → Formed u → b'.names ≡ b.names → b'.counties ≡ b.counties → length b'.file ≡ length b.file
    → (b'.writes ≡ 0 → b'.file ≡ zeros (length b'.file)) → Inv (used_of t) (whole u q) (contents_of u q) b' e' → Trail q u b'.writes → State q u b' e'
unfolding name_in county_in
framed {q} {t} {u} {b} {b'} {e} {e'} S f w n m l z I r = record {
  group = rw (same-files f) S.group;
  formed = w;
  used = same-used f ∙ S.used ∙ sym (ap length n);
  names = rw (same-used f) (λ i u. ap (λ (g : ℕ → ℕ). g i) f.names ∙ S.names i u ∙ ap (λ (x : List ℕ). get_or x (i - 1) 0) (sym n));
  places = same-used f ∙ S.places ∙ sym (ap length m);
  counties = rw (same-used f) (λ i u. ap (λ (g : ℕ → ℕ). g i) f.counties ∙ S.counties i u ∙ ap (λ (x : List ℕ). county_at x i) (sym m));
  file = l ∙ S.file ∙ sym (same-file f);
  blank = z;
  inv = rw (same-used f) I;
  trail = r;
}

-- no row is ahead of the book
past_all : (q : ℕ) (t : List ℕ) (b : Book) (e : ℕ) (S : State q t b e) (i : ℕ) → Within (used_of t) i → version_of t q i ≤ b.writes
unfolding whole polled
past_all q t b e S i v = (S.inv.versions i v).past

-- ---- a done joining
module _ (q : ℕ) (t : List ℕ) (b : Book) (e : ℕ) (S : State q t b e) (a : Joining) (y : JoinYes t a) where
  ju : List ℕ
  ju = joined t a.name a.county

  more : OneMore t ju a.name a.county
  unfolding ju
  more = joined-alters t y.formed a.name y.room a.county

  grown : Grown (used_of t) (whole t q) (contents_of t q) b e S.inv (whole ju q) (contents_of ju q) a.name a.county
  unfolding whole polled stale_of version_of desired_of contents_of epoch_of list_of epoch
  grown =
      let n = new-says t ju a.name a.county y.formed y.room more in
      let c = new-copies t ju a.name a.county y.formed y.room more q S.group in
      let same = kept t ju a.name a.county y.formed y.room more in
      record {
        epoch = same epoch (inr (omega arith));
        list = list-kept t ju a.name a.county y.formed y.room more;
        old = λ i v. stays_of t ju q i (copies_kept t ju a.name a.county y.formed y.room more i q v);
        new-epoch = n.epoch;
        new-list = n.list;
        new = record { stale = ap (λ (x : ℕ). eqb x 1) c.mark; version = c.version; desired = c.desired; contents = c.contents ∙ ap zeros (sym S.file) };
      }

  pub next-join : State q (joined t a.name a.county) (admitted b a.name a.county) e
  unfolding ju whole polled list_of list admitted version_of contents_of kept_of
  next-join = record {
    group = rw (files-kept t ju a.name a.county y.formed y.room more) S.group;
    formed = more-formed t ju a.name a.county y.formed y.room more y.named y.placed y.free;
    used = counted ∙ ap suc S.used ∙ sym (names_more b a.name a.county);
    names = rw (counted) (λ i v. ⊎_elim
        (λ z. ap (name_of ju) z ∙ chain.new ∙ sym (new-name b a.name a.county) ∙ ap (name_in (admitted b a.name a.county)) (sym (z ∙ ap suc S.used)))
        (λ w. chain.names i w ∙ S.names i w ∙ sym (old-name b a.name a.county i (rw (← S.used) w)))
        (last (used_of t) i v));
    places = counted ∙ ap suc S.places ∙ sym (places-more b a.name a.county);
    counties = rw counted (λ i v. ⊎_elim
        (λ z. ap (county_of ju) z ∙ county-new t ju a.name a.county y.formed y.room more y.named y.placed y.free ∙ sym (new-county b a.name a.county) ∙ ap (county_in (admitted b a.name a.county)) (sym (z ∙ ap suc S.places)))
        (λ w. county-kept t ju a.name a.county y.formed y.room more i w ∙ S.counties i w ∙ sym (old-county b a.name a.county i (rw (← S.places) w)))
        (last (used_of t) i v));
    file = S.file ∙ sym (file-kept t ju a.name a.county y.formed y.room more);
    blank = S.blank;
    inv = rw (counted) (keep_join (used_of t) (whole t q) (contents_of t q) b e S.inv (whole ju q) (contents_of ju q) a.name a.county grown S.used (sym S.places ∙ S.used) (λ i v. (S.formed.heads i v).only) S.blank);
    trail = trail_more S.trail (file-kept t ju a.name a.county y.formed y.room more) counted (λ i v. same_copy q t ju i (copies_kept t ju a.name a.county y.formed y.room more i q v)) blank.version new-kept (last (used_of t));
  }
    where
      counted : used_of ju ≡ suc (used_of t)
      counted = more-used t ju a.name a.county y.formed y.room more

      blank : BlankCopy (file_length_of t) (copy_bytes ju q (suc (used_of t)))
      blank = new-copies t ju a.name a.county y.formed y.room more q S.group

      new-kept : kept_of ju q (suc (used_of t)) ≡ record { contents = zeros (file_length_of t); window = emptied }
      new-kept = λ j. record { contents = blank.contents j; window = window-blank (file_length_of t) (copy_bytes ju q (suc (used_of t))) blank j }

      chain : Joined t ju a.name
      chain = more-chain t ju a.name a.county y.formed y.room more y.named y.placed y.free

-- a joining keeps the files
pub join-files : (t : List ℕ) (a : Joining) → JoinYes t a → files_of (joined t a.name a.county) ≡ files_of t
join-files t a y = files-kept t (joined t a.name a.county) a.name a.county y.formed y.room (joined-alters t y.formed a.name y.room a.county)

-- ---- a done write
module _ (t : List ℕ) (b : Book) (e : ℕ) (a : Writing) (S : State a.file t b e) (y : WriteYes t a) where
  u : List ℕ
  u = write_table t a y

  s : ℕ → Bool
  s = work_set Write t a.file a.c a.r

  sub : (i : ℕ) → s i ≡ true → has a.r i ≡ true
  unfolding s
  sub = work-sub a.file t b e S a.r Write a.c y.first

  good-is : good (whole t a.file) s ≡ good (answers t a.file a.r) s
  unfolding s
  good-is = sym (good-whole a.file t b e S a.r s sub)

  version-is : good_version (whole t a.file) s ≡ good_version (answers t a.file a.r) s
  unfolding s
  version-is = sym (version-whole a.file t b e S a.r s sub)

  write_same : (i : ℕ) → Within (used_of t) i → s i ≡ true → good (answers t a.file a.r) s i ≡ false → SameKept a.file t u i
  unfolding u s changed fields_of copy_kit version_of
  write_same i v m d = kept_same t u a.file i (write-marked t a y i v m d) refl

  write-version : (i : ℕ) → Within (used_of t) i → s i ≡ true → good (answers t a.file a.r) s i ≡ true → version_of u a.file i ≡ good_version (answers t a.file a.r) s + 1
  unfolding u s changed fields_of copy_kit version_of
  write-version i v m d = (write-taken t a y i v m d).fields 2 (omega arith)

  write_kept : (i : ℕ) → Within (used_of t) i → s i ≡ true → good (answers t a.file a.r) s i ≡ true → kept_of u a.file i ≡ patched (record { offset = a.offset; bytes = a.patch }) (kept_of t a.file i)
  unfolding u s kept_of patched contents_of
  write_kept i v m d = let r = write-taken t a y i v m d in λ j. record { contents = r.bytes j; window = r.window j }

  wrote : Wrote (used_of t) (whole t a.file) (contents_of t a.file) b e (few a.file t b e S a.r) S.inv (whole u a.file) (contents_of u a.file) s (good_version (whole t a.file) s + 1) a.offset a.patch
  unfolding u s whole polled changed fields_of copy_kit copy_bytes stale_of version_of desired_of contents_of
  wrote = record {
    epoch = λ i v. (write-membership t a y i v).0;
    list = λ i v. (write-membership t a y i v).1;
    out = λ i v m. stays_of t u a.file i (out-copy (write-leaves t a y) i a.file v m);
    taken = rw (good-is, version-is) (λ i v m g. is-of t u a.file i (write-taken t a y i v m g));
    marked = rw (good-is, version-is) (λ i v m g. is-of t u a.file i (write-marked t a y i v m g));
  }

  -- what each row keeps after it
  write-trail : Trail a.file u (suc b.writes)
  unfolding u s
  write-trail = trail-write S.trail (same-file (write-leaves t a y).frame) (same-used (write-leaves t a y).frame) (record { offset = a.offset; bytes = a.patch })
      (patch-fits t a y) (past_all a.file t b e S) (λ i v. go i v (s i) refl (good (answers t a.file a.r) s i) refl)
    where
      now : good_version (answers t a.file a.r) s ≡ b.writes
      now = version_now a.file t b e S Write a.c a.r y.first y.quorum y.current

      go : (i : ℕ) → Within (used_of t) i → (x : Bool) → s i ≡ x → (g : Bool) → good (answers t a.file a.r) s i ≡ g
          → SameKept a.file t u i ⊎ ((version_of t a.file i ≡ b.writes) × (version_of u a.file i ≡ suc b.writes) × (kept_of u a.file i ≡ patched (record { offset = a.offset; bytes = a.patch }) (kept_of t a.file i)))
      go i v false m g d = inl (same_copy a.file t u i (out-copy (write-leaves t a y) i a.file v m))
      go i v true m false d = inl (write_same i v m d)
      go i v true m true d = inr (good-newest t a y i m d ∙ now, write-version i v m d ∙ omega (arith, now), write_kept i v m d)

  pub next-write : State a.file (write_table t a y) (written b (write_set b a.c a.r) a.offset a.patch) e
  unfolding u s written
  next-write = framed S (write-leaves t a y).frame (write-formed t a y) refl refl (length-put b.file a.offset a.patch (omega (arith, S.file, y.range))) (λ z. absurd (omega arith))
      (subst (λ (x : ℕ → Bool). Inv (used_of t) (whole u a.file) (contents_of u a.file) (written b x a.offset a.patch) e) set
      (keep-write (used_of t) (whole t a.file) (contents_of t a.file) b e (few a.file t b e S a.r) S.inv (whole u a.file) (contents_of u a.file) s a.offset a.patch
      (work-used a.file t b e S a.r Write a.c y.first) (work-quorum a.file t b e S a.r Write a.c y.first y.quorum) (current-all a.file t b e S Write a.c a.r y.first y.quorum y.current) wrote)) (rw (add-one b.writes) write-trail)
    where
      set : work_set Write t a.file a.c a.r ≡ write_set b a.c a.r
      set = work-is a.file t b e S a.r Write a.c y.first
          ∙ set_is (used_of t) (whole t a.file) (contents_of t a.file) b e (few a.file t b e S a.r) S.inv a.c a.r y.first.coordinator (answered a.file t b e S a.r Write a.c y.first)

-- ---- a done send
module _ (t : List ℕ) (b : Book) (e : ℕ) (a : Sending) (S : State a.file t b e) (y : SendYes t a) where
  su : List ℕ
  su = send_table t a y

  -- the sender has what the target lacks
  pub sent-here : sent_contents (copy_bytes t a.file a.f) (copy_bytes t a.file a.t) ≡ contents_of t a.file a.f
  unfolding stale_of version_of desired_of
  sent-here = sent-all S.trail (file-low t S.formed) a.f a.t y.from-used y.to-used (past_all a.file t b e S a.f y.from-used)
      (omega (arith, y.enough, (S.formed.copies a.t a.file y.to-used y.group).behind y.mark))

  send-version : version_of su a.file a.t ≡ version_of t a.file a.f
  unfolding su changed fields_of copy_kit version_of
  send-version = (send-target t a y).fields 2 (omega arith)

  send-kept : kept_of su a.file a.t ≡ kept_of t a.file a.f
  unfolding su kept_of contents_of
  send-kept = let r = send-target t a y in λ j. record { contents = (r.bytes ∙ sent-here) j; window = r.window j }

  send-trail : Trail a.file su b.writes
  unfolding su
  send-trail = record {
    kept = S.trail.kept;
    grown = rw (same-file (send-leaves t a y).frame) S.trail.grown;
    held = rw (same-used (send-leaves t a y).frame) (λ i v. go i v (ℕ_discrete a.t i));
  }
    where
      go : (i : ℕ) → Within (used_of t) i → Dec (a.t ≡ i) → kept_of su a.file i ≡ S.trail.kept (version_of su a.file i)
      go i v (yes z) = subst (λ (x : ℕ). kept_of su a.file x ≡ S.trail.kept (version_of su a.file x)) z (send-kept ∙ S.trail.held a.f y.from-used ∙ ap S.trail.kept (sym send-version))
      go i v (no d) = let s = same_copy a.file t su i (out-copy (send-leaves t a y) i a.file v (ne_eqb a.t i d)) in same_kept s ∙ S.trail.held i v ∙ ap S.trail.kept (sym s.version)

  sent : Sent (used_of t) (whole t a.file) (contents_of t a.file) b e (few a.file t b e S a.r) S.inv (whole su a.file) (contents_of su a.file) a.f a.t
  unfolding su whole polled changed fields_of copy_kit stale_of version_of desired_of contents_of
  sent = record {
    epoch = λ i v. (send-membership t a y i v).0;
    list = λ i v. (send-membership t a y i v).1;
    out = λ i v m. stays_of t su a.file i (out-copy (send-leaves t a y) i a.file v (ne_eqb a.t i (λ q. eqb-false i a.t m (sym q))));
    target = rw (← sent-here) (is-of t su a.file a.t (send-target t a y));
  }

  pub next-send : State a.file (send_table t a y) (passed_on b a.f a.t) e
  unfolding su passed_on whole polled
  next-send = framed S (send-leaves t a y).frame (send-formed t a y) refl refl refl S.blank
      (keep-send (used_of t) (whole t a.file) (contents_of t a.file) b e (few a.file t b e S a.r) S.inv (whole su a.file) (contents_of su a.file) a.f a.t y.from-used y.to-used y.mark y.enough sent) send-trail

-- ---- a file whose copies and all heads stay
pub next-other : {t u : List ℕ} {q : ℕ} {s : ℕ → Bool} {g : ℕ → List ℕ → List ℕ} → OnlyCopies t u q s g → Formed u → (p : ℕ) (b : Book) (e : ℕ) → (p ≡ q → ⊥) → State p t b e → State p u b e
unfolding whole
next-other {t} {u} o w p b e d S =
    let E = only-equal o S.formed w p d in
    framed S o.leaves.frame w refl refl refl S.blank (rw (polled-same E (λ i. true), contents-same E) S.inv)
    (trail-same S.trail (same-file o.leaves.frame) (same-used o.leaves.frame) (λ i v. same_copy p t u i (o.others i p v d)))

-- ---- a done check
module _ (q : ℕ) (t : List ℕ) (b : Book) (e : ℕ) (S : State q t b e) (a : Checking) (y : CheckYes t a) where
  all : (i : ℕ) → has a.r i ≡ true → has a.r i ≡ true
  all i m = m

  check-quorum : holds_quorum b Write (has a.r) ≡ true
  check-quorum = sym (six-check q t b e S a.c a.r y.first) ∙ y.quorum

  -- V is the list in force, and its epoch the highest
  force-is : (highest_epoch (answers t 1 a.r) (has a.r) ≡ e) × (in_force (answers t 1 a.r) (has a.r) ≡ b.in_force)
  force-is = force-check q t b e S a.c a.r y.first check-quorum

  pub next-same : a.r ≡ (in_force (answers t 1 a.r) (has a.r)).members → State q t (checked b a.r) e
  unfolding checked
  next-same z = rw (eq-eqb _ _ (z ∙ ap (λ (v : Laid). v.members) force-is.1)) S

  module _ (room : highest_epoch (answers t 1 a.r) (has a.r) < limit) (cur : (q : ℕ) → Within (files_of t) q → current (answers t q a.r) (has a.r) ≡ true) where
    cu : List ℕ
    cu = check_table t a y room

    fresh : (i : ℕ) → Within (used_of t) i → has a.r i ≡ false → epoch_of t i ≡ highest_epoch (answers t 1 a.r) (has a.r) + 1 → ⊥
    unfolding whole polled
    fresh i u m z = omega (arith, force-is.0, S.inv.epochs.below i u)

    rows-checked : Checked (used_of t) (whole t q) (contents_of t q) b e (few q t b e S a.r) S.inv (whole cu q) (contents_of cu q) a.r (highest_epoch (whole t q) (has a.r) + 1)
    unfolding cu whole polled changed fields_of copy_kit copy_bytes stale_of version_of desired_of contents_of
    rows-checked = record {
      epoch = rw (sym ((polls-alike t q a.r (has a.r)).1 ∙ epoch-whole q t b e S a.r (has a.r) all)) (λ i v. (check-membership t a y room cur i v).0);
      list = λ i v. (check-membership t a y room cur i v).1 ∙ ap₂ (λ (l : Laid) (county : ℕ → ℕ). cond (has a.r i) (laid_now (is_tall l) county a.r) (list_of t i)) force-is.1 (county-is q t b e S);
      out = λ i v m. stays_of t cu q i (out-copy (check-leaves t a y room) i q v m);
      taken = rw (sym (good-whole q t b e S a.r (has a.r) all)) (λ i v m g. stays_of t cu q i (check-taken t a y room i q v S.group m g));
      marked = rw (sym (good-whole q t b e S a.r (has a.r) all), sym (version-whole q t b e S a.r (has a.r) all)) (λ i v m g. is-of t cu q i (check-marked t a y room i q v S.group m g));
    }

    check-trail : Trail q cu b.writes
    unfolding cu changed fields_of copy_kit version_of
    check-trail = trail-same S.trail (same-file (check-leaves t a y room).frame) (same-used (check-leaves t a y room).frame) (λ i v. go i v (has a.r i) refl (good (answers t q a.r) (has a.r) i) refl)
      where
        go : (i : ℕ) → Within (used_of t) i → (x : Bool) → has a.r i ≡ x → (g : Bool) → good (answers t q a.r) (has a.r) i ≡ g → SameKept q t cu i
        go i v false m g d = same_copy q t cu i (out-copy (check-leaves t a y room) i q v m)
        go i v true m true d = same_copy q t cu i (check-taken t a y room i q v S.group m d)
        go i v true m false d = kept_same t cu q i (check-marked t a y room i q v S.group m d) refl

    pub next-check : eqb a.r (in_force (answers t 1 a.r) (has a.r)).members ≡ false → State q (check_table t a y room) (checked b a.r) (suc e)
    unfolding cu checked agreed
    next-check other = rw (ap (λ (v : Laid). eqb a.r v.members) (sym force-is.1) ∙ other) (framed S (check-leaves t a y room).frame (check-formed t a y room cur fresh) refl refl refl S.blank
        (keep-check (used_of t) (whole t q) (contents_of t q) b e (few q t b e S a.r) S.inv (whole cu q) (contents_of cu q) a.r y.first.rows check-quorum
        (sym (current-whole q t b e S a.r (has a.r) all) ∙ cur q S.group) rows-checked) check-trail)
