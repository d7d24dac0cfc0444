-- Writes and sends keep every well-formed table well formed; so does a check, unless a row that did not answer has the new epoch already.
use mathlib.Core.Path.{◌≡◌, refl, sym, ◌∙◌, ap, subst}
use mathlib.Core.Bool.{Bool, true, false, cond}
use mathlib.Core.List.{List, []}
use Prim.Native.Nat.{ℕ, zero, suc, ◌+◌, ◌≤◌, ◌<◌}
use native.Mathlib.Decide.{ℕ_discrete}
use native.Mathlib.Omega.{arith}
use lib.Dec.{eqb}
use borrow.Author.Tests.{eqb-true}
use Rattle.sets.specs.Upto.{Within, count}
use Rattle.sets.specs.Sets.{has}
use Rattle.bools.proofs.BoolLaws.{and_l, clash}
use Rattle.sets.proofs.CountLaws.{count-one}
use Rattle.quorums.specs.declared.Kind.TheVariants.{Write}
use Rattle.fields.specs.declared.Laid.{Laid}
use Rattle.fields.specs.Layout.{get, desired, epoch, members, list, is_empty, is_tall, row_bytes, copy_bytes, used_of, files_of, file_length_of, epoch_of, list_of, county_of, stale_of, version_of, desired_of}
use Rattle.fields.proofs.FieldLaws.{copy_is, head-get, head-list}
use Rattle.window.specs.Windows.{Window, window_right, window_of, added}
use Rattle.window.specs.Claims.{StaysRight}
use Rattle.window.proofs.AddLaws.{added-right}
use Rattle.window.proofs.CopyLaws.{window-whole}
use Rattle.counties.specs.Claims.{LaidMarks}
use Rattle.counties.specs.Marks.{laid_now, mark_right}
use Rattle.counties.proofs.MarkLaws.{laid-marks}
use Rattle.table.specs.WellFormed.{limit}
use Rattle.table.proofs.FormLaws.{HeadFacts, CopyFacts, OneShape, Formed, formed, header-facts, head-stays-right}
use Rattle.protocol.specs.Polls.{polled, highest_epoch, in_force, good_version, good, current, quorum_held}
use Rattle.protocol.specs.Calls.{Writing, Sending, Checking, answers, work_set}
use Rattle.protocol.proofs.RowLaws.{copy_kit, Becomes, fields_of, changed}
use Rattle.protocol.proofs.ListLaws.{laid-shape}
use Rattle.protocol.proofs.PollLaws.{leads, good-at, good_of, version-le, current-desired, worked-in}
use Rattle.protocol.proofs.FrameLaws.{same-form, same-used, same-file, same-files, same-header, same-long, same-visits, same-rise, zero-stays}
use Rattle.protocol.proofs.QuestionLaws.{answered-used, WriteYes, SendYes, CheckYes}
use Rattle.protocol.proofs.DoneLaws.{file-low, write-used, patch-fits, write_table, write-only, write-taken, write-marked, send_table, send-only, send-target, check_table, check_list, check-version, check-leaves, check-row, check-taken, check-marked}
use Rattle.protocol.proofs.CopyLaws.{Leaves, OnlyCopies, copy-long, out-copy}

-- what is asked of a copy, in terms of its three fields
record Fields (f : ℕ → ℕ) : Type 0 where
  flag : f 1 ≤ 1
  small-version : f 2 ≤ limit
  small-desired : f 3 ≤ limit
  behind : eqb (f 1) 1 ≡ true → f 2 < f 3
  level : eqb (f 1) 1 ≡ false → f 3 ≡ 0

facts-after : {file : ℕ} {copy new c : List ℕ} {w : Window} {f : ℕ → ℕ} → CopyFacts file copy → Becomes copy new f c w → Fields f → window_right file (f 2) w ≡ true → CopyFacts file new
unfolding copy_kit
facts-after r b g k = record {
  flag = rw (b.fields 1 (omega arith)) g.flag;
  spare = rw b.spare r.spare;
  small-version = rw (b.fields 2 (omega arith)) g.small-version;
  small-desired = rw (b.fields 3 (omega arith)) g.small-desired;
  behind = rw (b.fields 1 (omega arith), b.fields 2 (omega arith), b.fields 3 (omega arith)) g.behind;
  level = rw (b.fields 1 (omega arith), b.fields 3 (omega arith)) g.level;
  kept = rw (b.fields 2 (omega arith), b.window) k;
}

-- those of rows 1 to n that have a list, and one epoch, have one list
abbrev Agreed : List ℕ → ℕ → Type 0
Agreed t n = (i j : ℕ) → Within n i → Within n j → is_empty (list_of t i) ≡ false → is_empty (list_of t j) ≡ false → epoch_of t i ≡ epoch_of t j → list_of t i ≡ list_of t j

one_list : {t : List ℕ} → Formed t → Agreed t (used_of t)
unfolding epoch_of list_of
one_list w = w.agree

-- where epochs and lists stay
still-agreed : {t : List ℕ} (u : List ℕ) → Formed t → ((i : ℕ) → Within (used_of t) i → (epoch_of u i ≡ epoch_of t i) × (list_of u i ≡ list_of t i)) → Agreed u (used_of t)
still-agreed n w stay i j u v a b e =
    let x = stay i u in
    let y = stay j v in
    x.1 ∙ one_list w i j u v (rw x.1 at a) (rw y.1 at b) (sym x.0 ∙ e ∙ y.0) ∙ sym y.1

same_shape : {t : List ℕ} (u : List ℕ) → Formed t → ((i : ℕ) → Within (used_of t) i → (epoch_of u i ≡ epoch_of t i) × (list_of u i ≡ list_of t i)) → OneShape u (used_of t)
same_shape n w stay i j u v a b =
    let x = (stay i u).1 in
    let y = (stay j v).1 in
    ap is_tall x ∙ w.shape i j u v (rw x at a) (rw y at b) ∙ sym (ap is_tall y)

same-marks : {t : List ℕ} (u : List ℕ) → Formed t → ((i : ℕ) → Within (used_of t) i → (epoch_of u i ≡ epoch_of t i) × (list_of u i ≡ list_of t i)) → (i : ℕ) → Within (used_of t) i → mark_right (county_of t) (list_of u i) ≡ true
same-marks n w stay i u = rw (stay i u).1 (w.marks i u)

-- a table whose rows are right, and agree on lists, is well formed
keep-formed : {t u : List ℕ} {s : ℕ → Bool} → Formed t → Leaves t u s
    → ((i : ℕ) → Within (used_of t) i → HeadFacts (used_of t) i (row_bytes u i))
    → ((i q : ℕ) → Within (used_of t) i → Within (files_of t) q → CopyFacts (file_length_of t) (copy_bytes u q i))
    → Agreed u (used_of t)
    → ((i : ℕ) → Within (used_of t) i → mark_right (county_of t) (list_of u i) ≡ true)
    → OneShape u (used_of t)
    → Formed u
unfolding epoch_of list_of
keep-formed {t} {u} {s} w l heads copies agree marks shape = record {
  newest = same-form l.frame ∙ w.newest;
  header = same-header l.frame ∙ w.header;
  long = same-long l.frame ∙ w.long;
  heads = rw (same-used l.frame) heads;
  copies = rw (same-used l.frame, same-files l.frame, same-file l.frame) copies;
  visits = same-visits l.frame ∙ w.visits;
  rise = same-rise l.frame ∙ w.rise;
  zero = zero-stays l.change refl (same-used l.frame) ∙ w.zero;
  agree = rw (same-used l.frame) agree;
  marks = rw (same-used l.frame, l.frame.counties) marks;
  shape = rw (same-used l.frame) shape;
}

-- where only copies of file q are changed
module _ {t u : List ℕ} {q : ℕ} {s : ℕ → Bool} {g : ℕ → List ℕ → List ℕ} (w : Formed t) (o : OnlyCopies t u q s g) where
  pub same-membership : (i : ℕ) → Within (used_of t) i → (epoch_of u i ≡ epoch_of t i) × (list_of u i ≡ list_of t i)
  unfolding epoch_of list_of epoch
  same-membership i v = (head-get (row_bytes t i) (row_bytes u i) (o.heads i v) epoch (omega arith), head-list (row_bytes t i) (row_bytes u i) (o.heads i v))

  only-formed : ((i : ℕ) → Within (used_of t) i → Within (files_of t) q → s i ≡ true → CopyFacts (file_length_of t) (copy_bytes u q i)) → Formed u
  only-formed facts = keep-formed w o.leaves (λ i v. head-stays-right (o.heads i v) (w.heads i v)) (λ i p v m. go i p v m (ℕ_discrete p q)) (still-agreed _ w same-membership) (same-marks _ w same-membership) (same_shape _ w same-membership)
    where
      go : (i p : ℕ) → Within (used_of t) i → Within (files_of t) p → Dec (p ≡ q) → CopyFacts (file_length_of t) (copy_bytes u p i)
      go i p v m (no d) = rw (o.others i p v d) (w.copies i p v m)
      go i p v m (yes e) = subst (λ (x : ℕ). CopyFacts (file_length_of t) (copy_bytes u x i)) (sym e) (by (s i) refl)
        where
          n : Within (files_of t) q
          n = subst (λ (x : ℕ). Within (files_of t) x) e m

          by : (b : Bool) → s i ≡ b → CopyFacts (file_length_of t) (copy_bytes u q i)
          by true h = facts i v n h
          by false h = rw (out-copy o.leaves i q v h) (w.copies i q v n)

-- ---- of the rows of a set within R, in a well-formed table
module _ (t : List ℕ) (q r : ℕ) (v : Within (files_of t) q) (s : ℕ → Bool) (w : Formed t) (sub : (i : ℕ) → s i ≡ true → has r i ≡ true) (ins : (i : ℕ) → s i ≡ true → Within (used_of t) i) (cur : current (answers t q r) s ≡ true) where
  few : (i : ℕ) → s i ≡ true → Within 64 i
  few i m = let h = header-facts t w.header in omega (arith, ins i m)

  -- a marked row has less than it desires, which is no more than the good version; an unmarked one no more than that
  version-by : (i : ℕ) → s i ≡ true → (b : Bool) → stale_of t q i ≡ b → cond b (version_of t q i + 1) (version_of t q i) ≤ good_version (answers t q r) s
  unfolding answers polled stale_of version_of desired_of
  version-by i m true z =
      let d : get desired (copy_bytes t q i) ≤ good_version (answers t q r) s = rw (sub i m) at (current-desired (answers t q r) s cur i (few i m) m (rw (sub i m) z)) in
      omega (arith, (w.copies i q (ins i m) v).behind z)
  version-by i m false z = rw (sub i m) at (version-le (answers t q r) s i (few i m) m (rw (sub i m) z))

  pub version-at : (i : ℕ) → s i ≡ true → version_of t q i ≤ good_version (answers t q r) s
  version-at i m = go (stale_of t q i) refl
    where
      go : (b : Bool) → stale_of t q i ≡ b → version_of t q i ≤ good_version (answers t q r) s
      go true z = omega (arith, version-by i m true z)
      go false z = version-by i m false z

  -- a row that is not good has less than the good version
  pub version-less : (i : ℕ) → s i ≡ true → good (answers t q r) s i ≡ false → version_of t q i < good_version (answers t q r) s
  unfolding answers polled
  version-less i m g = go (stale_of t q i) refl (ℕ_discrete (version_of t q i) (good_version (answers t q r) s))
    where
      go : (b : Bool) → stale_of t q i ≡ b → Dec (version_of t q i ≡ good_version (answers t q r) s) → version_of t q i < good_version (answers t q r) s
      go true z d = omega (arith, version-by i m true z)
      go false z (no d) = omega (arith, version-by i m false z)
      go false z (yes e) = absurd (clash (sym g ∙ good_of (answers t q r) s i (record { inside = m; clean = rw (sub i m) z; newest = rw (sub i m) e })))

  -- a good row is not marked
  pub good-clean : (i : ℕ) → s i ≡ true → good (answers t q r) s i ≡ true → stale_of t q i ≡ false
  unfolding answers polled
  good-clean i m g = rw (sub i m) at (good-at (answers t q r) s i g).clean

-- ---- a write
module _ (t : List ℕ) (a : Writing) (y : WriteYes t a) where
  ww : Formed t
  ww = formed t y.first.formed

  write-sub : (i : ℕ) → work_set Write t a.file a.c a.r i ≡ true → has a.r i ≡ true
  unfolding work_set
  write-sub i m = worked-in Write _ (answers t a.file a.r) a.c _ (has a.r) i m

  -- a good row has the good version, and its window takes the patch
  pub good-newest : (i : ℕ) → work_set Write t a.file a.c a.r i ≡ true → good (answers t a.file a.r) (work_set Write t a.file a.c a.r) i ≡ true
      → version_of t a.file i ≡ good_version (answers t a.file a.r) (work_set Write t a.file a.c a.r)
  unfolding answers polled
  good-newest i m g = rw (write-sub i m) at (good-at (answers t a.file a.r) (work_set Write t a.file a.c a.r) i g).newest

  grown-kept : (i v : ℕ) → Within (used_of t) i → version_of t a.file i ≡ v
      → window_right (file_length_of t) (v + 1) (added (record { offset = a.offset; bytes = a.patch }) (window_of (copy_bytes t a.file i))) ≡ true
  unfolding StaysRight version_of
  grown-kept i v u e =
      let more : v + 1 ≡ suc (version_of t a.file i) = omega (arith, e) in
      rw more (added-right (file_length_of t) (version_of t a.file i) (file-low t ww) (window_of (copy_bytes t a.file i))
      (window-whole (copy_bytes t a.file i) (omega (arith, copy-long t ww i a.file u y.group, copy_is (file_length_of t)))) (ww.copies i a.file u y.group).kept
      (record { offset = a.offset; bytes = a.patch }) (patch-fits t a y)).1

  write-facts : (i : ℕ) → Within (used_of t) i → work_set Write t a.file a.c a.r i ≡ true → CopyFacts (file_length_of t) (copy_bytes (write_table t a y) a.file i)
  unfolding changed fields_of copy_kit stale_of version_of
  write-facts i u m = go (good (answers t a.file a.r) (work_set Write t a.file a.c a.r) i) refl
    where
      f : CopyFacts (file_length_of t) (copy_bytes t a.file i)
      f = ww.copies i a.file u y.group

      go : (b : Bool) → good (answers t a.file a.r) (work_set Write t a.file a.c a.r) i ≡ b → CopyFacts (file_length_of t) (copy_bytes (write_table t a y) a.file i)
      go true g =
          let z = good-clean t a.file a.r y.group (work_set Write t a.file a.c a.r) ww write-sub (write-used t a y) y.current i m g in
          facts-after f (write-taken t a y i u m g) (record {
            flag = f.flag;
            small-version = omega (arith, y.room);
            small-desired = f.small-desired;
            behind = λ e. absurd (clash (sym z ∙ e));
            level = f.level;
          }) (grown-kept i _ u (good-newest i m g))
      go false g =
          let l = version-at t a.file a.r y.group (work_set Write t a.file a.c a.r) ww write-sub (write-used t a y) y.current i m in
          facts-after f (write-marked t a y i u m g) (record {
            flag = omega arith;
            small-version = f.small-version;
            small-desired = omega (arith, y.room);
            behind = λ e. omega arith;
            level = λ e. absurd (clash (sym e));
          }) f.kept

  -- epochs and lists stay
  pub write-membership : (i : ℕ) → Within (used_of t) i
      → (epoch_of (write_table t a y) i ≡ epoch_of t i) × (list_of (write_table t a y) i ≡ list_of t i)
  write-membership = same-membership ww (write-only t a y)

  pub write-formed : Formed (write_table t a y)
  write-formed = only-formed ww (write-only t a y) (λ i u v m. write-facts i u m)

-- ---- a send
module _ (t : List ℕ) (a : Sending) (y : SendYes t a) where
  sw : Formed t
  sw = formed t y.formed

  send-facts : (i : ℕ) → eqb a.t i ≡ true → CopyFacts (file_length_of t) (copy_bytes (send_table t a y) a.file i)
  unfolding changed fields_of copy_kit version_of limit
  send-facts i m = subst (λ (x : ℕ). CopyFacts (file_length_of t) (copy_bytes (send_table t a y) a.file x)) (eqb-true a.t i m)
      (facts-after (sw.copies a.t a.file y.to-used y.group) (send-target t a y) (record {
        flag = omega arith;
        small-version = (sw.copies a.f a.file y.from-used y.group).small-version;
        small-desired = omega arith;
        behind = λ e. absurd (clash e);
        level = λ e. refl;
      }) (sw.copies a.f a.file y.from-used y.group).kept)

  pub send-membership : (i : ℕ) → Within (used_of t) i
      → (epoch_of (send_table t a y) i ≡ epoch_of t i) × (list_of (send_table t a y) i ≡ list_of t i)
  send-membership = same-membership sw (send-only t a y)

  pub send-formed : Formed (send_table t a y)
  send-formed = only-formed sw (send-only t a y) (λ i u v m. send-facts i m)

-- ---- a check that changes the list
module _ (t : List ℕ) (a : Checking) (y : CheckYes t a) (room : highest_epoch (answers t 1 a.r) (has a.r) < limit) (cur : (q : ℕ) → Within (files_of t) q → current (answers t q a.r) (has a.r) ≡ true) where
  chw : Formed t
  chw = formed t y.first.formed

  check-used : (i : ℕ) → has a.r i ≡ true → Within (used_of t) i
  check-used = answered-used t a.c a.r [] y.first

  some : 1 ≤ count 64 (has a.r)
  some = let h = header-facts t chw.header in count-one 64 (has a.r) a.c (omega (arith, check-used a.c y.first.answered)) y.first.answered

  -- V is the list of a used row, so it has the shape of every list
  said : (j : ℕ) → has a.r j ≡ true → (answers t 1 a.r).list j ≡ list_of t j
  unfolding answers polled
  said j m = rw m

  force-shape : (i : ℕ) → Within (used_of t) i → is_empty (list_of t i) ≡ false → is_tall (list_of t i) ≡ is_tall (in_force (answers t 1 a.r) (has a.r))
  unfolding quorum_held
  force-shape i u m =
      let l = leads (answers t 1 a.r) (has a.r) (and_l _ _ y.quorum) in
      let e = said l.0 l.1.inside in
      chw.shape i l.0 u (check-used l.0 l.1.inside) m (rw e at l.1.has-list) ∙ ap is_tall (sym e ∙ l.1.list)

  check-heads : (i : ℕ) → Within (used_of t) i → HeadFacts (used_of t) i (row_bytes (check_table t a y room) i)
  unfolding list check_list laid_now is_empty
  check-heads i u = go (has a.r i) refl
    where
      f : HeadFacts (used_of t) i (row_bytes t i)
      f = chw.heads i u

      go : (b : Bool) → has a.r i ≡ b → HeadFacts (used_of t) i (row_bytes (check_table t a y room) i)
      go false m = rw ((check-leaves t a y room).out i u m) f
      go true m =
          let c = check-row t a y room i u m in
          let r : get members (row_bytes (check_table t a y room) i) ≡ a.r = ap (λ (l : Laid). l.members) c.list in
          record {
            named = rw c.keeps.name f.named;
            linked = rw c.keeps.link f.linked;
            small-epoch = rw c.epoch (omega arith);
            spare = rw c.spare f.spare;
            only = rw r y.first.rows;
            own = rw r (λ e. m);
            county = rw c.keeps.county f.county;
          }

  check-copies : (i q : ℕ) → Within (used_of t) i → Within (files_of t) q → CopyFacts (file_length_of t) (copy_bytes (check_table t a y room) q i)
  unfolding changed fields_of copy_kit version_of
  check-copies i q u v = go (has a.r i) refl (good (answers t q a.r) (has a.r) i) refl
    where
      f : CopyFacts (file_length_of t) (copy_bytes t q i)
      f = chw.copies i q u v

      go : (x : Bool) → has a.r i ≡ x → (b : Bool) → good (answers t q a.r) (has a.r) i ≡ b → CopyFacts (file_length_of t) (copy_bytes (check_table t a y room) q i)
      go false m b g = rw (out-copy (check-leaves t a y room) i q u m) f
      go true m true g = rw (check-taken t a y room i q u v m g) f
      go true m false g =
          let l = version-less t q a.r v (has a.r) chw (λ j h. h) check-used (cur q v) i m g in
          facts-after f (check-marked t a y room i q u v m g) (record {
            flag = omega arith;
            small-version = f.small-version;
            small-desired = check-version t a y room q v;
            behind = λ e. l;
            level = λ e. absurd (clash (sym e));
          }) f.kept

  -- rows that answered have the new epoch and list, the others keep theirs
  pub check-membership : (i : ℕ) → Within (used_of t) i
      → (epoch_of (check_table t a y room) i ≡ cond (has a.r i) (highest_epoch (answers t 1 a.r) (has a.r) + 1) (epoch_of t i)) × (list_of (check_table t a y room) i ≡ cond (has a.r i) (laid_now (is_tall (in_force (answers t 1 a.r) (has a.r))) (county_of t) a.r) (list_of t i))
  unfolding epoch_of list_of check_list
  check-membership i u = go (has a.r i) refl
    where
      new : List ℕ
      new = row_bytes (check_table t a y room) i

      go : (x : Bool) → has a.r i ≡ x
          → (get epoch new ≡ cond x (highest_epoch (answers t 1 a.r) (has a.r) + 1) (get epoch (row_bytes t i))) × (list new ≡ cond x (laid_now (is_tall (in_force (answers t 1 a.r) (has a.r))) (county_of t) a.r) (list (row_bytes t i)))
      go false m = let e = (check-leaves t a y room).out i u m in (ap (get epoch) e, ap list e)
      go true m = let c = check-row t a y room i u m in (c.epoch, c.list)

  -- the new list has the mark of a list laid now
  check-marks : (i : ℕ) → Within (used_of t) i → mark_right (county_of t) (list_of (check_table t a y room) i) ≡ true
  unfolding LaidMarks
  check-marks i u = rw (check-membership i u).1 (go (has a.r i))
    where
      go : (x : Bool) → mark_right (county_of t) (cond x (laid_now (is_tall (in_force (answers t 1 a.r) (has a.r))) (county_of t) a.r) (list_of t i)) ≡ true
      go true = (laid-marks (is_tall (in_force (answers t 1 a.r) (has a.r))) (county_of t) a.r).right some
      go false = chw.marks i u

  -- and V's shape
  check-shape : OneShape (check_table t a y room) (used_of t)
  check-shape i j u v e g = shape i u e ∙ sym (shape j v g)
    where
      laid : Laid
      laid = laid_now (is_tall (in_force (answers t 1 a.r) (has a.r))) (county_of t) a.r

      go : (i : ℕ) → Within (used_of t) i → (x : Bool) → is_empty (cond x laid (list_of t i)) ≡ false → is_tall (cond x laid (list_of t i)) ≡ is_tall (in_force (answers t 1 a.r) (has a.r))
      go i u true e = laid-shape (is_tall (in_force (answers t 1 a.r) (has a.r))) (county_of t) a.r
      go i u false e = force-shape i u e

      shape : (i : ℕ) → Within (used_of t) i → is_empty (list_of (check_table t a y room) i) ≡ false → is_tall (list_of (check_table t a y room) i) ≡ is_tall (in_force (answers t 1 a.r) (has a.r))
      shape i u e = let m = (check-membership i u).1 in ap is_tall m ∙ go i u (has a.r i) (rw m at e)

  -- where no used row outside R has the new epoch already
  pub check-formed : ((i : ℕ) → Within (used_of t) i → has a.r i ≡ false → epoch_of t i ≡ highest_epoch (answers t 1 a.r) (has a.r) + 1 → ⊥) → Formed (check_table t a y room)
  check-formed new = keep-formed chw (check-leaves t a y room) check-heads check-copies (λ i j u v f g e.
      let x = check-membership i u in
      let b = check-membership j v in
      x.1 ∙ go i j u v (has a.r i) refl (has a.r j) refl (rw x.1 at f) (rw b.1 at g) (sym x.0 ∙ e ∙ b.0) ∙ sym b.1) check-marks check-shape
    where
      go : (i j : ℕ) → Within (used_of t) i → Within (used_of t) j → (x : Bool) → has a.r i ≡ x → (y : Bool) → has a.r j ≡ y
          → is_empty (cond x (laid_now (is_tall (in_force (answers t 1 a.r) (has a.r))) (county_of t) a.r) (list_of t i)) ≡ false → is_empty (cond y (laid_now (is_tall (in_force (answers t 1 a.r) (has a.r))) (county_of t) a.r) (list_of t j)) ≡ false
          → cond x (highest_epoch (answers t 1 a.r) (has a.r) + 1) (epoch_of t i) ≡ cond y (highest_epoch (answers t 1 a.r) (has a.r) + 1) (epoch_of t j)
          → cond x (laid_now (is_tall (in_force (answers t 1 a.r) (has a.r))) (county_of t) a.r) (list_of t i) ≡ cond y (laid_now (is_tall (in_force (answers t 1 a.r) (has a.r))) (county_of t) a.r) (list_of t j)
      go i j u v true ex true ey f g e = refl
      go i j u v true ex false ey f g e = absurd (new j v ey (sym e))
      go i j u v false ex true ey f g e = absurd (new i u ex e)
      go i j u v false ex false ey f g e = one_list chw i j u v f g e
