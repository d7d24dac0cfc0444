-- What a done write, send and check leave in each row.
use mathlib.Core.Path.{◌≡◌, refl, sym, ◌∙◌, subst}
use mathlib.Core.Bool.{Bool, true, false, cond}
use mathlib.Core.List.{List, []}
use Prim.Native.Nat.{ℕ, zero, suc, ◌+◌, ◌^◌, ◌≤◌, ◌<◌}
use native.Mathlib.Nat.{lt_of_lt_of_le}
use native.Mathlib.Omega.{arith}
use lib.Dec.{eqb}
use lib.Pow.{pow_mono}
use lib.ListN.{length}
use borrow.Author.Tests.{eqb-true, eq-eqb}
use Rattle.sets.specs.Upto.{Within}
use Rattle.sets.specs.Sets.{has}
use Rattle.quorums.specs.declared.Kind.TheVariants.{Write}
use Rattle.counties.proofs.MarkLaws.{mark-small}
use Rattle.octets.specs.Bytes.{put}
use Rattle.fields.specs.declared.Laid.{Laid}
use Rattle.fields.specs.Layout.{is_tall, contents, copy_length, row_length, row_bytes, in_copy, copy_bytes, used_of, files_of, file_length_of, name_of, county_of, epoch_of, version_of, with_row, with_rows}
use Rattle.table.specs.Chain.{frame_of}
use Rattle.table.specs.WellFormed.{limit}
use Rattle.window.specs.Windows.{Window, window_of, added}
use Rattle.window.specs.Claims.{Fits}
use Rattle.table.proofs.FormLaws.{Formed, formed, header-facts, rows-room}
use Rattle.protocol.specs.Polls.{Poll, polled, highest_epoch, in_force, good_version, good}
use Rattle.counties.specs.Marks.{laid_now}
use Rattle.protocol.specs.Rows.{marked_copy, sent_contents, refreshed_copy, wrote_copy, checked_row}
use Rattle.protocol.specs.Calls.{Writing, Sending, Checking, answers, work_set}
use Rattle.protocol.proofs.RowLaws.{copy_kit, Becomes, fields_of, changed, marked-copy, patched-copy, refreshed-copy}
use Rattle.table.proofs.TableLaws.{row-long, Changed, one-row, many-rows}
use Rattle.protocol.proofs.PollLaws.{worked-in, version-under, epoch-under}
use Rattle.protocol.proofs.CopyLaws.{Leaves, one-copy, CheckedRow, checked-row, OnlyCopies, only-copies, row-length, copy-long, changed_row, leaves_of, same_copy}
use Rattle.protocol.proofs.QuestionLaws.{ByCoordinator, answered-used, WriteYes, SendYes, CheckYes}

-- what a poll of R says of a set within R is within the limit
module _ (t : List ℕ) (q c r : ℕ) (v : Within (files_of t) q) (B : ByCoordinator t c r) (s : ℕ → Bool) (sub : (i : ℕ) → s i ≡ true → has r i ≡ true) where
  pub version-small : good_version (answers t q r) s ≤ limit
  unfolding answers polled version_of
  version-small = version-under (answers t q r) s limit (λ i m. rw (sub i m) ((formed t B.formed).copies i q (answered-used t c r [] B i (sub i m)) v).small-version)

module _ (t : List ℕ) (q c r : ℕ) (B : ByCoordinator t c r) (s : ℕ → Bool) (sub : (i : ℕ) → s i ≡ true → has r i ≡ true) where
  pub epoch-small : highest_epoch (answers t q r) s ≤ limit
  unfolding answers polled epoch_of
  epoch-small = epoch-under (answers t q r) s limit (λ i m. rw (sub i m) ((formed t B.formed).heads i (answered-used t c r [] B i (sub i m))).small-epoch)

-- row i's copy of file q in t becomes that in u, with fields f, contents c and window w
abbrev pub CopyBecomes : List ℕ → List ℕ → ℕ → ℕ → (ℕ → ℕ) → List ℕ → Window → Type 0
CopyBecomes t u q i f c w = Becomes (copy_bytes t q i) (copy_bytes u q i) f c w

becomes-at : {copy new new' c : List ℕ} {w : Window} {f : ℕ → ℕ} → new' ≡ new → Becomes copy new f c w → Becomes copy new' f c w
becomes-at {copy} {new} {new'} {c} {w} {f} e b = subst (λ (x : List ℕ). Becomes copy x f c w) (sym e) b

pub file-low : (t : List ℕ) → Formed t → file_length_of t < 65_536
file-low t w = omega (arith, (header-facts t w.header).file)

-- rows are as long as their table says
row-size : (t : List ℕ) → Formed t → (i : ℕ) → Within (used_of t) i → length (row_bytes t i) ≡ row_length t
row-size t w i u = row-long t (used_of t) (rows-room t w) i u

-- ---- a write
module _ (t : List ℕ) (a : Writing) (y : WriteYes t a) where
  w : Formed t
  w = formed t y.first.formed

  s : ℕ → Bool
  s = work_set Write t a.file a.c a.r

  p : Poll
  p = answers t a.file a.r

  v : ℕ
  v = good_version p s + 1

  pub write-used : (i : ℕ) → work_set Write t a.file a.c a.r i ≡ true → Within (used_of t) i
  unfolding work_set
  write-used i m = answered-used t a.c a.r [] y.first i (worked-in Write (frame_of t) (answers t a.file a.r) a.c (name_of t a.c) (has a.r) i m)

  -- the patch is one that a window can take
  pub patch-fits : Fits (file_length_of t) (record { offset = a.offset; bytes = a.patch })
  patch-fits = record { some = y.range.0; inside = y.range.1 }

  v-fits : v < 256 ^ 4
  unfolding v s p limit
  v-fits = omega (arith, y.room)

  -- what each copy of the file becomes
  unfoldable pub writing : ℕ → List ℕ → List ℕ
  writing = wrote_copy (good (answers t a.file a.r) (work_set Write t a.file a.c a.r)) (good_version (answers t a.file a.r) (work_set Write t a.file a.c a.r) + 1) a.offset a.patch

  unfoldable pub write_table : List ℕ
  write_table = with_rows t (work_set Write t a.file a.c a.r) (λ i. in_copy (file_length_of t) a.file (writing i)) (used_of t)

  wrote : (i : ℕ) → Within (used_of t) i → (b : Bool) → good p s i ≡ b
      → Becomes (copy_bytes t a.file i) (writing i (copy_bytes t a.file i))
      (cond b (changed (fields_of copy_kit (copy_bytes t a.file i)) 2 v) (changed (changed (fields_of copy_kit (copy_bytes t a.file i)) 1 1) 3 v))
      (cond b (put a.offset a.patch (contents (copy_bytes t a.file i))) (contents (copy_bytes t a.file i)))
      (cond b (added (record { offset = a.offset; bytes = a.patch }) (window_of (copy_bytes t a.file i))) (window_of (copy_bytes t a.file i)))
  unfolding writing wrote_copy p s v
  wrote i u true e = rw e (patched-copy (file_length_of t) (copy_bytes t a.file i) (copy-long t w i a.file u y.group) v a.offset a.patch v-fits _ (file-low t w) (w.copies i a.file u y.group).kept patch-fits)
  wrote i u false e = rw e (marked-copy (file_length_of t) (copy_bytes t a.file i) (copy-long t w i a.file u y.group) v v-fits)

  write_keeps : (i : ℕ) → Within (used_of t) i → length (writing i (copy_bytes t a.file i)) ≡ copy_length (file_length_of t)
  write_keeps i u = (wrote i u (good p s i) refl).long ∙ copy-long t w i a.file u y.group

  pub write-rows : Changed t write_table (used_of t) (work_set Write t a.file a.c a.r) (λ i. in_copy (file_length_of t) a.file (writing i))
  unfolding write_table copy_bytes
  write-rows = many-rows t (work_set Write t a.file a.c a.r) (λ i. in_copy (file_length_of t) a.file (writing i)) (used_of t) (rows-room t w)
      (λ i u m. (one-copy (files_of t) (file_length_of t) (row_bytes t i) (row-length t w i u) a.file y.group (writing i) (write_keeps i u)).long ∙ row-size t w i u)

  pub write-only : OnlyCopies t write_table a.file (work_set Write t a.file a.c a.r) writing
  write-only = only-copies t write_table a.file (work_set Write t a.file a.c a.r) writing w y.group write-rows (λ i u m. write_keeps i u)

  pub write-leaves : Leaves t write_table (work_set Write t a.file a.c a.r)
  write-leaves = write-only.leaves

  pub write-taken : (i : ℕ) → Within (used_of t) i → work_set Write t a.file a.c a.r i ≡ true → good (answers t a.file a.r) (work_set Write t a.file a.c a.r) i ≡ true
      → CopyBecomes t write_table a.file i (changed (fields_of copy_kit (copy_bytes t a.file i)) 2 (good_version (answers t a.file a.r) (work_set Write t a.file a.c a.r) + 1)) (put a.offset a.patch (contents (copy_bytes t a.file i))) (added (record { offset = a.offset; bytes = a.patch }) (window_of (copy_bytes t a.file i)))
  unfolding s p v
  write-taken i u m e = becomes-at (write-only.named i u m) (wrote i u true e)

  pub write-marked : (i : ℕ) → Within (used_of t) i → work_set Write t a.file a.c a.r i ≡ true → good (answers t a.file a.r) (work_set Write t a.file a.c a.r) i ≡ false
      → CopyBecomes t write_table a.file i (changed (changed (fields_of copy_kit (copy_bytes t a.file i)) 1 1) 3 (good_version (answers t a.file a.r) (work_set Write t a.file a.c a.r) + 1)) (contents (copy_bytes t a.file i)) (window_of (copy_bytes t a.file i))
  unfolding s p v
  write-marked i u m e = becomes-at (write-only.named i u m) (wrote i u false e)

-- ---- a send
module _ (t : List ℕ) (a : Sending) (y : SendYes t a) where
  sw : Formed t
  sw = formed t y.formed

  unfoldable pub sending : ℕ → List ℕ → List ℕ
  sending i = refreshed_copy (copy_bytes t a.file a.f)

  unfoldable pub send_table : List ℕ
  send_table = with_row t a.t (in_copy (file_length_of t) a.file (refreshed_copy (copy_bytes t a.file a.f)))

  refreshed : Becomes (copy_bytes t a.file a.t) (refreshed_copy (copy_bytes t a.file a.f) (copy_bytes t a.file a.t))
      (changed (changed (changed (fields_of copy_kit (copy_bytes t a.file a.t)) 1 0) 2 (version_of t a.file a.f)) 3 0)
      (sent_contents (copy_bytes t a.file a.f) (copy_bytes t a.file a.t)) (window_of (copy_bytes t a.file a.f))
  unfolding version_of limit
  refreshed =
      let f = sw.copies a.f a.file y.from-used y.group in
      refreshed-copy (file_length_of t) (copy_bytes t a.file a.t) (copy-long t sw a.t a.file y.to-used y.group) (copy_bytes t a.file a.f)
      (omega (arith, f.small-version)) (copy-long t sw a.f a.file y.from-used y.group) f.kept

  send-keeps : length (refreshed_copy (copy_bytes t a.file a.f) (copy_bytes t a.file a.t)) ≡ copy_length (file_length_of t)
  send-keeps = refreshed.long ∙ copy-long t sw a.t a.file y.to-used y.group

  pub send-changed : Changed t send_table (used_of t) (eqb a.t) (λ i. in_copy (file_length_of t) a.file (sending i))
  unfolding send_table sending copy_bytes
  send-changed = go a.t y.to-used ((one-copy (files_of t) (file_length_of t) (row_bytes t a.t) (row-length t sw a.t y.to-used) a.file y.group (refreshed_copy (copy_bytes t a.file a.f)) send-keeps).long
      ∙ row-size t sw a.t y.to-used)
    where
      how : List ℕ → List ℕ
      how = in_copy (file_length_of t) a.file (refreshed_copy (copy_bytes t a.file a.f))

      go : (i : ℕ) → Within (used_of t) i → length (how (row_bytes t i)) ≡ row_length t → Changed t (with_row t i how) (used_of t) (eqb i) (λ i. how)
      go zero u l = absurd (omega arith)
      go (suc k) u l = one-row t (used_of t) k (rows-room t sw) (omega arith) how l

  pub send-only : OnlyCopies t send_table a.file (eqb a.t) sending
  unfolding sending
  send-only = only-copies t send_table a.file (eqb a.t) sending sw y.group send-changed
      (λ i u m. subst (λ (x : ℕ). length (refreshed_copy (copy_bytes t a.file a.f) (copy_bytes t a.file x)) ≡ copy_length (file_length_of t)) (eqb-true a.t i m) send-keeps)

  pub send-target : CopyBecomes t send_table a.file a.t (changed (changed (changed (fields_of copy_kit (copy_bytes t a.file a.t)) 1 0) 2 (version_of t a.file a.f)) 3 0)
      (sent_contents (copy_bytes t a.file a.f) (copy_bytes t a.file a.t)) (window_of (copy_bytes t a.file a.f))
  unfolding sending
  send-target = becomes-at (send-only.named a.t y.to-used (eq-eqb a.t a.t refl)) refreshed

  pub send-leaves : Leaves t send_table (eqb a.t)
  send-leaves = send-only.leaves

-- ---- a check that changes the list
module _ (t : List ℕ) (a : Checking) (y : CheckYes t a) (room : highest_epoch (answers t 1 a.r) (has a.r) < limit) where
  cw : Formed t
  cw = formed t y.first.formed

  pub check-version : (q : ℕ) → Within (files_of t) q → good_version (answers t q a.r) (has a.r) ≤ limit
  check-version q v = version-small t q a.c a.r v y.first (has a.r) (λ i m. m)

  -- the list that is laid
  unfoldable pub check_list : Laid
  check_list = laid_now (is_tall (in_force (answers t 1 a.r) (has a.r))) (county_of t) a.r

  -- what each row becomes
  unfoldable pub checking : ℕ → List ℕ → List ℕ
  checking = checked_row (files_of t) (file_length_of t) (λ q. good (answers t q a.r) (has a.r)) (λ q. good_version (answers t q a.r) (has a.r)) (highest_epoch (answers t 1 a.r) (has a.r) + 1) check_list

  unfoldable pub check_table : List ℕ
  check_table = with_rows t (has a.r) checking (used_of t)

  list-fits : a.r < 256 ^ 8
  list-fits =
      let h = header-facts t cw.header in
      let few : used_of t ≤ 64 = omega arith in
      lt_of_lt_of_le y.first.rows (pow_mono few)

  enrolled : (i : ℕ) → Within (used_of t) i
      → CheckedRow (files_of t) (file_length_of t) (row_bytes t i) (checking i (row_bytes t i)) (λ q. good (answers t q a.r) (has a.r) i) (λ q. good_version (answers t q a.r) (has a.r)) (highest_epoch (answers t 1 a.r) (has a.r) + 1) check_list
  unfolding checking check_list laid_now limit
  enrolled i u = checked-row (files_of t) (file_length_of t) (row_bytes t i) (row-length t cw i u) _ _ _ _ i (λ q v. omega (arith, check-version q v)) (omega (arith, room)) list-fits (mark-small _ _ _)

  pub check-rows : Changed t check_table (used_of t) (has a.r) checking
  unfolding check_table
  check-rows = many-rows t (has a.r) checking (used_of t) (rows-room t cw) (λ i u m. (enrolled i u).long ∙ row-size t cw i u)

  pub check-leaves : Leaves t check_table (has a.r)
  check-leaves = leaves_of t check_table (has a.r) checking check-rows (λ i u m. (enrolled i u).keeps)

  pub check-row : (i : ℕ) → Within (used_of t) i → has a.r i ≡ true
      → CheckedRow (files_of t) (file_length_of t) (row_bytes t i) (row_bytes check_table i) (λ q. good (answers t q a.r) (has a.r) i) (λ q. good_version (answers t q a.r) (has a.r)) (highest_epoch (answers t 1 a.r) (has a.r) + 1) check_list
  check-row i u m = rw (changed_row check-rows i u m) (enrolled i u)

  -- each copy by its own file
  check-copy : (i q : ℕ) → Within (used_of t) i → Within (files_of t) q → has a.r i ≡ true
      → copy_bytes check_table q i ≡ cond (good (answers t q a.r) (has a.r) i) (copy_bytes t q i) (marked_copy (good_version (answers t q a.r) (has a.r)) (copy_bytes t q i))
  unfolding copy_bytes
  check-copy i q u v m = same_copy check-rows q i ∙ (check-row i u m).copies q v

  pub check-taken : (i q : ℕ) → Within (used_of t) i → Within (files_of t) q → has a.r i ≡ true → good (answers t q a.r) (has a.r) i ≡ true → copy_bytes check_table q i ≡ copy_bytes t q i
  check-taken i q u v m g = check-copy i q u v m ∙ rw g

  pub check-marked : (i q : ℕ) → Within (used_of t) i → Within (files_of t) q → has a.r i ≡ true → good (answers t q a.r) (has a.r) i ≡ false
      → CopyBecomes t check_table q i (changed (changed (fields_of copy_kit (copy_bytes t q i)) 1 1) 3 (good_version (answers t q a.r) (has a.r))) (contents (copy_bytes t q i)) (window_of (copy_bytes t q i))
  unfolding limit
  check-marked i q u v m g = becomes-at (check-copy i q u v m ∙ rw g) (marked-copy (file_length_of t) (copy_bytes t q i) (copy-long t cw i q u v) (good_version (answers t q a.r) (has a.r)) (omega (arith, check-version q v)))
