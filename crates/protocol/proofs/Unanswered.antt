-- Rows that did not answer have no part in a call.
use mathlib.Core.Path.{◌≡◌, refl, sym, ◌∙◌, ap, ap₂, subst₂, fun_ext}
use mathlib.Core.Bool.{Bool, true, false, not, cond, ◌&&◌}
use mathlib.Core.List.{List, [], ◌∷◌}
use Prim.Native.Nat.{ℕ, zero, suc, ◌+◌, ◌-◌, ◌*◌, ◌≤◌}
use native.Mathlib.Nat.{zero-add}
use native.Mathlib.Omega.{arith}
use lib.Dec.{eqb, leb, ltb, eqb-suc-zero}
use lib.ListN.{length, take, drop, length-drop}
use lib.Seq.{drop-drop}
use borrow.Author.Tests.{eqb-true, ltb-true}
use Rattle.sets.specs.Upto.{Within, every, count, lowest}
use Rattle.sets.specs.Sets.{has}
use Rattle.sets.proofs.SetLaws.{has_within}
use Rattle.quorums.specs.declared.Kind.{Kind}
use Rattle.quorums.specs.declared.Kind.TheVariants.{Read, Write}
use Rattle.octets.specs.Bytes.{number, part, zeros}
use Rattle.fields.specs.Layout
use Rattle.fields.specs.Layout.{is_tall, get, mark, version, desired, epoch, list, no_list, used_of, first_of, file_length_of, name_of, link_of, county_of, stale_of, version_of, desired_of, epoch_of, list_of, contents_of, files_of, copy_in, in_copy, copy_bytes, row_bytes, row_length, rows_end, form_of, capacity_of}
use Rattle.linking.specs.Linking.{chain}
use Rattle.table.specs.Chain.{order_of, frame_of}
use Rattle.table.specs.WellFormed.{between, limit, only_rows, length_right, unused_zero}
use Rattle.octets.proofs.ByteLaws.{part-part, zeros-are}
use Rattle.table.proofs.FormLaws.{Formed, formed, header-facts}
use Rattle.table.proofs.CountyLaws.{county-at, county-same, frame_same}
use Rattle.counties.specs.Counties.{list_choice}
use Rattle.counties.specs.Marks.{laid_now}
use Rattle.protocol.specs.Polls.{Poll, polled, highest_epoch, in_force, good_version, good, current, stays, worked_on}
use Rattle.protocol.specs.Rows.{checked_row, refreshed_copy}
use Rattle.asking.specs.Asking.{Question, first_no, before}
use Rattle.sheet.specs.Sheet.{sheet_right}
use Rattle.protocol.specs.Calls.{Sending, Call, read, write, send, check, by_coordinator, is_used, in_file, in_group, questions, called_by, noted, from_six, called_after, done, outcome, answers, work_set, carry, founding, join}
use Rattle.protocol.specs.Claims.{Answering, by_read, by_write, by_send, by_check, EqualIn, SameFor, UnansweredHaveNoPart}
use Rattle.table.proofs.TableLaws.{Changed}
use Rattle.protocol.proofs.PollLaws.{lowest-good, worked-in}
use Rattle.protocol.proofs.QuestionLaws.{refusal_is, called_is, when-done, when-refused, early-is, early-passed, answered-used, ReadYes, read-yes, WriteYes, write-yes, SendYes, send-yes, CheckYes, check-yes}
use Rattle.protocol.proofs.DoneLaws.{writing, write_table, write-rows, sending, send_table, send-changed, check_list, checking, check_table, check-rows}

-- chains along links that agree on the used rows
chain-ext : (n : ℕ) (f g : ℕ → ℕ) → ((i : ℕ) → Within n i → (f i ≡ g i) × (f i ≤ n)) → (m i : ℕ) → i ≤ n → chain f m i ≡ chain g m i
unfolding chain
chain-ext n f g h zero i l = refl
chain-ext n f g h (suc m) zero l = refl
chain-ext n f g h (suc m) (suc i) l =
    let q = h (suc i) (omega arith) in
    ap (λ (x : List ℕ). suc i ∷ x) (chain-ext n f g h m (f (suc i)) q.1 ∙ ap (chain g m) q.0)

-- a part of the first m bytes is read in these, as of the header
pub first_part : (m a n : ℕ) (xs : List ℕ) → a + n ≤ m → part a n (take m xs) ≡ part a n xs
unfolding part
first_part m a n xs h = whole ∙ ap (λ (x : ℕ). part x n xs) (zero-add a)
  where
    whole : part a n (take m xs) ≡ part (0 + a) n xs
    whole = part-part 0 m a n xs h

-- equal headers, and so equal numbers of used rows
header-part : (t u : List ℕ) → take 16 t ≡ take 16 u → (a n : ℕ) → a + n ≤ 16 → part a n u ≡ part a n t
header-part t u e a n h = sym (first_part 16 a n u h) ∙ ap (part a n) (sym e) ∙ first_part 16 a n t h

pub used-by : (t u : List ℕ) → take 16 t ≡ take 16 u → used_of u ≡ used_of t
unfolding used_of Layout.used get
used-by t u e = ap number (header-part t u e 2 1 (omega arith))

module _ {r : ℕ} {t u : List ℕ} (E : EqualIn r t u) where
  ft : Formed t
  ft = formed t E.formed

  fu : Formed u
  fu = formed u E.formed-too

  pub header : (a n : ℕ) → a + n ≤ 16 → part a n u ≡ part a n t
  header = header-part t u E.header

  pub get-same : (f : Layout.Field) → f.place + f.width ≤ 16 → get f u ≡ get f t
  unfolding get
  get-same f h = ap number (header f.place f.width h)

  pub used-same : used_of u ≡ used_of t
  used-same = used-by t u E.header

  pub file-same : file_length_of u ≡ file_length_of t
  unfolding file_length_of Layout.file_length
  file-same = get-same Layout.file_length (omega arith)

  pub form-same : form_of u ≡ form_of t
  unfolding form_of Layout.form
  form-same = get-same Layout.form (omega arith)

  pub files-same : files_of u ≡ files_of t
  unfolding files_of Layout.file_count
  files-same = rw (form-same, get-same Layout.file_count (omega arith))

  copy-same : (q i : ℕ) → has r i ≡ true → copy_bytes u q i ≡ copy_bytes t q i
  unfolding copy_bytes
  copy-same q i m = ap₂ (λ (l : ℕ) (x : List ℕ). copy_in l q x) file-same (sym (E.rows i m))

  pub first-same : first_of u ≡ first_of t
  unfolding first_of Layout.first
  first-same = get-same Layout.first (omega arith)

  pub order_same : order_of u ≡ order_of t
  unfolding order_of link_of
  order_same =
      let h = header-facts t ft.header in
      ap₂ (chain (link_of u)) used-same first-same
      ∙ sym (chain-ext (used_of t) (link_of t) (link_of u) (λ i w. (E.links i w, linked i w)) (used_of t) (first_of t) h.first.1)
    where
      linked : (i : ℕ) → Within (used_of t) i → link_of t i ≤ used_of t
      linked i w = (ft.heads i w).linked

  pub counties-same : county_of u ≡ county_of t
  counties-same = county-same t u used-same (λ i w. sym (county-at u i (rw used-same w)) ∙ sym (E.counties i w) ∙ county-at t i w)

  pub framed-same : frame_of u ≡ frame_of t
  framed-same = frame_same t u order_same counties-same

  -- what the rows of R say is the same
  poll-same : (q : ℕ) → answers u q r ≡ answers t q r
  unfolding answers polled stale_of version_of desired_of epoch_of list_of
  poll-same q = λ j. record {
    stale = fun_ext (λ i. test i (has r i) refl) j;
    version = fun_ext (λ i. number_at version i (has r i) refl) j;
    desired = fun_ext (λ i. number_at desired i (has r i) refl) j;
    epoch = fun_ext (λ i. epoch-at i (has r i) refl) j;
    list = fun_ext (λ i. list_at i (has r i) refl) j;
  }
    where
      test : (i : ℕ) (b : Bool) → has r i ≡ b → (b && eqb (get mark (copy_bytes u q i)) 1) ≡ (b && eqb (get mark (copy_bytes t q i)) 1)
      test i true m = ap (λ (x : List ℕ). eqb (get mark x) 1) (copy-same q i m)
      test i false m = refl

      number_at : (f : Layout.Field) (i : ℕ) (b : Bool) → has r i ≡ b → cond b (get f (copy_bytes u q i)) 0 ≡ cond b (get f (copy_bytes t q i)) 0
      number_at f i true m = ap (get f) (copy-same q i m)
      number_at f i false m = refl

      epoch-at : (i : ℕ) (b : Bool) → has r i ≡ b → cond b (get epoch (row_bytes u i)) 0 ≡ cond b (get epoch (row_bytes t i)) 0
      epoch-at i true m = ap (get epoch) (sym (E.rows i m))
      epoch-at i false m = refl

      list_at : (i : ℕ) (b : Bool) → has r i ≡ b → cond b (list (row_bytes u i)) no_list ≡ cond b (list (row_bytes t i)) no_list
      list_at i true m = ap list (sym (E.rows i m))
      list_at i false m = refl

  all-current-same : every (files_of u) (λ q. current (answers u q r) (has r)) ≡ every (files_of t) (λ q. current (answers t q r) (has r))
  all-current-same = ap₂ (λ (n : ℕ) (p : ℕ → Poll). every n (λ q. current (p q) (has r))) files-same (fun_ext poll-same)

  work-same : (kind : Kind) (q c : ℕ) → has r c ≡ true → work_set kind u q c r ≡ work_set kind t q c r
  unfolding work_set name_of
  work-same kind q c m = rw (framed-same, poll-same q) (ap (λ (x : List ℕ). worked_on kind (frame_of t) (answers t q r) c (get Layout.name x) (has r)) (sym (E.rows c m)))

  -- ---- the first no is the same
  first-same-by : (c : ℕ) (qs rs : List Question) → (has r c ≡ true → first_no qs ≡ first_no rs) → first_no (by_coordinator u c r qs) ≡ first_no (by_coordinator t c r rs)
  unfolding by_coordinator is_used first_no
  first-same-by c qs rs f = rw (E.formed, E.formed-too, used-same) (go (between 1 c (used_of t) && only_rows (used_of t) r) (has r c) refl)
    where
      go : (x : Bool) (y : Bool) → has r c ≡ y → ◌≡◌ {A = ℕ} (cond x (cond y (first_no qs) 3) 2) (cond x (cond y (first_no rs) 3) 2)
      go true true m = f m
      go true false m = refl
      go false y m = refl

  -- ---- and so is the size of the set called
  called-by-same : (kind : Kind) (q c : ℕ) → has r c ≡ true → called_by kind u q c r ≡ called_by kind t q c r
  unfolding called_by name_of
  called-by-same kind q c m = rw (framed-same, poll-same q, used-same) (ap (λ (x : List ℕ). let a = get Layout.name x in
      cond (stays kind (frame_of t) (answers t q r) c a (has r)) (count 64 (list_choice kind (frame_of t) ((answers t q r).list c) a)) (used_of t)) (sym (E.rows c m)))

  from-six-same : (c : ℕ) (qs rs : List Question) (x y : ℕ) → (has r c ≡ true → first_no (before 6 qs) ≡ first_no (before 6 rs)) → (has r c ≡ true → x ≡ y)
      → from_six (by_coordinator u c r qs) x ≡ from_six (by_coordinator t c r rs) y
  unfolding from_six
  from-six-same c qs rs x y f g =
      let e : first_no (before 6 (by_coordinator u c r qs)) ≡ first_no (before 6 (by_coordinator t c r rs)) = rw (early-is u c r qs 6 (omega arith), early-is t c r rs 6 (omega arith)) (first-same-by c (before 6 qs) (before 6 rs) f) in
      ap (λ (n : ℕ). cond (eqb n 0) x 0) e ∙ go (first_no (before 6 (by_coordinator t c r rs))) refl
    where
      go : (n : ℕ) → first_no (before 6 (by_coordinator t c r rs)) ≡ n → cond (eqb n 0) x 0 ≡ cond (eqb n 0) y 0
      go zero q = g (early-passed t c r rs 6 (omega arith) q).0.answered
      go (suc n) q = rw (eqb-suc-zero n)

  row_of : (q i : ℕ) → has r i ≡ true → (stale_of u q i ≡ stale_of t q i) × (version_of u q i ≡ version_of t q i) × (desired_of u q i ≡ desired_of t q i)
  unfolding stale_of version_of desired_of
  row_of q i m =
      let e = copy-same q i m in (ap (λ (x : List ℕ). eqb (get mark x) 1) e, ap (get version) e, ap (get desired) e)

  work_in : (kind : Kind) (q c i : ℕ) → work_set kind t q c r i ≡ true → has r i ≡ true
  unfolding work_set
  work_in kind q c i m = worked-in kind (frame_of t) (answers t q r) c (name_of t c) (has r) i m

  -- ---- refused: the tables are as they were
  refused-same : (k : Call) → ((outcome t k).refusal ≡ 0 → ⊥) → ((outcome u k).refusal ≡ 0 → ⊥) → (outcome u k).refusal ≡ (outcome t k).refusal → called_after t k ≡ called_after u k → SameFor r (outcome t k) (outcome u k)
  refused-same k dt du e n =
      let a = when-refused t k dt in
      let b = when-refused u k du in
      record {
        refusal = sym e;
        value = a.0 ∙ sym b.0;
        buffer = a.2 ∙ sym b.2;
        called = called_is t k ∙ n ∙ sym (called_is u k);
        sheet = a.3 ∙ sym b.3;
        rows = λ i m. ap (λ (x : List ℕ). row_bytes x i) a.1 ∙ E.rows i m ∙ sym (ap (λ (x : List ℕ). row_bytes x i) b.1);
      }

  -- rows of R that were changed alike
  changed-same : {t' u' : List ℕ} {s : ℕ → Bool} {g : ℕ → List ℕ → List ℕ} → Changed t t' (used_of t) s g → Changed u u' (used_of u) s g
      → (i : ℕ) → Within (used_of t) i → has r i ≡ true → row_bytes t' i ≡ row_bytes u' i
  changed-same {t'} {u'} {s} {g} a b i w m =
      let v : Within (used_of u) i = rw used-same w in
      a.rows i w ∙ ap (λ (x : List ℕ). cond (s i) (g i x) x) (E.rows i m) ∙ sym (b.rows i v)

  changed-as : {u' : List ℕ} {n : ℕ} {s s' : ℕ → Bool} {g g' : ℕ → List ℕ → List ℕ} → s ≡ s' → g ≡ g' → Changed u u' n s g → Changed u u' n s' g'
  changed-as {u'} {n} p q c = subst₂ (λ (s : ℕ → Bool) (g : ℕ → List ℕ → List ℕ). Changed u u' n s g) p q c

-- ---- two tables that are equal in R: behind the used rows
-- what is the same behind e is so behind any later place
pub drop_more : (e b : ℕ) (xs ys : List ℕ) → e ≤ b → drop e xs ≡ drop e ys → drop b xs ≡ drop b ys
drop_more e b xs ys h q =
    let n : e + (b - e) ≡ b = omega arith in
    rw (← n) (sym (drop-drop (b - e) e xs) ∙ ap (drop (b - e)) q ∙ drop-drop (b - e) e ys)

module _ {r : ℕ} {t u : List ℕ} (E : EqualIn r t u) where
  pub widths : row_length u ≡ row_length t
  unfolding row_length
  widths = rw (form-same E, files-same E, file-same E)

  pub lengths : length u ≡ length t
  unfolding length_right rows_end capacity_of Layout.capacity
  lengths = eqb-true _ _ (formed u E.formed-too).long ∙ ap₂ (λ (k w : ℕ). 16 + k * w) (get-same E Layout.capacity (omega arith)) widths ∙ sym (eqb-true _ _ (formed t E.formed).long)

  pub ends : rows_end u (used_of u) ≡ rows_end t (used_of t)
  unfolding rows_end
  ends = rw (used-same E, widths)

  -- behind the used rows both are zero
  pub rest : drop (rows_end t (used_of t)) u ≡ drop (rows_end t (used_of t)) t
  unfolding unused_zero
  rest =
      let e = rows_end t (used_of t) in
      zeros-are (drop e u) (rw (← ends) (formed u E.formed-too).zero) ∙ ap zeros (length-drop e u ∙ ap (λ (n : ℕ). n - e) lengths ∙ sym (length-drop e t))
      ∙ sym (zeros-are (drop e t) (formed t E.formed).zero)

send-same : (t u : List ℕ) (a : Sending) → EqualIn a.r t u → first_no (questions u (send a)) ≡ first_no (questions t (send a))
unfolding questions is_used first_no in_group
send-same t u a E =
    rw (E.formed, E.formed-too, used-same E, files-same E) (go (between 1 a.f (used_of t) && between 1 a.t (used_of t) && only_rows (used_of t) a.r && not (eqb a.f a.t)) (has a.r a.f) refl (has a.r a.t) refl)
  where
    go : (x y : Bool) → has a.r a.f ≡ y → (z : Bool) → has a.r a.t ≡ z
        → ◌≡◌ {A = ℕ} (cond x (cond (y && z) (cond (between 1 a.file (files_of t)) (cond (not (stale_of u a.file a.f)) (cond (stale_of u a.file a.t && leb (desired_of u a.file a.t) (version_of u a.file a.f)) 0 10) 9) 16) 3) 2)
        (cond x (cond (y && z) (cond (between 1 a.file (files_of t)) (cond (not (stale_of t a.file a.f)) (cond (stale_of t a.file a.t && leb (desired_of t a.file a.t) (version_of t a.file a.f)) 0 10) 9) 16) 3) 2)
    go true true m true n = rw ((row_of E a.file a.f m).0, (row_of E a.file a.f m).1, (row_of E a.file a.t n).0, (row_of E a.file a.t n).2)
    go true true m false n = refl
    go true false m z n = refl
    go false y m z n = refl

asks-same : (t u : List ℕ) (k : Call) (r : ℕ) → Answering k r → EqualIn r t u → first_no (questions u k) ≡ first_no (questions t k)
unfolding questions in_file in_group first_no
asks-same t u (read a) r by_read E = first-same-by E a.c _ _ (λ m. rw (work-same E Read a.file a.c m, poll-same E a.file, framed-same E, file-same E, files-same E))
asks-same t u (write a) r by_write E =
    ap (λ (n : ℕ). cond (sheet_right a.sheet) n 1)
    (first-same-by E a.c _ _ (λ m. rw (work-same E Write a.file a.c m, poll-same E a.file, framed-same E, file-same E, files-same E)))
asks-same t u (send a) r by_send E = send-same t u a E
asks-same t u (check a) r by_check E = ap (λ (n : ℕ). cond (sheet_right a.sheet) n 1) (first-same-by E a.c _ _ (λ m. rw (all-current-same E, poll-same E 1, framed-same E)))
asks-same t u (founding _) r x3 E = elim x3 [ ]
asks-same t u (join _) r x4 E = elim x4 [ ]
asks-same t u (carry _) r x5 E = elim x5 [ ]

-- with a question before them that both answer alike
first-too : (b : Bool) (qs rs : List Question) (x y : ℕ) → from_six qs x ≡ from_six rs y → from_six (record { ask = 1; yes = b } ∷ qs) x ≡ from_six (record { ask = 1; yes = b } ∷ rs) y
unfolding from_six before first_no
first-too true qs rs x y e = e
first-too false qs rs x y e = refl

called_same : (t u : List ℕ) (k : Call) (r : ℕ) → Answering k r → EqualIn r t u → called_after t k ≡ called_after u k
unfolding called_after questions before in_file in_group
called_same t u (read a) r by_read E = sym (ap (noted a.called) (from-six-same E a.c _ _ _ _ (λ m. rw (file-same E, files-same E)) (called-by-same E Read a.file a.c)))
called_same t u (write a) r by_write E =
    sym (ap (noted a.called) (first-too (sheet_right a.sheet) _ _ _ _ (from-six-same E a.c _ _ _ _ (λ m. rw (file-same E, files-same E)) (called-by-same E Write a.file a.c))))
called_same t u (send a) r by_send E = refl
called_same t u (check a) r by_check E = refl
called_same t u (founding _) r x3 E = elim x3 [ ]
called_same t u (join _) r x4 E = elim x4 [ ]
called_same t u (carry _) r x5 E = elim x5 [ ]

-- ---- done
done-same : (t u : List ℕ) (k : Call) (r : ℕ) → Answering k r → EqualIn r t u → first_no (questions t k) ≡ 0 → first_no (questions u k) ≡ 0 → SameFor r (done t k) (done u k)
unfolding done write_table writing send_table sending check_table checking check_list contents_of
done-same t u (read a) r by_read E ht hu = record {
  refusal = refl;
  value = rw (work-same E Read a.file a.c y.first.answered, poll-same E a.file);
  buffer = rw (work-same E Read a.file a.c y.first.answered, poll-same E a.file) (ap (λ (x : List ℕ). part a.offset a.count (Layout.contents x)) lowest-row);
  called = called_same t u (read a) r by_read E;
  sheet = refl;
  rows = λ i m. E.rows i m;
}
  where
    y : ReadYes t a
    y = read-yes t a ht

    low : ℕ
    low = lowest 64 (good (answers t a.file a.r) (work_set Read t a.file a.c a.r))

    lowest-row : copy_bytes t a.file low ≡ copy_bytes u a.file low
    lowest-row = sym (copy-same E a.file low (work_in E Read a.file a.c low (lowest-good (answers t a.file a.r) (work_set Read t a.file a.c a.r) y.current).1.inside))
done-same t u (write a) r by_write E ht hu = record {
  refusal = refl;
  value = rw (work-same E Write a.file a.c y.first.answered, poll-same E a.file);
  buffer = refl;
  called = called_same t u (write a) r by_write E;
  sheet = refl;
  rows = λ i m. changed-same E (write-rows t a y) alike i (answered-used t a.c a.r [] y.first i m) m;
}
  where
    y : WriteYes t a
    y = write-yes t a ht

    alike : Changed u (done u (write a)).table (used_of u) (work_set Write t a.file a.c a.r) (λ i. in_copy (file_length_of t) a.file (writing t a y i))
    alike = changed-as E (work-same E Write a.file a.c y.first.answered) (rw (work-same E Write a.file a.c y.first.answered, poll-same E a.file, file-same E)) (write-rows u a (write-yes u a hu))
done-same t u (send a) r by_send E ht hu = record {
  refusal = refl;
  value = sym (row_of E a.file a.f y.from-answered).1;
  buffer = refl;
  called = called_same t u (send a) r by_send E;
  sheet = refl;
  rows = λ i m. changed-same E (send-changed t a y) alike i (has_within (used_of t) a.r i y.rows m) m;
}
  where
    y : SendYes t a
    y = send-yes t a ht

    alike : Changed u (done u (send a)).table (used_of u) (eqb a.t) (λ i. in_copy (file_length_of t) a.file (refreshed_copy (copy_bytes t a.file a.f)))
    alike = changed-as E refl (ap₂ (λ (l : ℕ) (x : List ℕ). λ (i : ℕ). in_copy l a.file (refreshed_copy x)) (file-same E) (copy-same E a.file a.f y.from-answered)) (send-changed u a (send-yes u a hu))
done-same t u (check a) r by_check E ht hu = go (eqb a.r (in_force (answers t 1 a.r) (has a.r)).members) refl
  where
    y : CheckYes t a
    y = check-yes t a ht

    z : CheckYes u a
    z = check-yes u a hu

    same-u : (b : Bool) → eqb a.r (in_force (answers t 1 a.r) (has a.r)).members ≡ b → eqb a.r (in_force (answers u 1 a.r) (has a.r)).members ≡ b
    same-u b q = ap (λ (p : Poll). eqb a.r (in_force p (has a.r)).members) (poll-same E 1) ∙ q

    -- what a row becomes, by the number of files, their length, the counties and the polls
    by : ℕ → ℕ → (ℕ → ℕ) → (ℕ → Poll) → ℕ → List ℕ → List ℕ
    by n l y p = checked_row n l (λ q. good (p q) (has a.r)) (λ q. good_version (p q) (has a.r)) (highest_epoch (p 1) (has a.r) + 1) (laid_now (is_tall (in_force (p 1) (has a.r))) y a.r)

    by-same : by (files_of u) (file_length_of u) (county_of u) (λ q. answers u q a.r) ≡ by (files_of t) (file_length_of t) (county_of t) (λ q. answers t q a.r)
    by-same = ap₂ (λ (n l : ℕ). by n l (county_of u) (λ q. answers u q a.r)) (files-same E) (file-same E) ∙ ap₂ (by (files_of t) (file_length_of t)) (counties-same E) (fun_ext (poll-same E))

    go : (b : Bool) → eqb a.r (in_force (answers t 1 a.r) (has a.r)).members ≡ b → SameFor a.r (done t (check a)) (done u (check a))
    go true q = rw (q, same-u true q) (record { refusal = refl; value = ap (λ (p : Poll). highest_epoch p (has a.r)) (sym (poll-same E 1)); buffer = refl; called = called_same t u (check a) r by_check E; sheet = refl; rows = λ i m. E.rows i m })
    go false q =
        let room : ltb (highest_epoch (answers t 1 a.r) (has a.r)) limit ≡ true = rw q at y.room in
        let room-u : ltb (highest_epoch (answers u 1 a.r) (has a.r)) limit ≡ true = rw (same-u false q) at z.room in
        rw (q, same-u false q) (record {
          refusal = refl;
          value = ap (λ (p : Poll). highest_epoch p (has a.r) + 1) (sym (poll-same E 1));
          buffer = refl;
          called = called_same t u (check a) r by_check E;
          sheet = refl;
          rows = λ i m. changed-same E (check-rows t a y (ltb-true _ _ room)) (changed-as E refl by-same (check-rows u a z (ltb-true _ _ room-u)))
              i (answered-used t a.c a.r [] y.first i m) m;
        })
done-same t u (founding _) r x5 E ht hu = elim x5 [ ]
done-same t u (join _) r x6 E ht hu = elim x6 [ ]
done-same t u (carry _) r x7 E ht hu = elim x7 [ ]

pub unanswered-have-no-part : UnansweredHaveNoPart
unfolding UnansweredHaveNoPart
unanswered-have-no-part t u k r a E = go (outcome t k).refusal refl
  where
    same : (outcome u k).refusal ≡ (outcome t k).refusal
    same = refusal_is u k ∙ asks-same t u k r a E ∙ sym (refusal_is t k)

    go : (n : ℕ) → (outcome t k).refusal ≡ n → SameFor r (outcome t k) (outcome u k)
    go zero q = rw (when-done t k q, when-done u k (same ∙ q)) (done-same t u k r a E (sym (refusal_is t k) ∙ q) (sym (refusal_is u k) ∙ same ∙ q))
    go (suc n) q = refused-same E k (λ z. omega arith) (λ z. omega (arith, same)) same (called_same t u k r a E)
