-- One machine writes over and over: every number of done writes up to 1,000,000 is reached.
use mathlib.Core.Path.{◌≡◌, refl, sym, ◌∙◌, ap, subst}
use mathlib.Core.Bool.{Bool, true, false, cond, ◌&&◌, ◌||◌}
use mathlib.Core.List.{List, [], ◌∷◌}
use Prim.Native.Nat.{ℕ, zero, suc, ◌+◌, ◌*◌, ◌<◌, ◌≤◌}
use native.Mathlib.Decide.{ℕ_discrete}
use native.Mathlib.Omega.{arith}
use lib.Dec.{eqb, leb}
use lib.ListN.{length, replicate}
use borrow.Author.Tests.{eq-eqb, lt-ltb, le-leb}
use Rattle.sets.specs.Upto.{Within, every}
use Rattle.linking.specs.Linking.{inserted, by_name}
use Rattle.sets.specs.Sets.{has, cut_to}
use Rattle.bools.proofs.BoolLaws.{and_l, and_r, or_l, or_r}
use Rattle.sets.proofs.UptoLaws.{every-at, every_of, some_at, some_of}
use Rattle.sets.proofs.SetLaws.{has_within}
use Rattle.quorums.specs.declared.Kind.TheVariants.{Write}
use Rattle.octets.proofs.ByteLaws.{length-put, length-zeros}
use Rattle.fields.specs.Layout.{stride, used_of, files_of, file_length_of}
use Rattle.table.specs.Chain.{frame_of}
use Rattle.table.specs.WellFormed.{between, is_county, limit, only_rows}
use Rattle.table.proofs.FormLaws.{well-formed-of}
use Rattle.counties.specs.Counties.{county_at, list_choice}
use Rattle.counties.specs.Marks.{laid_now}
use Rattle.protocol.specs.Polls.{good_version, current, quorum_held}
use Rattle.sheet.specs.Sheet.{by_club}
use Rattle.sheet.proofs.ShownLaws.{open_sheet, open-right, open-asks}
use Rattle.asking.specs.Asking.{first_no, before}
use Rattle.octets.specs.Bytes.{zeros}
use Rattle.protocol.specs.Calls.{Founding, Writing, founding, write, is_used, in_file, in_group, by_coordinator, questions, outcome, answers, work_set, names_in, names_rising, founded_list}
use Rattle.protocol.proofs.ListLaws.{one_holds}
use Rattle.protocol.proofs.PollLaws.{cut_in}
use Rattle.protocol.proofs.QuestionLaws.{refusal_is, ByCoordinator}
use Rattle.history.specs.Book.{Book, opened, frame, county_in, name_in, has_all, holds_quorum, some_has_all, write_set, written, entered}
use Rattle.history.specs.Demand3.{verdict, share_no, due}
use Rattle.history.specs.Claims.{table_after, book_after, Reached, after, a_write, BelowTheLimit, AtTheLimit, WithWrites, LimitReached}
use Rattle.history.proofs.State.{State, six-is, seven_is}
use Rattle.history.proofs.Answers.{version_now, passed-seven, Group, first-file}
use Rattle.history.proofs.Theorems.{next, opens, reached, below-the-limit, at-the-limit}

-- the machine writes the only byte of its file
unfoldable again : Writing
again = record { c = 1; r = 1; offset = 0; patch = 7 ∷ []; called = 0 ∷ []; file = 1; sheet = open_sheet; club = 1 }

-- the book of a file of one byte on one machine
record Lone (b : Book) : Type 0 where
  pub names : b.names ≡ 10 ∷ []
  pub counties : b.counties ≡ 1 ∷ []
  pub list : b.in_force ≡ laid_now false (county_at (1 ∷ [])) 1
  pub file : length b.file ≡ 1
  pub all : has_all b 1 ≡ true

module _ (b : Book) (L : Lone b) where
  holds : holds_quorum b Write (has 1) ≡ true
  unfolding holds_quorum frame county_in by_name inserted
  holds = rw (L.names, L.counties, L.list) one_holds

  someone : some_has_all b (has 1) ≡ true
  unfolding some_has_all has
  someone = some_of 64 _ 1 (omega arith) L.all

  -- the set of its write has row 1
  takes : write_set b 1 1 1 ≡ true
  unfolding write_set some_has_all has
  takes = go (holds_quorum b Write tried && some_has_all b tried) refl
    where
      tried : ℕ → Bool
      tried = cut_to (list_choice Write (frame b) (b.own 1) (name_in b 1)) (has 1)

      go : (x : Bool) → (holds_quorum b Write tried && some_has_all b tried) ≡ x → cond x tried (has 1) 1 ≡ true
      go true h =
          let w = some_at 64 _ (and_r (holds_quorum b Write tried) _ h) in
          let m : tried w.0 ≡ true = and_l _ _ w.2 in
          let u = has_within 1 1 w.0 (omega arith) (cut_in (list_choice Write (frame b) (b.own 1) (name_in b 1)) (has 1) w.0 m) in
          subst (λ (i : ℕ). tried i ≡ true) {x = w.0} {y = 1} (omega arith) m
      go false h = refl

  -- the book after it
  more : Lone (entered 1 b (write again) true)
  unfolding again entered written has_all
  more = record {
    names = L.names;
    counties = L.counties;
    list = L.list;
    file = length-put b.file 0 (7 ∷ []) (omega (arith, L.file)) ∙ L.file;
    all = every_of (b.writes + 1) _ (λ k w. has-it k w (ℕ_discrete k (b.writes + 1)));
  }
    where
      has-it : (k : ℕ) → Within (b.writes + 1) k → Dec (k ≡ b.writes + 1) → (b.has_write 1 k || (write_set b 1 1 1 && has_all b 1 && eqb k (b.writes + 1))) ≡ true
      has-it k w (yes e) = or_r (b.has_write 1 k) _ (rw (takes, L.all) (eq-eqb k (b.writes + 1) e))
      has-it k w (no d) = or_l _ _ (every-at b.writes (b.has_write 1) L.all k (omega arith))

  -- ---- on its table
  module _ (t : List ℕ) (e : ℕ) (S : State 1 t b e) where
    by_one : ByCoordinator t 1 1
    unfolding has
    by_one =
        let u : used_of t ≡ 1 = S.used ∙ ap length L.names in
        record { formed = well-formed-of t S.formed; coordinator = omega arith; rows = rw u (omega arith); answered = refl }

    -- it passes 1 to 5, and 6 and 7 too
    passes-all : (first_no (before 6 (questions t (write again))) ≡ 0) × (first_no (before 8 (questions t (write again))) ≡ 0)
    unfolding again questions before by_coordinator first_no is_used between only_rows in_file in_group has by_club
    passes-all =
        let u : used_of t ≡ 1 = S.used ∙ ap length L.names in
        let f : file_length_of t ≡ 1 = sym S.file ∙ L.file in
        let six : quorum_held Write (frame_of t) (answers t 1 1) (work_set Write t 1 1 1) ≡ true = six-is 1 t b e S 1 Write 1 by_one ∙ holds in
        let cur : current (answers t 1 1) (work_set Write t 1 1 1) ≡ true = seven_is 1 t b e S 1 Write 1 by_one holds ∙ someone in
        let g : leb 1 (files_of t) ≡ true = le-leb 1 (files_of t) S.group.1 in
        rw (open-right, well-formed-of t S.formed, u, f, g, six, cur) (refl, open-asks)

    is-done : b.writes < 1_000_000 → (outcome t (write again)).refusal ≡ 0
    unfolding again first_no limit
    is-done l =
        let a = passed-seven t b e again passes-all.1 in
        refusal_is t (write again) ∙ a.3 ∙ rw (lt-ltb (good_version (answers t 1 1) (work_set Write t 1 1 1)) limit (omega (arith, version_now 1 t b e S Write 1 1 a.0 a.1 a.2)))

-- one machine, named 10, of county 1, and a file of one byte
unfoldable alone : Founding
alone = record { capacity = 1; file_length = 1; names = 10 ∷ 0 ∷ []; choice = 0; files = 1; counties = 1 ∷ [] }

blank : List ℕ
blank = zeros (16 + stride 1 1)

founds : (outcome blank (founding alone)).refusal ≡ 0
unfolding alone blank questions first_no names_in names_rising between every is_county county_at
founds = refusal_is blank (founding alone) ∙ rw (eq-eqb (length (zeros (16 + stride 1 1))) (16 + 1 * stride 1 1) (length-zeros (16 + stride 1 1) ∙ omega arith))

first : Lone (opened alone)
unfolding alone opened founded_list names_in zeros has_all every
first = record { names = refl; counties = refl; list = refl; file = refl; all = refl }

-- m writes more
many : (m : ℕ) (t : List ℕ) (b : ℕ → Book) (e : ℕ) → Group t b e → Lone (b 1) → (b 1).writes + m ≤ 1_000_000
    → let c = book_after 1 t (b 1) (replicate m (write again)) in (c.writes ≡ (b 1).writes + m) × Lone c
unfolding again table_after book_after entered written
many zero t b e G L h = (omega arith, L)
many (suc m) t b e G L h =
    let d : (outcome t (write again)).refusal ≡ 0 = is-done (b 1) L t e (first-file G) (omega arith) in
    let n = next t b e G (write again) in
    let G' : Group (outcome t (write again)).table (λ q. entered q (b q) (write again) true) n.0 = rw d at n.1 in
    let r = many m (outcome t (write again)).table (λ q. entered q (b q) (write again) true) n.0 G' (more (b 1) L) (omega arith) in
    subst (λ (x : ℕ). let c = book_after 1 (outcome t (write again)).table (entered 1 (b 1) (write again) (eqb x 0)) (replicate m (write again)) in (c.writes ≡ (b 1).writes + suc m) × Lone c)
    (sym d) (r.0 ∙ omega arith, r.1)

-- n writes, and then one more, whose answer is known of every such history
reach : (n x : ℕ) → n ≤ 1_000_000 → ((t : List ℕ) (b : ℕ → Book) → Reached t b → (b 1).writes ≡ n → Lone (b 1) → (outcome t (write again)).refusal ≡ x) → WithWrites n x
unfolding again opened
reach n x h answer =
    let r = many n (outcome blank (founding alone)).table (λ q. opened alone) 0 (opens blank alone founds) first (omega arith) in
    let w : (book_after 1 (outcome blank (founding alone)).table (opened alone) (replicate n (write again))).writes ≡ n = r.0 ∙ omega arith in
    let R = after blank alone (replicate n (write again)) founds in
    let l = reached _ _ R in
    record {
      table = _;
      books = _;
      reached = R;
      file = 1;
      writes = w;
      call = write again;
      rows = 1;
      asks = a_write;
      passes = (passes-all _ r.1 _ l.0 (first-file l.1)).1;
      answer = answer _ _ R w r.1;
    }

-- so the premises of both claims about 1,000,000 are met with: below it the answer is the book's, at it 8
pub limit-reached : LimitReached
unfolding LimitReached BelowTheLimit AtTheLimit again verdict due share_no
limit-reached = (
  reach 999_999 0 (omega arith) (λ t b R w L. let l = reached t b R in below-the-limit t b R (write again) Write 1 1 a_write w (passes-all (b 1) L t l.0 (first-file l.1)).0 ∙ rw (holds (b 1) L, someone (b 1) L) open-asks),
  reach 1_000_000 8 (omega arith) (λ t b R w L. let l = reached t b R in (at-the-limit t b R 1 w).writes (write again) 1 a_write (passes-all (b 1) L t l.0 (first-file l.1)).1),
)
