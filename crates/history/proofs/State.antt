-- A table against the book of a file: it is well formed, its frame is the founding's, and the invariant holds of its rows.
use mathlib.Core.Path.{◌≡◌, refl, sym, ◌∙◌, ap, ap₂, fun_ext}
use mathlib.Core.Bool.{Bool, true, false, ◌&&◌}
use mathlib.Core.List.{List, []}
use Prim.Native.Nat.{ℕ, ◌≤◌}
use native.Mathlib.Omega.{arith}
use lib.Dec.{leb}
use lib.ListN.{length}
use borrow.Author.Tests.{leb-true}
use Rattle.sets.specs.Upto.{Within, some}
use Rattle.sets.specs.Sets.{has}
use Rattle.quorums.specs.declared.Kind.{Kind}
use Rattle.quorums.specs.declared.Kind.TheVariants.{Read, Write}
use Rattle.fields.specs.Layout.{used_of, files_of, file_length_of, name_of, county_of, contents_of}
use Rattle.table.specs.Chain.{order_of, frame_of}
use Rattle.counties.specs.Counties.{Frame, county_at}
use Rattle.table.proofs.FormLaws.{Formed, well-formed-of, header-facts}
use Rattle.protocol.specs.Polls.{Poll, polled, listed, highest_epoch, in_force, good_version, good, current, quorum_held, worked_on}
use Rattle.protocol.specs.Calls.{answers, work_set}
use Rattle.octets.specs.Bytes.{zeros}
use Rattle.bools.proofs.BoolLaws.{and_l, and_r}
use Rattle.linking.specs.Linking.{by_name}
use Rattle.linking.proofs.NameLaws.{by_name-same}
use Rattle.table.proofs.RisingLaws.{chain-by-name}
use Rattle.protocol.proofs.ListLaws.{reads}
use Rattle.protocol.proofs.PollLaws.{Agree, agree_less, epoch-same, list_same, version-same, good-same, current-same, quorum-same, worked_same, worked-in}
use Rattle.protocol.proofs.QuestionLaws.{ByCoordinator, answered-used}
use Rattle.history.specs.Book.{Book, frame, name_in, county_in, holds_quorum, some_has_all}
use Rattle.history.proofs.Trail.{Trail}
use Rattle.history.proofs.Invariant.{Inv, in-force, quorum-is, current-is, answers-are}

-- what all rows say of file q
unfoldable pub whole : List ℕ → ℕ → Poll
whole t q = polled t q (λ i. true)

pub record State (q : ℕ) (t : List ℕ) (b : Book) (e : ℕ) : Type 0 where
  pub group : Within (files_of t) q
  pub formed : Formed t
  pub used : used_of t ≡ length b.names
  pub names : (i : ℕ) → Within (used_of t) i → name_of t i ≡ name_in b i
  pub places : used_of t ≡ length b.counties
  pub counties : (i : ℕ) → Within (used_of t) i → county_of t i ≡ county_in b i
  pub file : length b.file ≡ file_length_of t
  -- before the first write the file is as the founding left it
  pub blank : b.writes ≡ 0 → b.file ≡ zeros (length b.file)
  pub inv : Inv (used_of t) (whole t q) (contents_of t q) b e
  pub trail : Trail q t b.writes

-- the chain order is that of the names, and so is the book's
chain-is : (q : ℕ) (t : List ℕ) (b : Book) (e : ℕ) → State q t b e → order_of t ≡ (frame b).order
unfolding frame
chain-is q t b e S =
    chain-by-name t (well-formed-of t S.formed) ∙ sym (by_name-same (name_of t) (name_in b) (used_of t) (λ j w. sym (S.names j w)))
    ∙ ap (by_name (name_in b)) S.used

-- the counties are the book's: neither table nor book has one for a row that is not used
pub county-is : (q : ℕ) (t : List ℕ) (b : Book) (e : ℕ) → State q t b e → county_of t ≡ county_in b
unfolding county_of county_in county_at
county-is q t b e S = fun_ext (λ i. go i (leb 1 i && leb i (used_of t)) refl)
  where
    go : (i : ℕ) (x : Bool) → (leb 1 i && leb i (used_of t)) ≡ x → county_of t i ≡ county_in b i
    go i true h = S.counties i (leb-true 1 i (and_l _ _ h), leb-true i (used_of t) (and_r (leb 1 i) _ h))
    go i false h = rw (← S.places, h)

pub frame_is : (q : ℕ) (t : List ℕ) (b : Book) (e : ℕ) → State q t b e → frame_of t ≡ frame b
unfolding frame_of frame
frame_is q t b e S = λ j. record { order = chain-is q t b e S j; county = county-is q t b e S j }

-- the poll of R says of R what all rows say
masked : (q : ℕ) (t : List ℕ) (r : ℕ) → Agree (answers t q r) (whole t q) (has r)
unfolding answers whole polled
masked q t r = record {
  stale = λ i m. rw m;
  version = λ i m. rw m;
  desired = λ i m. rw m;
  epoch = λ i m. rw m;
  list = λ i m. rw m;
}

module _ (q : ℕ) (t : List ℕ) (b : Book) (e : ℕ) (S : State q t b e) (r : ℕ) where
  pub few : used_of t ≤ 64
  few = let h = header-facts t S.formed.header in omega arith

  -- ---- a set within R
  module _ (s : ℕ → Bool) (sub : (i : ℕ) → s i ≡ true → has r i ≡ true) where
    agree : Agree (answers t q r) (whole t q) s
    agree = agree_less (answers t q r) (whole t q) s (has r) sub (masked q t r)

    pub quorum-whole : (kind : Kind) → quorum_held kind (frame_of t) (answers t q r) s ≡ quorum_held kind (frame b) (whole t q) s
    quorum-whole kind = quorum-same (answers t q r) (whole t q) s agree kind (frame_of t) ∙ ap (λ (f : Frame). quorum_held kind f (whole t q) s) (frame_is q t b e S)

    pub epoch-whole : highest_epoch (answers t q r) s ≡ highest_epoch (whole t q) s
    epoch-whole = epoch-same (answers t q r) (whole t q) s agree

    pub list-whole : some 64 (listed (answers t q r) s) ≡ true → in_force (answers t q r) s ≡ in_force (whole t q) s
    list-whole h = list_same (answers t q r) (whole t q) s agree h

    pub current-whole : current (answers t q r) s ≡ current (whole t q) s
    current-whole = current-same (answers t q r) (whole t q) s agree

    pub good-whole : good (answers t q r) s ≡ good (whole t q) s
    good-whole = good-same (answers t q r) (whole t q) s agree

    pub version-whole : good_version (answers t q r) s ≡ good_version (whole t q) s
    version-whole = version-same (answers t q r) (whole t q) s agree

  -- ---- a call by c
  module _ (kind : Kind) (c : ℕ) (B : ByCoordinator t c r) where
    pub answered : (i : ℕ) → has r i ≡ true → Within (used_of t) i
    answered = answered-used t c r [] B

    pub work-is : work_set kind t q c r ≡ worked_on kind (frame b) (whole t q) c (name_in b c) (has r)
    unfolding work_set
    work-is =
        worked_same kind (frame_of t) (answers t q r) (whole t q) c (name_of t c) (has r) B.answered (masked q t r)
        ∙ ap₂ (λ (f : Frame) (a : ℕ). worked_on kind f (whole t q) c a (has r)) (frame_is q t b e S) (S.names c B.coordinator)

    pub work-sub : (i : ℕ) → work_set kind t q c r i ≡ true → has r i ≡ true
    unfolding work_set
    work-sub i m = worked-in kind (frame_of t) (answers t q r) c (name_of t c) (has r) i m

    pub work-used : (i : ℕ) → work_set kind t q c r i ≡ true → Within (used_of t) i
    work-used i m = answered i (work-sub i m)

    -- question 6 of the set worked on is the book's quorum of R
    pub six-is : quorum_held kind (frame_of t) (answers t q r) (work_set kind t q c r) ≡ holds_quorum b kind (has r)
    six-is =
        quorum-whole (work_set kind t q c r) work-sub kind ∙ ap (quorum_held kind (frame b) (whole t q)) work-is
        ∙ (answers-are (used_of t) (whole t q) (contents_of t q) b e few S.inv kind c (name_in b c) (has r) answered).0

    -- question 7 is "a row of R has every done write"
    pub seven_is : holds_quorum b kind (has r) ≡ true → current (answers t q r) (work_set kind t q c r) ≡ some_has_all b (has r)
    seven_is held =
        current-whole (work_set kind t q c r) work-sub ∙ ap (current (whole t q)) work-is
        ∙ (answers-are (used_of t) (whole t q) (contents_of t q) b e few S.inv kind c (name_in b c) (has r) answered).1 held

    -- the set worked on holds the quorum that it was asked for
    pub work-quorum : quorum_held kind (frame_of t) (answers t q r) (work_set kind t q c r) ≡ true → holds_quorum b kind (work_set kind t q c r) ≡ true
    work-quorum h =
        sym (quorum-is (used_of t) (whole t q) (contents_of t q) b e few S.inv (work_set kind t q c r) work-used kind)
        ∙ sym (quorum-whole (work_set kind t q c r) work-sub kind) ∙ h

-- every file's poll has the same epochs and lists
pub polls-alike : (t : List ℕ) (q r : ℕ) (s : ℕ → Bool)
    → ((kind : Kind) → quorum_held kind (frame_of t) (answers t 1 r) s ≡ quorum_held kind (frame_of t) (answers t q r) s) × (highest_epoch (answers t 1 r) s ≡ highest_epoch (answers t q r) s) × (in_force (answers t 1 r) s ≡ in_force (answers t q r) s)
unfolding answers polled quorum_held highest_epoch in_force listed
polls-alike t q r s = (λ kind. refl, refl, refl)

-- ---- a check works on R itself
module _ (q : ℕ) (t : List ℕ) (b : Book) (e : ℕ) (S : State q t b e) (c r : ℕ) (B : ByCoordinator t c r) where
  all : (i : ℕ) → has r i ≡ true → has r i ≡ true
  all i m = m

  ins : (i : ℕ) → has r i ≡ true → Within (used_of t) i
  ins = answered q t b e S r Write c B

  pub six-check : quorum_held Write (frame_of t) (answers t 1 r) (has r) ≡ holds_quorum b Write (has r)
  six-check = (polls-alike t q r (has r)).0 Write ∙ quorum-whole q t b e S r (has r) all Write ∙ quorum-is (used_of t) (whole t q) (contents_of t q) b e (few q t b e S r) S.inv (has r) ins Write

  -- where it holds a write quorum, V is the list in force, of the highest epoch
  module _ (held : holds_quorum b Write (has r) ≡ true) where
    check-reads : holds_quorum b Read (has r) ≡ true
    unfolding holds_quorum
    check-reads = reads (frame b) b.in_force Write (has r) held

    pub force-check : (highest_epoch (answers t 1 r) (has r) ≡ e) × (in_force (answers t 1 r) (has r) ≡ b.in_force)
    unfolding quorum_held
    force-check =
        let f = in-force (used_of t) (whole t q) (contents_of t q) b e (few q t b e S r) S.inv (has r) ins check-reads in (
          (polls-alike t q r (has r)).1 ∙ epoch-whole q t b e S r (has r) all ∙ f.0,
          (polls-alike t q r (has r)).2 ∙ list-whole q t b e S r (has r) all (and_l _ _ (sym ((polls-alike t q r (has r)).0 Write) ∙ six-check ∙ held)) ∙ f.1,
        )

    pub seven-check : (in_force (answers t 1 r) (has r) ≡ b.in_force) × (current (answers t q r) (has r) ≡ some_has_all b (has r))
    seven-check = (force-check.1, current-whole q t b e S r (has r) all ∙ current-is (used_of t) (whole t q) (contents_of t q) b e (few q t b e S r) S.inv (has r) ins check-reads)
