-- One machine lost: a check by all members but one of the list in force is not refused by 6 or 7.
use mathlib.Core.Path.{◌≡◌, refl, sym, ◌∙◌, ap, subst}
use mathlib.Core.Bool.{Bool, true, false, cond, ◌&&◌, or-true}
use mathlib.Core.Logic.{◌⊎◌, inl, inr}
use mathlib.Core.List.{List, [], ◌∷◌}
use Prim.Native.Nat.{ℕ, ◌+◌, ◌*◌, ◌^◌, ◌≤◌}
use native.Mathlib.Omega.{arith}
use lib.Dec.{eqb}
use lib.ListN.{length}
use borrow.Author.Tests.{eqb-true, eq-eqb, le-leb, lt-ltb}
use Rattle.sets.specs.Upto.{Within, every, some, count}
use Rattle.sets.specs.Sets.{has, losing}
use Rattle.bools.proofs.BoolLaws.{and_l}
use Rattle.sets.proofs.SetLaws.{has-lose, has_within, inside-lt}
use Rattle.quorums.specs.declared.Kind.TheVariants.{Write}
use Rattle.quorums.proofs.LossLaws.{losing-one}
use Rattle.octets.specs.Bytes.{zeros}
use Rattle.octets.proofs.ByteLaws.{length-zeros}
use Rattle.grid.specs.Sizes.{new_mark}
use Rattle.grid.proofs.SizeLaws.{mark-low}
use Rattle.fields.specs.declared.Laid.{Laid}
use Rattle.fields.specs.Layout.{is_tall, stride, used_of, files_of, county_of}
use Rattle.table.specs.WellFormed.{between, is_county, only_rows}
use Rattle.sets.proofs.UptoLaws.{every-at, every_of}
use Rattle.sets.proofs.CountLaws.{count-some}
use Rattle.table.proofs.FormLaws.{well-formed-of}
use Rattle.sheet.proofs.ShownLaws.{open_sheet, open-right}
use Rattle.asking.specs.Asking.{first_no, before}
use Rattle.counties.specs.Counties.{Frame, county_at, several, list_quorum}
use Rattle.counties.specs.Marks.{laid_now, mark_right}
use Rattle.counties.specs.Claims.{InOne, OneCountyMarks}
use Rattle.counties.proofs.OneCountyLaws.{one-county-marks}
use Rattle.counties.proofs.MarkLaws.{mark-either}
use Rattle.protocol.specs.Polls.{polled}
use Rattle.protocol.specs.Calls.{Founding, Checking, Call, founding, join, read, write, send, check, carry, is_used, by_coordinator, questions, done, outcome, names_in, names_rising, founded_list}
use Rattle.protocol.proofs.QuestionLaws.{refusal_is, when-done}
use Rattle.protocol.proofs.FoundedLaws.{founds-of, founded-files}
use Rattle.seats.specs.Seats.{ListBearsLoss}
use Rattle.seats.proofs.LossLaws.{list-bears-loss}
use Rattle.history.specs.Book.{Book, county_in, opened, has_all, holds_quorum, some_has_all, written, passed_on, agreed, checked, admitted, entered}
use Rattle.history.specs.Claims.{each_has_all, table_after, book_after, Reached, after, ChecksByBook, AllButOneCheck, OneLost, OneLostMet}
use Rattle.history.proofs.Answers.{first-file}
use Rattle.history.proofs.State.{State, whole, county-is, frame_is}
use Rattle.history.proofs.Theorems.{reached, checks-by-book}

-- ---- the list in force was laid by a founding or a check: its mark is 3, or as within one county. Of the book alone: no more of the counties, since
-- a joining adds one
abbrev LaidSo : Book → Type 0
LaidSo b = (tall : Bool) × ((b.in_force.mark ≡ 3) ⊎ (b.in_force.mark ≡ new_mark tall (count 64 (has b.in_force.members))))

laid_so : (tall : Bool) (county : ℕ → ℕ) (r : ℕ) → ((laid_now tall county r).mark ≡ 3) ⊎ ((laid_now tall county r).mark ≡ new_mark tall (count 64 (has r)))
unfolding laid_now
laid_so tall county r = mark-either tall (several county (has r)) (count 64 (has r))

laid-either : (x : Bool) (c b : Book) → LaidSo c → LaidSo b → LaidSo (cond x c b)
laid-either true c b l m = l
laid-either false c b l m = m

laid-entered : (q : ℕ) (b : Book) → LaidSo b → (k : Call) (d : Bool) → LaidSo (entered q b k d)
unfolding entered opened founded_list admitted written passed_on checked agreed laid_now
laid-entered q b l k false = l
laid-entered q b l (founding a) true = (eqb a.choice 1, laid_so (eqb a.choice 1) (county_at a.counties) _)
laid-entered q b l (join a) true = l
laid-entered q b l (read a) true = l
laid-entered q b l (write a) true = laid-either (eqb a.file q) _ b l l
laid-entered q b l (send a) true = laid-either (eqb a.file q) _ b l l
laid-entered q b l (check a) true = go (eqb a.r b.in_force.members)
  where
    go : (x : Bool) → LaidSo (cond x b (agreed b a.r))
    go true = l
    go false = (is_tall b.in_force, laid_so (is_tall b.in_force) (county_in b) a.r)
laid-entered q b l (carry a) true = l

laid-after : (q : ℕ) (t : List ℕ) (b : Book) → LaidSo b → (ks : List Call) → LaidSo (book_after q t b ks)
unfolding book_after
laid-after q t b l [] = l
laid-after q t b l (k ∷ ks) = laid-after q (outcome t k).table _ (laid-entered q b l k (eqb (outcome t k).refusal 0)) ks

laid-reached : (t : List ℕ) (b : ℕ → Book) → Reached t b → (q : ℕ) → LaidSo (b q)
unfolding opened founded_list laid_now
laid-reached t b (after t₀ a ks h) q = laid-after q (outcome t₀ (founding a)).table (opened a) (eqb a.choice 1, laid_so (eqb a.choice 1) (county_at a.counties) _) ks

-- ---- so all members but one hold a write quorum of it, where it is within one county: question 1 takes no mark 3 there
others-hold : (t : List ℕ) (b : ℕ → Book) → Reached t b → InOne (county_in (b 1)) (has (b 1).in_force.members) → 4 ≤ count 64 (has (b 1).in_force.members) → (x : ℕ)
    → holds_quorum (b 1) Write (losing (has (b 1).in_force.members) x) ≡ true
unfolding holds_quorum ListBearsLoss OneCountyMarks whole polled
others-hold t b r one four x =
    ap (λ (f : Frame). list_quorum Write f v (losing (has v.members) x)) (sym (frame_is 1 t (b 1) _ S))
    ∙ list-bears-loss t (well-formed-of t S.formed) (laid-reached t b r 1).0 v laid S.inv.epochs.bound here four (losing (has v.members) x) (losing-one (has v.members) x)
  where
    v : Laid
    v = (b 1).in_force

    S : State 1 t (b 1) (reached t b r).0
    S = first-file (reached t b r).1

    here : InOne (county_of t) (has v.members)
    here = rw (county-is 1 t (b 1) _ S) one

    -- question 1 asked it of a row that has the list
    right : mark_right (county_of t) v ≡ true
    right =
        let i = count-some 64 (has v.members) (omega arith) in
        let u = has_within (used_of t) v.members i.0 S.inv.epochs.bound i.2 in
        subst (λ (l : Laid). mark_right (county_of t) l ≡ true) (S.inv.epochs.inside i.0 u i.2).1 (S.formed.marks i.0 u)

    mark : (v.mark ≡ 3) ⊎ (v.mark ≡ new_mark (laid-reached t b r 1).0 (count 64 (has v.members))) → v.mark ≡ new_mark (laid-reached t b r 1).0 (count 64 (has v.members))
    mark (inl z) = absurd (omega (arith, z, mark-low v.mark (count 64 (has v.members)) (sym (one-county-marks (county_of t) v here).right ∙ right)))
    mark (inr z) = z

    laid : v ≡ laid_now (laid-reached t b r 1).0 (county_of t) v.members
    laid = (λ j. record { members = v.members; mark = mark (laid-reached t b r 1).1 j }) ∙ sym ((one-county-marks (county_of t) v here).laid (laid-reached t b r 1).0)

-- such a check passes 1 to 3: its rows are members, and so used rows
passes-three : (t : List ℕ) (b : ℕ → Book) → Reached t b → (x : ℕ) (a : Checking) → AllButOneCheck t b x a → first_no (before 6 (questions t (check a))) ≡ 0
unfolding questions before by_coordinator first_no is_used between only_rows losing
passes-three t b r x a c = rw (
  c.sheet,
  well-formed-of t S.formed,
  le-leb 1 a.c (used a.c c.coordinator).0,
  le-leb a.c (used_of t) (used a.c c.coordinator).1,
  lt-ltb a.r (2 ^ used_of t) (inside-lt (used_of t) a.r used),
  c.coordinator,
)
  where
    S : State 1 t (b 1) (reached t b r).0
    S = first-file (reached t b r).1

    used : (i : ℕ) → has a.r i ≡ true → Within (used_of t) i
    used i m = has_within (used_of t) (b 1).in_force.members i S.inv.epochs.bound (and_l _ _ (sym (ap (λ (s : ℕ → Bool). s i) c.others) ∙ m))

pub one-lost : OneLost
unfolding OneLost ChecksByBook each_has_all
one-lost t b r x a c =
    let q : holds_quorum (b 1) Write (has a.r) ≡ true = ap (holds_quorum (b 1) Write) c.others ∙ others-hold t b r c.county (omega (arith, c.four)) x in
    let all : each_has_all (files_of t) b (has a.r) ≡ true = every_of (files_of t) _ c.current in
    checks-by-book t b r a (passes-three t b r x a c) ∙ rw (q, all, or-true (eqb a.r (b 1).in_force.members))

-- ---- four machines and two files, of these counties
unfoldable pub four_machines : List ℕ → Founding
four_machines places = record { capacity = 4; file_length = 1; names = 10 ∷ 0 ∷ 20 ∷ 0 ∷ 30 ∷ 0 ∷ 40 ∷ 0 ∷ []; choice = 0; files = 2; counties = places }

pub blank : List ℕ
blank = zeros (16 + 4 * stride 2 1)

pub founds : (places : List ℕ) → (eqb (length places) 4 && every 4 (λ i. is_county (county_at places i))) ≡ true → (outcome blank (founding (four_machines places))).refusal ≡ 0
unfolding four_machines blank questions first_no names_in names_rising between
founds places h =
    refusal_is blank (founding (four_machines places)) ∙ rw (eq-eqb (length (zeros (16 + 4 * stride 2 1))) (16 + 4 * stride 2 1) (length-zeros (16 + 4 * stride 2 1)), h)

-- ---- all of one county, just founded: the fourth is lost
unfoldable ones : List ℕ
ones = 1 ∷ 1 ∷ 1 ∷ 1 ∷ []

founds-one : (outcome blank (founding (four_machines ones))).refusal ≡ 0
unfolding ones every is_county between county_at
founds-one = founds ones refl

two-files : files_of (outcome blank (founding (four_machines ones))).table ≡ 2
unfolding done four_machines
two-files = rw (when-done blank (founding (four_machines ones)) founds-one) (founded-files (four_machines ones) (founds-of blank (four_machines ones) (sym (refusal_is blank (founding (four_machines ones))) ∙ founds-one)))

in_one : InOne (county_in (opened (four_machines ones))) (has (opened (four_machines ones)).in_force.members)
unfolding ones county_in county_at every opened four_machines founded_list names_in laid_now
in_one = record {
  which = 1;
  placed = omega arith;
  there = λ i m. eqb-true _ 1 (every-at 4 (λ k. eqb (county_at ones k) 1) refl i (has_within 4 15 i (omega arith) m));
}

pub one-lost-met : OneLostMet
unfolding OneLostMet four_machines opened founded_list names_in laid_now some_has_all has_all every some count has table_after book_after
one-lost-met = (
  (outcome blank (founding (four_machines ones))).table,
  (λ q. opened (four_machines ones)),
  4,
  record { c = 1; r = 7; sheet = open_sheet },
  after blank (four_machines ones) [] founds-one,
  record { four = omega arith; county = in_one; others = has-lose 15 4 (omega arith); current = λ q v. refl; coordinator = refl; sheet = open-right },
  refl,
  two-files,
)
