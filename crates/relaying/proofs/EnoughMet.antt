-- Four machines, each of its own county, and two files, just founded: the choice of the first answers whole, the fourth machine does not answer.
use mathlib.Core.Path.{◌≡◌, refl, sym}
use mathlib.Core.Bool.{Bool, true, not, ◌||◌}
use mathlib.Core.List.{List, [], ◌∷◌}
use Prim.Native.Nat.{ℕ}
use native.Mathlib.Omega.{arith}
use lib.Dec.{leb}
use borrow.Author.Tests.{le-leb}
use Rattle.sets.specs.Upto.{Within, every, some, count, keep, upward}
use Rattle.sets.specs.Sets.{has}
use Rattle.sets.proofs.UptoLaws.{every-at}
use Rattle.sets.proofs.SetLaws.{has_within}
use Rattle.grid.specs.Sizes.{root, root_up, published, new_five, exchanged, grid_by, new_mark, spare, row_of, column_of, height}
use Rattle.quorums.specs.declared.Kind.{Kind}
use Rattle.quorums.specs.declared.Kind.TheVariants.{Read, Write}
use Rattle.quorums.specs.Quorums.{is_position, read_choice, write_choice, choice}
use Rattle.fields.specs.Layout.{used_of, file_length_of, files_of}
use Rattle.table.specs.WellFormed.{between, is_county, only_rows}
use Rattle.table.proofs.FormLaws.{well-formed-of}
use Rattle.octets.specs.Bytes.{zeros}
use Rattle.linking.specs.Linking.{inserted, by_name}
use Rattle.asking.specs.Asking.{first_no, before}
use Rattle.sheet.proofs.ShownLaws.{open_sheet, open-right}
use Rattle.counties.specs.Levels.{seats, at_seat, level_choice}
use Rattle.counties.specs.Counties.{county_at, counties, in_county, has_members, several, levels_choice, list_choice}
use Rattle.counties.specs.Marks.{mark_now, laid_now}
use Rattle.protocol.specs.Polls.{polled}
use Rattle.protocol.specs.Calls.{Call, founding, read, write, is_used, in_file, in_group, by_coordinator, questions, outcome, names_in, founded_list}
use Rattle.counties.specs.Claims.{ChosenPass}
use Rattle.counties.proofs.TwoLevelLaws.{chosen-pass}
use Rattle.history.specs.Book.{Book, name_in, county_in, frame, opened, has_all, some_has_all}
use Rattle.history.specs.Claims.{table_after, book_after, after}
use Rattle.history.proofs.Answers.{first-file}
use Rattle.history.proofs.State.{whole, State, frame_is}
use Rattle.history.proofs.Theorems.{opens}
use Rattle.history.proofs.Lost.{four_machines, blank, founds}
use Rattle.choosing.specs.Choosing.{first_called}
use Rattle.relaying.specs.Enough.{By, a_read, a_write, AnswersWhole, ChoiceEnoughMet}

unfoldable apart : List ℕ
apart = 1 ∷ 2 ∷ 3 ∷ 4 ∷ []

founded-apart : (outcome blank (founding (four_machines apart))).refusal ≡ 0
unfolding apart every is_county between county_at
founded-apart = founds apart refl

-- the set that c calls first, by the book
called_is : (q : ℕ) (t : List ℕ) (b : Book) (e : ℕ) → State q t b e → (kind : Kind) (c : ℕ) → Within (used_of t) c → first_called kind t c ≡ list_choice kind (frame b) (b.own c) (name_in b c)
unfolding first_called whole polled
called_is q t b e S kind c u = rw (frame_is q t b e S, S.names c u, S.inv.epochs.owned c u)

-- row 1's choice over all four, computed
chosen : Kind → ℕ → Bool
chosen kind = list_choice kind (frame (opened (four_machines apart))) ((opened (four_machines apart)).own 1) (name_in (opened (four_machines apart)) 1)

-- it has none but the first three, and a row with every done write
first_three : (kind : Kind) → (every 4 (λ i. not (chosen kind i) || has 7 i) ≡ true) × (some_has_all (opened (four_machines apart)) (chosen kind) ≡ true)
unfolding some_has_all has_all chosen opened four_machines apart founded_list names_in frame county_in county_at by_name inserted name_in counties in_county has_members several mark_now laid_now upward seats keep at_seat level_choice levels_choice list_choice has count every some root root_up published new_five exchanged grid_by new_mark spare row_of column_of height is_position read_choice write_choice choice
first_three Read = (refl, refl)
first_three Write = (refl, refl)

answered : (kind : Kind) (i : ℕ) → chosen kind i ≡ true → has 7 i ≡ true
unfolding chosen list_choice ChosenPass opened four_machines founded_list names_in laid_now
answered kind i m =
    let u = has_within 4 15 i (omega arith) (chosen-pass kind _ _ _ _ i m) in
    let h : (not (chosen kind i) || has 7 i) ≡ true = every-at 4 (λ j. not (chosen kind j) || has 7 j) (first_three kind).0 i u in
    rw m at h

-- row 1 reads, or writes, the only byte of the file; the first three answer
unfoldable by_first : Kind → Call
by_first Read = read (record { c = 1; r = 7; offset = 0; count = 1; buffer = 0 ∷ []; called = 0 ∷ []; file = 1 })
by_first Write = write (record { c = 1; r = 7; offset = 0; patch = 7 ∷ []; called = 0 ∷ []; file = 1; sheet = open_sheet; club = 1 })

by_first_lem : (kind : Kind) → By (by_first kind) kind 1 1 7
unfolding by_first
by_first_lem Read = a_read
by_first_lem Write = a_write

module _ (t : List ℕ) (S : State 1 t (opened (four_machines apart)) 0) where
  called : (kind : Kind) → first_called kind t 1 ≡ chosen kind
  unfolding chosen opened four_machines names_in
  called kind = called_is 1 t (opened (four_machines apart)) 0 S kind 1 (omega (arith, S.used))

  passes : (kind : Kind) → first_no (before 6 (questions t (by_first kind))) ≡ 0
  unfolding by_first opened four_machines names_in questions before by_coordinator first_no is_used between only_rows in_file in_group has zeros
  passes kind =
      let u : used_of t ≡ 4 = S.used in
      let f : file_length_of t ≡ 1 = sym S.file in
      let g : leb 1 (files_of t) ≡ true = le-leb 1 (files_of t) S.group.1 in
      go kind u f g
    where
      go : (kind : Kind) → used_of t ≡ 4 → file_length_of t ≡ 1 → leb 1 (files_of t) ≡ true → first_no (before 6 (questions t (by_first kind))) ≡ 0
      go Read u f g = rw (well-formed-of t S.formed, u, f, g)
      go Write u f g = rw (open-right, well-formed-of t S.formed, u, f, g)

  whole-choice : (kind : Kind) → AnswersWhole t (opened (four_machines apart)) (by_first kind) kind 1 7
  unfolding opened
  whole-choice kind = record { own = refl; answers = rw (called kind) (answered kind); current = rw (called kind) (first_three kind).1; passes = passes kind }

pub choice-enough-met : ChoiceEnoughMet
unfolding ChoiceEnoughMet opened four_machines founded_list names_in laid_now has table_after book_after
choice-enough-met kind = (
  (outcome blank (founding (four_machines apart))).table,
  (λ q. opened (four_machines apart)),
  by_first kind,
  1,
  1,
  7,
  4,
  after blank (four_machines apart) [] founded-apart,
  by_first_lem kind,
  whole-choice _ (first-file (opens blank (four_machines apart) founded-apart)) kind,
  refl,
  refl,
)
