-- Two overlapping writes, a crash and messages that come twice: a run, for whatever is decided, and its calls, computed over bytes.
use mathlib.Core.Path.{◌≡◌, refl, ap}
use mathlib.Core.Bool.{Bool, true, false, ◌&&◌}
use mathlib.Core.Logic.{inl, inr}
use mathlib.Core.List.{List, [], ◌∷◌}
use Prim.Native.Nat.{ℕ, ◌+◌, ◌*◌}
use lib.Dec.{eqb}
use borrow.Author.Tests.{eqb-true}
use Rattle.bools.proofs.BoolLaws.{and_l, and_r, clash}
use Rattle.sets.specs.Upto
use Rattle.sets.specs.Sets
use Rattle.grid.specs.Sizes
use Rattle.quorums.specs.Quorums
use Rattle.octets.specs.Bytes
use Rattle.blocks.specs.Blocks
use Rattle.fields.specs.Layout
use Rattle.table.specs.Chain
use Rattle.table.specs.WellFormed
use Rattle.linking.specs.Linking
use Rattle.window.specs.Windows
use Rattle.asking.specs.Asking
use Rattle.sheet.specs.Sheet
use Rattle.sheet.specs.Shown
use Rattle.sheet.proofs.ShownLaws.{open_sheet}
use Rattle.counties.specs.Levels
use Rattle.counties.specs.Counties
use Rattle.counties.specs.Marks
use Rattle.protocol.specs.Polls
use Rattle.protocol.specs.Rows
use Rattle.protocol.specs.Calls
use Rattle.protocol.proofs.Computed.{IsTrue, so}
use Rattle.history.specs.Book.{opened}
use Rattle.history.specs.Claims as History
use Rattle.commit.specs.Steps.{silent, gave, some, show, shown, Decision, clear, prepared, Runs, State, set, In, EachOf, says, turns, logs, puts, installs, Step, begins, gives, hears, decides, ships, stores, reports-stored, notes, tells-take, takes, reports-took, crashes, founded, Reached, start, then, Later, now, later}
use Rattle.commit.specs.Atomic.{if_confirmed, entries, calls, Ended}
use Rattle.commit.proofs.Invariant.{no}
use Rattle.commit.proofs.Losses.{each_none, each_set}
use Rattle.interleaved.specs.Interleaved.{Request, to_write, asked, is_shown, set_of, by_library, call_of, calls_of, OverlapMet}

-- ---- the run
both : (r : List ℕ) (k : ℕ) (q : List ℕ) (c : ℕ) (P : ℕ → ℕ → List ℕ → Type 0) → P 1 k r → P 2 c q → EachOf (set (set (λ i. silent) 1 (gave k r)) 2 (gave c q)) P
both r k q c P a b = each_set (set (λ i. silent) 1 (gave k r)) 2 c q P b (each_set (λ i. silent) 1 k r P a (each_none P))

clear-not : (n : ℕ) (r : List ℕ) → clear ≡ prepared n r → ⊥
clear-not n r e = no cc

infixl 5 ◌▶◌ ◌▷◌
◌▶◌ : {d : Decision} {f : ℕ → List ℕ} {s t : State} → Reached d f s → Step d s t → Reached d f t
h ▶ w = then _ _ h w

◌▷◌ : {d : Decision} {s t u : State} → Later d s t → Step d t u → Later d s u
h ▷ w = later _ _ h w

module _ (d : Decision) (f : ℕ → List ℕ) where
  -- both calls have begun
  begun : (s : State) × Reached d f s
  unfolding founded set says turns logs puts installs In
  begun = (_, start ▶ begins _ 1 refl ▶ begins _ 2 refl ▶ gives _ 1 1 ▶ hears _ 1 1 0 _ _ (inl refl) refl ▶ gives _ 2 1 ▶ hears _ 2 1 0 _ _ (inl refl) refl)

  -- call 1 is done: machine 1 crashes in doubt, and is told to take twice
  first_done : (s : State) × Later d begun.0 s
  unfolding founded set says turns logs puts installs In begun
  first_done = (
    _,
    now ▷ decides _ 1 _ refl ▷ ships _ 1 1 0 _ _ refl refl ▷ ships _ 2 1 0 _ _ refl refl ▷ stores _ 1 1 0 _ (inr (inl refl)) refl refl
        ▷ stores _ 2 1 0 _ (inl refl) refl refl ▷ crashes _ 1 ▷ reports-stored _ 1 1 _ refl ▷ reports-stored _ 2 1 _ refl
        ▷ notes _ 1 _ refl (both _ 0 _ 0 _ (inr (inl refl)) (inl refl)) ▷ tells-take _ 1 1 _ refl ▷ tells-take _ 2 1 _ refl
        ▷ takes _ 1 1 _ (inr (inl refl)) refl ▷ takes _ 2 1 _ (inl refl) refl ▷ reports-took _ 1 1 (inr (inl refl)) (clear-not 1),
  )

  -- then call 2
  second-done : (s : State) × Later d begun.0 s
  unfolding founded set says turns logs puts installs In begun first_done
  second-done = (
    _,
    first_done.1 ▷ gives _ 1 2 ▷ hears _ 1 2 1 _ _ (inl refl) refl ▷ gives _ 2 2 ▷ hears _ 2 2 1 _ _ (inl refl) refl ▷ decides _ 2 _ refl
        ▷ ships _ 1 2 1 _ _ refl refl ▷ ships _ 2 2 1 _ _ refl refl ▷ stores _ 1 2 1 _ (inr (inl refl)) refl refl
        ▷ stores _ 2 2 1 _ (inl refl) refl refl ▷ reports-stored _ 1 2 _ refl ▷ reports-stored _ 2 2 _ refl
        ▷ notes _ 2 _ refl (both _ 1 _ 1 _ (inr (inl refl)) (inl refl)),
  )

-- ---- its calls
-- two machines named 10 and 20, each of its own county, and a file of one byte
unfoldable two : Calls.Founding
two = record { capacity = 2; file_length = 1; names = 10 ∷ 0 ∷ 20 ∷ 0 ∷ []; choice = 0; files = 1; counties = 1 ∷ 2 ∷ [] }

unfoldable blank : List ℕ
blank = Bytes.zeros (16 + 2 * Layout.stride 1 1)

unfoldable table : List ℕ
table = (Calls.outcome blank (Calls.founding two)).table

-- row c writes x; these rows answer
unfoldable writing : ℕ → ℕ → ℕ → Calls.Writing
writing c x r = record { c = c; r = r; offset = 0; patch = x ∷ []; called = 0 ∷ []; file = 1; sheet = open_sheet; club = 1 }

unfoldable reading : Calls.Reading
reading = record { c = 1; r = 3; offset = 0; count = 1; buffer = 0 ∷ []; called = 0 ∷ []; file = 1 }

-- call 1 writes 7, call 2 writes 8
unfoldable request : ℕ → Request
request n = to_write (writing n (6 + n) 0)

unfoldable is_eight : List ℕ → Bool
is_eight [] = false
is_eight (x ∷ []) = eqb x 8
is_eight (x ∷ y ∷ l) = false

is-eight : (l : List ℕ) → is_eight l ≡ true → l ≡ 8 ∷ []
unfolding is_eight
is-eight [] e = absurd (clash e)
is-eight (x ∷ []) e = ap (λ (y : ℕ). y ∷ []) (eqb-true x 8 e)
is-eight (x ∷ y ∷ l) e = absurd (clash e)

-- after both writes
unfoldable later-table : List ℕ
later-table = History.table_after table (Calls.write (writing 1 7 3) ∷ Calls.write (writing 2 8 3) ∷ [])

unfoldable founds : Bool
founds = eqb (Calls.outcome blank (Calls.founding two)).refusal 0 && eqb (Layout.used_of table) 2

unfoldable writes : Bool
writes = eqb (Calls.outcome table (Calls.write (writing 1 7 3))).refusal 0 && eqb (Calls.outcome (History.table_after table (Calls.write (writing 1 7 3) ∷ [])) (Calls.write (writing 2 8 3))).refusal 0

unfoldable reads : Bool
reads = eqb (Calls.outcome later-table (Calls.read reading)).refusal 0 && is_eight (Calls.outcome later-table (Calls.read reading)).buffer

founds-so : IsTrue founds
unfolding founds two blank table writing reading History.table_after IsTrue WellFormed.kept_right Layout.oldest Layout.records Layout.store_records Rows.sent_contents Windows.places Windows.width Windows.younger Windows.size Windows.start Windows.patch_in Windows.record_with Windows.record_of Windows.next Windows.path Windows.patches Windows.record_right Windows.window_right Windows.emptied Windows.free Windows.taken Windows.left Windows.youngest Windows.added Windows.window_of Windows.window_in Windows.store_window Windows.laid Windows.lastly Windows.sent Upto.upward Upto.every Upto.some Upto.count Upto.lowest Upto.most Sets.has Sets.is_row Sets.no_row Sets.first_rows Sets.gaining Sets.losing Sets.cut_to Sizes.root Sizes.root_up Sizes.published Sizes.new_five Sizes.exchanged Sizes.grid_by Sizes.mark_fits Sizes.new_mark Sizes.no_grid Sizes.spare Sizes.row_of Sizes.column_of Sizes.height Quorums.touches Quorums.covers Quorums.read_quorum Quorums.write_quorum Quorums.quorum Quorums.is_position Quorums.read_choice Quorums.write_choice Quorums.choice Bytes.number Bytes.bytes_of Bytes.part Bytes.put Bytes.all_zero Layout.get Layout.store Layout.form Layout.form_value Layout.capacity Layout.used Layout.first Layout.file_length Layout.file_count Layout.rest_in Layout.files_of Layout.spare Layout.former_mark Layout.former_oldest Layout.mark_in Layout.oldest_in Layout.spare_in Layout.copy_length Layout.copy_in Layout.in_copy Layout.in_copies Layout.copy_of Layout.copy_bytes Layout.name Layout.link Layout.epoch Layout.members Layout.grid_mark Layout.county Layout.list Layout.store_list Layout.no_list Layout.is_empty Layout.is_tall Layout.mark Layout.version Layout.desired Layout.reserved Layout.reserved_in Layout.form_of Layout.body_in Layout.stride_in Layout.contents Layout.store_contents Layout.body_length Layout.stride Layout.row_length Layout.rows_end Layout.row_bytes Blocks.block Blocks.with_block Blocks.with_blocks Layout.capacity_of Layout.used_of Layout.first_of Layout.file_length_of Layout.name_of Layout.link_of Layout.epoch_of Layout.list_of Layout.county_of Layout.stale_of Layout.version_of Layout.desired_of Layout.contents_of Linking.chain Chain.order_of Chain.frame_of Upto.among Upto.rises_from Linking.last_of Linking.behind WellFormed.between WellFormed.limit WellFormed.only_rows WellFormed.header_values WellFormed.head_values WellFormed.copy_values WellFormed.head_right WellFormed.copy_right WellFormed.length_right WellFormed.visits_each WellFormed.names_rise WellFormed.unused_zero WellFormed.desired_right WellFormed.list_right WellFormed.is_county WellFormed.county_right WellFormed.plain WellFormed.plain_right WellFormed.row_right WellFormed.lists_agree WellFormed.marks_right Marks.mark_right Marks.tall_table Marks.tall_right WellFormed.own_form WellFormed.well_formed Upto.keep Levels.seats Levels.at_seat Levels.level Levels.level_choice Counties.county_at Counties.counties Counties.in_county Counties.has_members Counties.several Counties.levels Counties.levels_choice Counties.list_quorum Counties.list_choice Marks.mark_now Marks.laid_now Polls.polled Polls.listed Polls.highest_epoch Polls.in_force Polls.unmarked Polls.marked Polls.good_version Polls.good Polls.current Polls.quorum_held Polls.own_try Polls.stays Polls.worked_on Rows.marked_copy Rows.patched_copy Rows.enrolled_row Rows.refreshed_copy Layout.with_row Layout.with_rows Rows.wrote_copy Rows.checked_row Calls.result_of Asking.first_no Sheet.sum Sheet.line_of Sheet.assured Sheet.ceiling Sheet.counting Sheet.total Sheet.assured_of Sheet.ceiling_of Sheet.count_of Sheet.total_of Sheet.all_assured Sheet.remainder Sheet.all_beyond Sheet.line_right Sheet.sheet_right Sheet.is_club Sheet.by_club Sheet.counted Sheet.cleared Shown.lines_of Shown.sheet_of open_sheet Asking.before Calls.is_used Calls.in_file Calls.in_group Calls.answers Calls.work_set Calls.names_in Calls.names_rising Bytes.zeros Calls.founded_header Calls.founded_row Calls.founded_list Calls.founded_rows Calls.founded Calls.by_coordinator Calls.questions Calls.called_by Calls.noted Calls.from_six Calls.called_after Calls.done Calls.lent Calls.lent_sheet Calls.refused Calls.outcome
founds-so = refl

writes-so : IsTrue writes
unfolding writes two blank table writing reading History.table_after IsTrue WellFormed.kept_right Layout.oldest Layout.records Layout.store_records Rows.sent_contents Windows.places Windows.width Windows.younger Windows.size Windows.start Windows.patch_in Windows.record_with Windows.record_of Windows.next Windows.path Windows.patches Windows.record_right Windows.window_right Windows.emptied Windows.free Windows.taken Windows.left Windows.youngest Windows.added Windows.window_of Windows.window_in Windows.store_window Windows.laid Windows.lastly Windows.sent Upto.upward Upto.every Upto.some Upto.count Upto.lowest Upto.most Sets.has Sets.is_row Sets.no_row Sets.first_rows Sets.gaining Sets.losing Sets.cut_to Sizes.root Sizes.root_up Sizes.published Sizes.new_five Sizes.exchanged Sizes.grid_by Sizes.mark_fits Sizes.new_mark Sizes.no_grid Sizes.spare Sizes.row_of Sizes.column_of Sizes.height Quorums.touches Quorums.covers Quorums.read_quorum Quorums.write_quorum Quorums.quorum Quorums.is_position Quorums.read_choice Quorums.write_choice Quorums.choice Bytes.number Bytes.bytes_of Bytes.part Bytes.put Bytes.all_zero Layout.get Layout.store Layout.form Layout.form_value Layout.capacity Layout.used Layout.first Layout.file_length Layout.file_count Layout.rest_in Layout.files_of Layout.spare Layout.former_mark Layout.former_oldest Layout.mark_in Layout.oldest_in Layout.spare_in Layout.copy_length Layout.copy_in Layout.in_copy Layout.in_copies Layout.copy_of Layout.copy_bytes Layout.name Layout.link Layout.epoch Layout.members Layout.grid_mark Layout.county Layout.list Layout.store_list Layout.no_list Layout.is_empty Layout.is_tall Layout.mark Layout.version Layout.desired Layout.reserved Layout.reserved_in Layout.form_of Layout.body_in Layout.stride_in Layout.contents Layout.store_contents Layout.body_length Layout.stride Layout.row_length Layout.rows_end Layout.row_bytes Blocks.block Blocks.with_block Blocks.with_blocks Layout.capacity_of Layout.used_of Layout.first_of Layout.file_length_of Layout.name_of Layout.link_of Layout.epoch_of Layout.list_of Layout.county_of Layout.stale_of Layout.version_of Layout.desired_of Layout.contents_of Linking.chain Chain.order_of Chain.frame_of Upto.among Upto.rises_from Linking.last_of Linking.behind WellFormed.between WellFormed.limit WellFormed.only_rows WellFormed.header_values WellFormed.head_values WellFormed.copy_values WellFormed.head_right WellFormed.copy_right WellFormed.length_right WellFormed.visits_each WellFormed.names_rise WellFormed.unused_zero WellFormed.desired_right WellFormed.list_right WellFormed.is_county WellFormed.county_right WellFormed.plain WellFormed.plain_right WellFormed.row_right WellFormed.lists_agree WellFormed.marks_right Marks.mark_right Marks.tall_table Marks.tall_right WellFormed.own_form WellFormed.well_formed Upto.keep Levels.seats Levels.at_seat Levels.level Levels.level_choice Counties.county_at Counties.counties Counties.in_county Counties.has_members Counties.several Counties.levels Counties.levels_choice Counties.list_quorum Counties.list_choice Marks.mark_now Marks.laid_now Polls.polled Polls.listed Polls.highest_epoch Polls.in_force Polls.unmarked Polls.marked Polls.good_version Polls.good Polls.current Polls.quorum_held Polls.own_try Polls.stays Polls.worked_on Rows.marked_copy Rows.patched_copy Rows.enrolled_row Rows.refreshed_copy Layout.with_row Layout.with_rows Rows.wrote_copy Rows.checked_row Calls.result_of Asking.first_no Sheet.sum Sheet.line_of Sheet.assured Sheet.ceiling Sheet.counting Sheet.total Sheet.assured_of Sheet.ceiling_of Sheet.count_of Sheet.total_of Sheet.all_assured Sheet.remainder Sheet.all_beyond Sheet.line_right Sheet.sheet_right Sheet.is_club Sheet.by_club Sheet.counted Sheet.cleared Shown.lines_of Shown.sheet_of open_sheet Asking.before Calls.is_used Calls.in_file Calls.in_group Calls.answers Calls.work_set Calls.names_in Calls.names_rising Bytes.zeros Calls.founded_header Calls.founded_row Calls.founded_list Calls.founded_rows Calls.founded Calls.by_coordinator Calls.questions Calls.called_by Calls.noted Calls.from_six Calls.called_after Calls.done Calls.lent Calls.lent_sheet Calls.refused Calls.outcome
writes-so = refl

reads_so : IsTrue reads
unfolding reads later-table is_eight two blank table writing reading History.table_after IsTrue WellFormed.kept_right Layout.oldest Layout.records Layout.store_records Rows.sent_contents Windows.places Windows.width Windows.younger Windows.size Windows.start Windows.patch_in Windows.record_with Windows.record_of Windows.next Windows.path Windows.patches Windows.record_right Windows.window_right Windows.emptied Windows.free Windows.taken Windows.left Windows.youngest Windows.added Windows.window_of Windows.window_in Windows.store_window Windows.laid Windows.lastly Windows.sent Upto.upward Upto.every Upto.some Upto.count Upto.lowest Upto.most Sets.has Sets.is_row Sets.no_row Sets.first_rows Sets.gaining Sets.losing Sets.cut_to Sizes.root Sizes.root_up Sizes.published Sizes.new_five Sizes.exchanged Sizes.grid_by Sizes.mark_fits Sizes.new_mark Sizes.no_grid Sizes.spare Sizes.row_of Sizes.column_of Sizes.height Quorums.touches Quorums.covers Quorums.read_quorum Quorums.write_quorum Quorums.quorum Quorums.is_position Quorums.read_choice Quorums.write_choice Quorums.choice Bytes.number Bytes.bytes_of Bytes.part Bytes.put Bytes.all_zero Layout.get Layout.store Layout.form Layout.form_value Layout.capacity Layout.used Layout.first Layout.file_length Layout.file_count Layout.rest_in Layout.files_of Layout.spare Layout.former_mark Layout.former_oldest Layout.mark_in Layout.oldest_in Layout.spare_in Layout.copy_length Layout.copy_in Layout.in_copy Layout.in_copies Layout.copy_of Layout.copy_bytes Layout.name Layout.link Layout.epoch Layout.members Layout.grid_mark Layout.county Layout.list Layout.store_list Layout.no_list Layout.is_empty Layout.is_tall Layout.mark Layout.version Layout.desired Layout.reserved Layout.reserved_in Layout.form_of Layout.body_in Layout.stride_in Layout.contents Layout.store_contents Layout.body_length Layout.stride Layout.row_length Layout.rows_end Layout.row_bytes Blocks.block Blocks.with_block Blocks.with_blocks Layout.capacity_of Layout.used_of Layout.first_of Layout.file_length_of Layout.name_of Layout.link_of Layout.epoch_of Layout.list_of Layout.county_of Layout.stale_of Layout.version_of Layout.desired_of Layout.contents_of Linking.chain Chain.order_of Chain.frame_of Upto.among Upto.rises_from Linking.last_of Linking.behind WellFormed.between WellFormed.limit WellFormed.only_rows WellFormed.header_values WellFormed.head_values WellFormed.copy_values WellFormed.head_right WellFormed.copy_right WellFormed.length_right WellFormed.visits_each WellFormed.names_rise WellFormed.unused_zero WellFormed.desired_right WellFormed.list_right WellFormed.is_county WellFormed.county_right WellFormed.plain WellFormed.plain_right WellFormed.row_right WellFormed.lists_agree WellFormed.marks_right Marks.mark_right Marks.tall_table Marks.tall_right WellFormed.own_form WellFormed.well_formed Upto.keep Levels.seats Levels.at_seat Levels.level Levels.level_choice Counties.county_at Counties.counties Counties.in_county Counties.has_members Counties.several Counties.levels Counties.levels_choice Counties.list_quorum Counties.list_choice Marks.mark_now Marks.laid_now Polls.polled Polls.listed Polls.highest_epoch Polls.in_force Polls.unmarked Polls.marked Polls.good_version Polls.good Polls.current Polls.quorum_held Polls.own_try Polls.stays Polls.worked_on Rows.marked_copy Rows.patched_copy Rows.enrolled_row Rows.refreshed_copy Layout.with_row Layout.with_rows Rows.wrote_copy Rows.checked_row Calls.result_of Asking.first_no Sheet.sum Sheet.line_of Sheet.assured Sheet.ceiling Sheet.counting Sheet.total Sheet.assured_of Sheet.ceiling_of Sheet.count_of Sheet.total_of Sheet.all_assured Sheet.remainder Sheet.all_beyond Sheet.line_right Sheet.sheet_right Sheet.is_club Sheet.by_club Sheet.counted Sheet.cleared Shown.lines_of Shown.sheet_of open_sheet Asking.before Calls.is_used Calls.in_file Calls.in_group Calls.answers Calls.work_set Calls.names_in Calls.names_rising Bytes.zeros Calls.founded_header Calls.founded_row Calls.founded_list Calls.founded_rows Calls.founded Calls.by_coordinator Calls.questions Calls.called_by Calls.noted Calls.from_six Calls.called_after Calls.done Calls.lent Calls.lent_sheet Calls.refused Calls.outcome
reads_so = refl

used-is : Layout.used_of table ≡ 2
unfolding founds
used-is = eqb-true _ _ (and_r (eqb (Calls.outcome blank (Calls.founding two)).refusal 0) _ (so _ founds-so))

-- whatever is decided, both calls heard both machines
sets-are : (d : Decision) (f : ℕ → List ℕ) → calls_of table request (calls (second-done d f).0) ≡ Calls.write (writing 1 7 3) ∷ Calls.write (writing 2 8 3) ∷ []
unfolding calls_of call_of asked request writing founded set says turns logs puts installs begun first_done second-done calls entries if_confirmed set_of is_shown shown show
sets-are d f = rw used-is refl

pub overlap-met : OverlapMet
unfolding founds writes reads later-table Runs Ended begun first_done second-done founded set says turns logs puts installs History.table_after table History.book_after opened writing
overlap-met = record {
  table = table;
  books = λ q. opened two;
  history = History.after blank two [] (eqb-true _ 0 (and_l _ _ (so _ founds-so)));
  request = request;
  during = (begun (by_library table request) (Layout.row_bytes table)).0;
  reached = (begun (by_library table request) (Layout.row_bytes table)).1;
  both_run = (tt, tt);
  end = (second-done (by_library table request) (Layout.row_bytes table)).0;
  from = (second-done (by_library table request) (Layout.row_bytes table)).1;
  both-ended = (tt, tt);
  one = writing 1 7 3;
  other = writing 2 8 3;
  list = sets-are (by_library table request) (Layout.row_bytes table);
  one-done = eqb-true _ 0 (and_l _ _ (so _ writes-so));
  other-done = eqb-true _ 0 (and_r (eqb (Calls.outcome table (Calls.write (writing 1 7 3))).refusal 0) _ (so _ writes-so));
  then-read = reading;
  read_done = eqb-true _ 0 (and_l _ _ (so _ reads_so));
  gives = is-eight _ (and_r (eqb (Calls.outcome later-table (Calls.read reading)).refusal 0) _ (so _ reads_so));
}
