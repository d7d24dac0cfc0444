-- A founded history of several counties, computed over bytes: two machines of county 1 and one each of counties 2, 3 and 4; the last leaves the list.
use mathlib.Core.Path.{refl}
use mathlib.Core.Bool.{Bool, ◌&&◌}
use mathlib.Core.List.{List, [], ◌∷◌}
use Prim.Native.Nat.{ℕ, ◌+◌, ◌*◌}
use lib.Dec.{eqb, ltb}
use borrow.Author.Tests.{eqb-true, ltb-true}
use Rattle.bools.proofs.BoolLaws.{and_l, and_r}
use Rattle.sets.specs.Upto
use Rattle.sets.specs.Sets
use Rattle.grid.specs.Sizes
use Rattle.quorums.specs.Quorums
use Rattle.octets.specs.Bytes
use Rattle.blocks.specs.Blocks
use Rattle.fields.specs.Layout
use Rattle.counties.specs.Levels
use Rattle.counties.specs.Counties
use Rattle.counties.specs.Marks
use Rattle.table.specs.Chain
use Rattle.table.specs.WellFormed
use Rattle.linking.specs.Linking
use Rattle.window.specs.Windows
use Rattle.asking.specs.Asking
use Rattle.sheet.specs.Sheet
use Rattle.sheet.specs.Shown
use Rattle.sheet.proofs.ShownLaws.{open_sheet}
use Rattle.protocol.specs.Polls
use Rattle.protocol.specs.Rows
use Rattle.protocol.specs.Calls
use Rattle.protocol.proofs.Computed.{IsTrue, so}
use Rattle.history.specs.Book
use Rattle.history.specs.Claims as History

unfoldable five : Calls.Founding
five = record { capacity = 5; file_length = 1; names = 10 ∷ 0 ∷ 20 ∷ 0 ∷ 30 ∷ 0 ∷ 40 ∷ 0 ∷ 50 ∷ 0 ∷ []; choice = 0; files = 1; counties = 1 ∷ 1 ∷ 2 ∷ 3 ∷ 4 ∷ [] }

unfoldable blank : List ℕ
blank = Bytes.zeros (16 + 5 * Layout.stride 1 1)

unfoldable start : List ℕ
start = (Calls.outcome blank (Calls.founding five)).table

-- all write the byte; the first four check
unfoldable calls : List Calls.Call
calls = Calls.write (record { c = 1; r = 31; offset = 0; patch = 7 ∷ []; called = 0 ∷ []; file = 1; sheet = open_sheet; club = 1 }) ∷ Calls.check (record { c = 1; r = 15; sheet = open_sheet }) ∷ []

unfoldable table : List ℕ
table = History.table_after start calls

unfoldable book : ℕ → Book.Book
book q = History.book_after q start (Book.opened five) calls

unfoldable last : Calls.Reading
last = record { c = 4; r = 15; offset = 0; count = 1; buffer = 0 ∷ []; called = 0 ∷ []; file = 1 }

-- what each of its claims comes to
unfoldable founds : Bool
founds = eqb (Calls.outcome blank (Calls.founding five)).refusal 0

unfoldable laid : Bool
laid =
    eqb (book 1).writes 1
    && (ltb (Upto.count 64 (Sets.has (book 1).in_force.members)) (Layout.used_of table)
    && (Counties.several (Book.county_in (book 1)) (Sets.has (book 1).in_force.members)
    && (eqb (book 1).in_force.mark 3
    && eqb (Calls.outcome table (Calls.read last)).refusal 0)))

computed : IsTrue (founds && laid)
unfolding founds laid five blank start calls table book last History.table_after History.book_after Book.opened Book.entered Book.county_in Book.written Book.checked Book.agreed IsTrue WellFormed.kept_right Layout.oldest Layout.records Layout.store_records Rows.sent_contents Windows.places Windows.width Windows.younger Windows.size Windows.start Windows.patch_in Windows.record_with Windows.record_of Windows.next Windows.path Windows.patches Windows.record_right Windows.window_right Windows.emptied Windows.free Windows.taken Windows.left Windows.youngest Windows.added Windows.window_of Windows.window_in Windows.store_window Windows.laid Windows.lastly Windows.sent Upto.upward Upto.every Upto.some Upto.count Upto.lowest Upto.most Sets.has Sets.is_row Sets.no_row Sets.first_rows Sets.gaining Sets.losing Sets.cut_to Sizes.root Sizes.root_up Sizes.published Sizes.new_five Sizes.exchanged Sizes.grid_by Sizes.mark_fits Sizes.new_mark Sizes.no_grid Sizes.spare Sizes.row_of Sizes.column_of Sizes.height Quorums.touches Quorums.covers Quorums.read_quorum Quorums.write_quorum Quorums.quorum Quorums.is_position Quorums.read_choice Quorums.write_choice Quorums.choice Bytes.number Bytes.bytes_of Bytes.part Bytes.put Bytes.all_zero Layout.get Layout.store Layout.form Layout.form_value Layout.capacity Layout.used Layout.first Layout.file_length Layout.file_count Layout.rest_in Layout.files_of Layout.spare Layout.former_mark Layout.former_oldest Layout.mark_in Layout.oldest_in Layout.spare_in Layout.copy_length Layout.copy_in Layout.in_copy Layout.in_copies Layout.copy_of Layout.copy_bytes Layout.name Layout.link Layout.epoch Layout.members Layout.grid_mark Layout.county Layout.list Layout.store_list Layout.no_list Layout.is_empty Layout.is_tall Layout.mark Layout.version Layout.desired Layout.reserved Layout.reserved_in Layout.form_of Layout.body_in Layout.stride_in Layout.contents Layout.store_contents Layout.body_length Layout.stride Layout.row_length Layout.rows_end Layout.row_bytes Blocks.block Blocks.with_block Blocks.with_blocks Layout.capacity_of Layout.used_of Layout.first_of Layout.file_length_of Layout.name_of Layout.link_of Layout.epoch_of Layout.list_of Layout.county_of Layout.stale_of Layout.version_of Layout.desired_of Layout.contents_of Linking.chain Chain.order_of Chain.frame_of Upto.among Upto.rises_from Linking.last_of Linking.behind WellFormed.between WellFormed.limit WellFormed.only_rows WellFormed.header_values WellFormed.head_values WellFormed.copy_values WellFormed.head_right WellFormed.copy_right WellFormed.length_right WellFormed.visits_each WellFormed.names_rise WellFormed.unused_zero WellFormed.desired_right WellFormed.list_right WellFormed.is_county WellFormed.county_right WellFormed.plain WellFormed.plain_right WellFormed.row_right WellFormed.lists_agree WellFormed.marks_right Marks.mark_right Marks.tall_table Marks.tall_right WellFormed.own_form WellFormed.well_formed Upto.keep Levels.seats Levels.at_seat Levels.level Levels.level_choice Counties.county_at Counties.counties Counties.in_county Counties.has_members Counties.several Counties.levels Counties.levels_choice Counties.list_quorum Counties.list_choice Marks.mark_now Marks.laid_now Polls.polled Polls.listed Polls.highest_epoch Polls.in_force Polls.unmarked Polls.marked Polls.good_version Polls.good Polls.current Polls.quorum_held Polls.own_try Polls.stays Polls.worked_on Rows.marked_copy Rows.patched_copy Rows.enrolled_row Rows.refreshed_copy Layout.with_row Layout.with_rows Rows.wrote_copy Rows.checked_row Calls.result_of Asking.first_no Sheet.sum Sheet.line_of Sheet.assured Sheet.ceiling Sheet.counting Sheet.total Sheet.assured_of Sheet.ceiling_of Sheet.count_of Sheet.total_of Sheet.all_assured Sheet.remainder Sheet.all_beyond Sheet.line_right Sheet.sheet_right Sheet.is_club Sheet.by_club Sheet.counted Sheet.cleared Shown.lines_of Shown.sheet_of open_sheet Asking.before Calls.is_used Calls.in_file Calls.in_group Calls.answers Calls.work_set Calls.names_in Calls.names_rising Bytes.zeros Calls.founded_header Calls.founded_row Calls.founded_list Calls.founded_rows Calls.founded Calls.by_coordinator Calls.questions Calls.called_by Calls.noted Calls.from_six Calls.called_after Calls.done Calls.lent Calls.lent_sheet Calls.refused Calls.outcome
computed = refl

pub several-met : History.SeveralMet
unfolding founds laid start table book
several-met =
    let all = so _ computed in
    let a = and_r founds laid all in
    let b = and_r (eqb (book 1).writes 1) _ a in
    let c = and_r (ltb (Upto.count 64 (Sets.has (book 1).in_force.members)) (Layout.used_of table)) _ b in
    let d = and_r (Counties.several (Book.county_in (book 1)) (Sets.has (book 1).in_force.members)) _ c in
    record {
      table = table;
      books = book;
      reached = History.after blank five calls (eqb-true _ 0 (and_l founds laid all));
      writes = eqb-true _ 1 (and_l _ _ a);
      fewer = ltb-true _ _ (and_l _ _ b);
      counties = and_l _ _ c;
      mark = eqb-true _ 3 (and_l _ _ d);
      call = last;
      done = eqb-true _ 0 (and_r (eqb (book 1).in_force.mark 3) _ d);
    }
