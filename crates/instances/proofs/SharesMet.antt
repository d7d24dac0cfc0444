-- A founded history with one sheet, computed over bytes: a write, a check that leaves a machine out, and two writes more.
use mathlib.Core.Path.{◌≡◌, refl}
use mathlib.Core.List.{List, [], ◌∷◌}
use Prim.Native.Nat.{ℕ, ◌+◌, ◌*◌}
use lib.Dec.{eqb}
use borrow.Author.Tests.{eqb-true}
use Rattle.sets.proofs.UptoLaws.{every-at}
use Rattle.sets.specs.Upto
use Rattle.sets.specs.Sets
use Rattle.grid.specs.Sizes
use Rattle.quorums.specs.Quorums
use Rattle.octets.specs.Bytes
use Rattle.blocks.specs.Blocks
use Rattle.fields.specs.Layout
use Rattle.counties.specs.Levels
use Rattle.counties.specs.Counties
use Rattle.counties.specs.Marks
use Rattle.table.specs.Chain
use Rattle.table.specs.WellFormed
use Rattle.linking.specs.Linking
use Rattle.window.specs.Windows
use Rattle.asking.specs.Asking
use Rattle.sheet.specs.Sheet
use Rattle.sheet.specs.Shown
use Rattle.sheet.proofs.ShownLaws.{open_sheet}
use Rattle.protocol.specs.Polls
use Rattle.protocol.specs.Rows
use Rattle.protocol.specs.Calls
use Rattle.protocol.proofs.Computed.{IsTrue, so}
use Rattle.history.specs.Book
use Rattle.sharing.specs.Shares

-- three machines of one county, and a file of one byte
unfoldable three : Calls.Founding
three = record { capacity = 3; file_length = 1; names = 10 ∷ 0 ∷ 20 ∷ 0 ∷ 30 ∷ 0 ∷ []; choice = 0; files = 1; counties = 1 ∷ 1 ∷ 1 ∷ [] }

unfoldable blank : List ℕ
blank = Bytes.zeros (16 + 3 * Layout.stride 1 1)

-- club 1 writes the byte at machine 1, with this sheet; these rows answer
unfoldable writes : ℕ → List ℕ → Calls.Call
writes r sheet = Calls.write (record { c = 1; r = r; offset = 0; patch = 7 ∷ []; called = 0 ∷ []; file = 1; sheet = sheet; club = 1 })

unfoldable checks : ℕ → List ℕ → Calls.Call
checks r sheet = Calls.check (record { c = 1; r = r; sheet = sheet })

-- a list of calls, each given the sheet as the last one left it
unfoldable in_turn : List ℕ → List ℕ → List (List ℕ → Calls.Call) → List Calls.Call
in_turn t s [] = []
in_turn t s (f ∷ fs) = f s ∷ in_turn (Calls.outcome t (f s)).table (Calls.outcome t (f s)).sheet fs

unfoldable table : List ℕ
table = (Calls.outcome blank (Calls.founding three)).table

unfoldable calls : List Calls.Call
calls = in_turn table open_sheet (writes 7 ∷ checks 3 ∷ writes 3 ∷ writes 3 ∷ [])

founds : IsTrue (eqb (Calls.outcome blank (Calls.founding three)).refusal 0)
unfolding three blank IsTrue WellFormed.kept_right Layout.oldest Layout.records Layout.store_records Rows.sent_contents Windows.places Windows.width Windows.younger Windows.size Windows.start Windows.patch_in Windows.record_with Windows.record_of Windows.next Windows.path Windows.patches Windows.record_right Windows.window_right Windows.emptied Windows.free Windows.taken Windows.left Windows.youngest Windows.added Windows.window_of Windows.window_in Windows.store_window Windows.laid Windows.lastly Windows.sent Upto.upward Upto.every Upto.some Upto.count Upto.lowest Upto.most Sets.has Sets.is_row Sets.no_row Sets.first_rows Sets.gaining Sets.losing Sets.cut_to Sizes.root Sizes.root_up Sizes.published Sizes.new_five Sizes.exchanged Sizes.grid_by Sizes.mark_fits Sizes.new_mark Sizes.no_grid Sizes.spare Sizes.row_of Sizes.column_of Sizes.height Quorums.touches Quorums.covers Quorums.read_quorum Quorums.write_quorum Quorums.quorum Quorums.is_position Quorums.read_choice Quorums.write_choice Quorums.choice Bytes.number Bytes.bytes_of Bytes.part Bytes.put Bytes.all_zero Layout.get Layout.store Layout.form Layout.form_value Layout.capacity Layout.used Layout.first Layout.file_length Layout.file_count Layout.rest_in Layout.files_of Layout.spare Layout.former_mark Layout.former_oldest Layout.mark_in Layout.oldest_in Layout.spare_in Layout.copy_length Layout.copy_in Layout.in_copy Layout.in_copies Layout.copy_of Layout.copy_bytes Layout.name Layout.link Layout.epoch Layout.members Layout.grid_mark Layout.county Layout.list Layout.store_list Layout.no_list Layout.is_empty Layout.is_tall Layout.mark Layout.version Layout.desired Layout.reserved Layout.reserved_in Layout.form_of Layout.body_in Layout.stride_in Layout.contents Layout.store_contents Layout.body_length Layout.stride Layout.row_length Layout.rows_end Layout.row_bytes Blocks.block Blocks.with_block Blocks.with_blocks Layout.capacity_of Layout.used_of Layout.first_of Layout.file_length_of Layout.name_of Layout.link_of Layout.epoch_of Layout.list_of Layout.county_of Layout.stale_of Layout.version_of Layout.desired_of Layout.contents_of Linking.chain Chain.order_of Chain.frame_of Upto.among Upto.rises_from Linking.last_of Linking.behind WellFormed.between WellFormed.limit WellFormed.only_rows WellFormed.header_values WellFormed.head_values WellFormed.copy_values WellFormed.head_right WellFormed.copy_right WellFormed.length_right WellFormed.visits_each WellFormed.names_rise WellFormed.unused_zero WellFormed.desired_right WellFormed.list_right WellFormed.is_county WellFormed.county_right WellFormed.plain WellFormed.plain_right WellFormed.row_right WellFormed.lists_agree WellFormed.marks_right Marks.mark_right Marks.tall_table Marks.tall_right WellFormed.own_form WellFormed.well_formed Upto.keep Levels.seats Levels.at_seat Levels.level Levels.level_choice Counties.county_at Counties.counties Counties.in_county Counties.has_members Counties.several Counties.levels Counties.levels_choice Counties.list_quorum Counties.list_choice Marks.mark_now Marks.laid_now Polls.polled Polls.listed Polls.highest_epoch Polls.in_force Polls.unmarked Polls.marked Polls.good_version Polls.good Polls.current Polls.quorum_held Polls.own_try Polls.stays Polls.worked_on Rows.marked_copy Rows.patched_copy Rows.enrolled_row Rows.refreshed_copy Layout.with_row Layout.with_rows Rows.wrote_copy Rows.checked_row Calls.result_of Asking.first_no Sheet.sum Sheet.line_of Sheet.assured Sheet.ceiling Sheet.counting Sheet.total Sheet.assured_of Sheet.ceiling_of Sheet.count_of Sheet.total_of Sheet.all_assured Sheet.remainder Sheet.all_beyond Sheet.line_right Sheet.sheet_right Sheet.is_club Sheet.by_club Sheet.counted Sheet.cleared Shown.lines_of Shown.sheet_of open_sheet Asking.before Calls.is_used Calls.in_file Calls.in_group Calls.answers Calls.work_set Calls.names_in Calls.names_rising Bytes.zeros Calls.founded_header Calls.founded_row Calls.founded_list Calls.founded_rows Calls.founded Calls.by_coordinator Calls.questions Calls.called_by Calls.noted Calls.from_six Calls.called_after Calls.done Calls.lent Calls.lent_sheet Calls.refused Calls.outcome
founds = refl

two-done : IsTrue (eqb (Shares.done_since 0 table (Book.opened three) calls) 2)
unfolding Shares.since Shares.done_since writes checks in_turn table calls three blank Book.opened Book.entered Book.county_in Book.written Book.checked Book.agreed IsTrue WellFormed.kept_right Layout.oldest Layout.records Layout.store_records Rows.sent_contents Windows.places Windows.width Windows.younger Windows.size Windows.start Windows.patch_in Windows.record_with Windows.record_of Windows.next Windows.path Windows.patches Windows.record_right Windows.window_right Windows.emptied Windows.free Windows.taken Windows.left Windows.youngest Windows.added Windows.window_of Windows.window_in Windows.store_window Windows.laid Windows.lastly Windows.sent Upto.upward Upto.every Upto.some Upto.count Upto.lowest Upto.most Sets.has Sets.is_row Sets.no_row Sets.first_rows Sets.gaining Sets.losing Sets.cut_to Sizes.root Sizes.root_up Sizes.published Sizes.new_five Sizes.exchanged Sizes.grid_by Sizes.mark_fits Sizes.new_mark Sizes.no_grid Sizes.spare Sizes.row_of Sizes.column_of Sizes.height Quorums.touches Quorums.covers Quorums.read_quorum Quorums.write_quorum Quorums.quorum Quorums.is_position Quorums.read_choice Quorums.write_choice Quorums.choice Bytes.number Bytes.bytes_of Bytes.part Bytes.put Bytes.all_zero Layout.get Layout.store Layout.form Layout.form_value Layout.capacity Layout.used Layout.first Layout.file_length Layout.file_count Layout.rest_in Layout.files_of Layout.spare Layout.former_mark Layout.former_oldest Layout.mark_in Layout.oldest_in Layout.spare_in Layout.copy_length Layout.copy_in Layout.in_copy Layout.in_copies Layout.copy_of Layout.copy_bytes Layout.name Layout.link Layout.epoch Layout.members Layout.grid_mark Layout.county Layout.list Layout.store_list Layout.no_list Layout.is_empty Layout.is_tall Layout.mark Layout.version Layout.desired Layout.reserved Layout.reserved_in Layout.form_of Layout.body_in Layout.stride_in Layout.contents Layout.store_contents Layout.body_length Layout.stride Layout.row_length Layout.rows_end Layout.row_bytes Blocks.block Blocks.with_block Blocks.with_blocks Layout.capacity_of Layout.used_of Layout.first_of Layout.file_length_of Layout.name_of Layout.link_of Layout.epoch_of Layout.list_of Layout.county_of Layout.stale_of Layout.version_of Layout.desired_of Layout.contents_of Linking.chain Chain.order_of Chain.frame_of Upto.among Upto.rises_from Linking.last_of Linking.behind WellFormed.between WellFormed.limit WellFormed.only_rows WellFormed.header_values WellFormed.head_values WellFormed.copy_values WellFormed.head_right WellFormed.copy_right WellFormed.length_right WellFormed.visits_each WellFormed.names_rise WellFormed.unused_zero WellFormed.desired_right WellFormed.list_right WellFormed.is_county WellFormed.county_right WellFormed.plain WellFormed.plain_right WellFormed.row_right WellFormed.lists_agree WellFormed.marks_right Marks.mark_right Marks.tall_table Marks.tall_right WellFormed.own_form WellFormed.well_formed Upto.keep Levels.seats Levels.at_seat Levels.level Levels.level_choice Counties.county_at Counties.counties Counties.in_county Counties.has_members Counties.several Counties.levels Counties.levels_choice Counties.list_quorum Counties.list_choice Marks.mark_now Marks.laid_now Polls.polled Polls.listed Polls.highest_epoch Polls.in_force Polls.unmarked Polls.marked Polls.good_version Polls.good Polls.current Polls.quorum_held Polls.own_try Polls.stays Polls.worked_on Rows.marked_copy Rows.patched_copy Rows.enrolled_row Rows.refreshed_copy Layout.with_row Layout.with_rows Rows.wrote_copy Rows.checked_row Calls.result_of Asking.first_no Sheet.sum Sheet.line_of Sheet.assured Sheet.ceiling Sheet.counting Sheet.total Sheet.assured_of Sheet.ceiling_of Sheet.count_of Sheet.total_of Sheet.all_assured Sheet.remainder Sheet.all_beyond Sheet.line_right Sheet.sheet_right Sheet.is_club Sheet.by_club Sheet.counted Sheet.cleared Shown.lines_of Shown.sheet_of open_sheet Asking.before Calls.is_used Calls.in_file Calls.in_group Calls.answers Calls.work_set Calls.names_in Calls.names_rising Bytes.zeros Calls.founded_header Calls.founded_row Calls.founded_list Calls.founded_rows Calls.founded Calls.by_coordinator Calls.questions Calls.called_by Calls.noted Calls.from_six Calls.called_after Calls.done Calls.lent Calls.lent_sheet Calls.refused Calls.outcome
two-done = refl

none_yet : (x : ℕ) → Upto.Within 16 x → Sheet.count_of open_sheet x ≡ 0
unfolding Upto.every Blocks.block Bytes.number Bytes.bytes_of Bytes.part Bytes.zeros Layout.get Sheet.line_of Sheet.counting Sheet.count_of Shown.lines_of Shown.sheet_of open_sheet
none_yet x w = eqb-true _ 0 (every-at 16 (λ k. eqb (Sheet.count_of open_sheet k) 0) refl x w)

pub counts-sum-met : Shares.CountsSumMet
unfolding Shares.CountsSumMet Shares.OneSheet Shares.LentIt Shares.sheet_after writes checks in_turn table calls
counts-sum-met = (blank, three, open_sheet, calls, eqb-true _ 0 (so _ founds), none_yet, (refl, (refl, (refl, (refl, tt)))), eqb-true _ 2 (so _ two-done))
