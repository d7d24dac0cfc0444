-- The walk, short histories and cases, computed over bytes.
use mathlib.Core.Path.{◌≡◌, refl}
use mathlib.Core.Bool.{Bool, true, false}
use Rattle.sets.specs.Upto
use Rattle.sets.specs.Sets
use Rattle.grid.specs.Sizes
use Rattle.quorums.specs.Quorums
use Rattle.octets.specs.Bytes
use Rattle.blocks.specs.Blocks
use Rattle.fields.specs.Layout
use Rattle.table.specs.Chain
use Rattle.table.specs.WellFormed
use Rattle.linking.specs.Linking
use Rattle.window.specs.Windows
use Rattle.joining.specs.Joining
use Rattle.asking.specs.Asking
use Rattle.sheet.specs.Sheet
use Rattle.sheet.specs.Shown
use Rattle.sheet.proofs.ShownLaws.{open_sheet}
use Rattle.counties.specs.Levels
use Rattle.counties.specs.Counties
use Rattle.counties.specs.Marks
use Rattle.protocol.specs.Polls
use Rattle.protocol.specs.Rows
use Rattle.protocol.specs.Calls
use Rattle.carrying.specs.Moves
use Rattle.carrying.proofs.Computed as Small
use Rattle.protocol.proofs.Histories
use Rattle.protocol.proofs.Cases

-- a test's answer as a type, so that a test that fails is computed once
unfoldable pub IsTrue : Bool → Type 0
IsTrue true = true ≡ true
IsTrue false = ⊥

pub so : (b : Bool) → IsTrue b → b ≡ true
unfolding IsTrue
so true x = x
so false x = absurd x

computed : IsTrue (Histories.all_replay Histories.histories) × IsTrue (Cases.all_hold Cases.cases)
unfolding IsTrue Sheet.sum Sheet.line_of Sheet.assured Sheet.ceiling Sheet.counting Sheet.total Sheet.assured_of Sheet.ceiling_of Sheet.count_of Sheet.total_of Sheet.all_assured Sheet.remainder Sheet.all_beyond Sheet.line_right Sheet.sheet_right Sheet.is_club Sheet.by_club Sheet.counted Sheet.cleared Shown.lines_of Shown.sheet_of open_sheet Calls.lent_sheet Histories.wrs Histories.cks Histories.fair_use WellFormed.kept_right Layout.oldest Layout.records Layout.store_records Rows.sent_contents Windows.places Windows.width Windows.younger Windows.size Windows.start Windows.patch_in Windows.record_with Windows.record_of Windows.next Windows.path Windows.patches Windows.record_right Windows.window_right Windows.emptied Windows.free Windows.taken Windows.left Windows.youngest Windows.added Windows.window_of Windows.window_in Windows.store_window Windows.laid Windows.lastly Windows.sent Histories.fo Histories.rdq Histories.wrq Histories.snq Histories.rdc Histories.wrc Histories.rd Histories.wr Histories.sn Histories.ck Histories.mv Histories.jn Small.small Small.early Small.late Moves.goes_over Moves.all_plain Moves.carried_row Moves.carried Moves.carried_length Histories.same Histories.steps_hold Histories.replays Histories.all_replay Histories.histories Cases.all_hold Cases.in_one Cases.pair Cases.row1 Cases.row2 Cases.row3 Cases.set Cases.third Cases.trio Cases.unlisted Cases.nobody Cases.full Cases.cases Upto.upward Upto.every Upto.some Upto.count Upto.lowest Upto.most Sets.has Sets.is_row Sets.no_row Sets.first_rows Sets.gaining Sets.losing Sets.cut_to Sizes.root Sizes.root_up Sizes.published Sizes.new_five Sizes.exchanged Sizes.grid_by Sizes.mark_fits Sizes.new_mark Sizes.no_grid Sizes.spare Sizes.row_of Sizes.column_of Sizes.height Quorums.touches Quorums.covers Quorums.read_quorum Quorums.write_quorum Quorums.quorum Quorums.is_position Quorums.read_choice Quorums.write_choice Quorums.choice Bytes.number Bytes.bytes_of Bytes.part Bytes.put Bytes.all_zero Layout.get Layout.store Layout.form Layout.form_value Layout.capacity Layout.used Layout.first Layout.file_length Layout.file_count Layout.rest_in Layout.files_of Layout.spare Layout.former_mark Layout.former_oldest Layout.mark_in Layout.oldest_in Layout.spare_in Layout.copy_length Layout.copy_in Layout.in_copy Layout.in_copies Layout.copy_of Layout.copy_bytes Layout.name Layout.link Layout.epoch Layout.members Layout.grid_mark Layout.county Layout.list Layout.store_list Layout.no_list Layout.is_empty Layout.is_tall Layout.mark Layout.version Layout.desired Layout.reserved Layout.reserved_in Layout.form_of Layout.body_in Layout.stride_in Layout.contents Layout.store_contents Layout.body_length Layout.stride Layout.row_length Layout.rows_end Layout.row_bytes Blocks.block Blocks.with_block Blocks.with_blocks Blocks.in_turn Layout.capacity_of Layout.used_of Layout.first_of Layout.file_length_of Layout.name_of Layout.link_of Layout.epoch_of Layout.list_of Layout.county_of Layout.stale_of Layout.version_of Layout.desired_of Layout.contents_of Linking.chain Chain.order_of Chain.frame_of Upto.among Upto.rises_from Linking.last_of Linking.behind Joining.row_before Joining.named_row Joining.joined_behind Joining.joined WellFormed.between WellFormed.limit WellFormed.only_rows WellFormed.header_values WellFormed.head_values WellFormed.copy_values WellFormed.head_right WellFormed.copy_right WellFormed.length_right WellFormed.visits_each WellFormed.names_rise WellFormed.unused_zero WellFormed.desired_right WellFormed.list_right WellFormed.is_county WellFormed.county_right WellFormed.plain WellFormed.plain_right WellFormed.row_right WellFormed.lists_agree WellFormed.marks_right WellFormed.own_form WellFormed.well_formed Upto.keep Levels.seats Levels.at_seat Levels.level Levels.level_choice Counties.county_at Counties.counties Counties.in_county Counties.has_members Counties.several Counties.levels Counties.levels_choice Counties.list_quorum Counties.list_choice Marks.mark_now Marks.laid_now Marks.mark_right Marks.tall_table Marks.tall_right Polls.polled Polls.listed Polls.highest_epoch Polls.in_force Polls.unmarked Polls.marked Polls.good_version Polls.good Polls.current Polls.quorum_held Polls.own_try Polls.stays Polls.worked_on Rows.marked_copy Rows.patched_copy Rows.enrolled_row Rows.refreshed_copy Layout.with_row Layout.with_rows Rows.wrote_copy Rows.checked_row Calls.result_of Asking.first_no Asking.before Calls.is_used Calls.in_file Calls.in_group Calls.answers Calls.work_set Calls.names_in Calls.names_rising Bytes.zeros Calls.founded_header Calls.founded_row Calls.founded_list Calls.founded_rows Calls.founded Calls.by_coordinator Calls.questions Calls.called_by Calls.noted Calls.from_six Calls.called_after Calls.done Calls.lent Calls.refused Calls.outcome
computed = (refl, refl)

pub histories-replay : Histories.all_replay Histories.histories ≡ true
histories-replay = so (Histories.all_replay Histories.histories) computed.0

pub cases-hold : Cases.all_hold Cases.cases ≡ true
cases-hold = so (Cases.all_hold Cases.cases) computed.1
