-- The histories and the cases, computed over bytes.
use mathlib.Core.Path.{◌≡◌, refl, subst}
use mathlib.Core.Bool.{true}
use Prim.Native.Nat.{ℕ, zero, suc}
use native.Mathlib.Omega.{arith}
use Rattle.sets.specs.Upto
use Rattle.sets.specs.Upto.{Within}
use Rattle.sets.specs.Sets
use Rattle.sets.proofs.SetLaws.{has_within}
use Rattle.grid.specs.Sizes
use Rattle.quorums.specs.Quorums
use Rattle.octets.specs.Bytes
use Rattle.blocks.specs.Blocks
use Rattle.fields.specs.Layout
use Rattle.table.specs.Chain
use Rattle.table.specs.WellFormed
use Rattle.linking.specs.Linking
use Rattle.window.specs.Windows
use Rattle.joining.specs.Joining
use Rattle.asking.specs.Asking
use Rattle.sheet.specs.Sheet
use Rattle.sheet.specs.Shown
use Rattle.sheet.proofs.ShownLaws.{open_sheet}
use Rattle.counties.specs.Levels
use Rattle.counties.specs.Counties
use Rattle.counties.specs.Marks
use Rattle.protocol.specs.Polls
use Rattle.protocol.specs.Rows
use Rattle.protocol.specs.Calls
use Rattle.protocol.specs.Claims
use Rattle.protocol.proofs.Histories as Replay
use Rattle.protocol.proofs.Cases as Tables
use Rattle.protocol.proofs.Computed.{IsTrue, so}
use Rattle.replays.proofs.Histories
use Rattle.replays.proofs.Cases

-- equal at rows 1 and 2; equal at row 1, which the set 1 has alone
at-two : {A : Type 0} (f g : ℕ → A) → f 1 ≡ g 1 → f 2 ≡ g 2 → (i : ℕ) → Within 2 i → f i ≡ g i
at-two f g a b zero w = absurd (omega arith)
at-two f g a b (suc zero) w = a
at-two f g a b (suc (suc zero)) w = b
at-two f g a b (suc (suc (suc k))) w = absurd (omega arith)

at_one : {A : Type 0} (f g : ℕ → A) → f 1 ≡ g 1 → (i : ℕ) → Sets.has 1 i ≡ true → f i ≡ g i
at_one f g a i m = let w = has_within 1 1 i (omega arith) m in subst (λ (j : ℕ). f j ≡ g j) {x = 1} {y = i} (omega arith) a

histories-computed : IsTrue (Replay.all_replay Histories.histories)
unfolding IsTrue WellFormed.kept_right Layout.oldest Layout.records Layout.store_records Rows.sent_contents Windows.places Windows.width Windows.younger Windows.size Windows.start Windows.patch_in Windows.record_with Windows.record_of Windows.next Windows.path Windows.patches Windows.record_right Windows.window_right Windows.emptied Windows.free Windows.taken Windows.left Windows.youngest Windows.added Windows.window_of Windows.window_in Windows.store_window Windows.laid Windows.lastly Windows.sent Replay.fo Replay.jn Replay.rdq Replay.wrs Replay.wrq Replay.snq Replay.rdc Replay.wrc Replay.rd Replay.wr Replay.sn Replay.cks Replay.ck Replay.same Replay.steps_hold Replay.replays Replay.all_replay Histories.histories Tables.all_hold Tables.in_one Tables.pair Tables.row1 Tables.row2 Tables.row3 Tables.set Tables.single Tables.third Tables.trio Tables.unlisted Tables.nobody Tables.full Tables.remarked Cases.malformed Cases.formed Cases.two_bytes Cases.founds Cases.cases Cases.listed Cases.grouped Cases.last Cases.touched Cases.other Cases.doubled Cases.elsewhere Cases.unlike Cases.differ Cases.all_differ Upto.upward Upto.every Upto.some Upto.count Upto.lowest Upto.most Sets.has Sets.is_row Sets.no_row Sets.first_rows Sets.gaining Sets.losing Sets.cut_to Sizes.root Sizes.root_up Sizes.published Sizes.new_five Sizes.exchanged Sizes.grid_by Sizes.mark_fits Sizes.new_mark Sizes.no_grid Sizes.spare Sizes.row_of Sizes.column_of Sizes.height Quorums.touches Quorums.covers Quorums.read_quorum Quorums.write_quorum Quorums.quorum Quorums.is_position Quorums.read_choice Quorums.write_choice Quorums.choice Bytes.number Bytes.bytes_of Bytes.part Bytes.put Bytes.all_zero Layout.get Layout.store Layout.form Layout.form_value Layout.capacity Layout.used Layout.first Layout.file_length Layout.file_count Layout.rest_in Layout.files_of Layout.spare Layout.former_mark Layout.former_oldest Layout.mark_in Layout.oldest_in Layout.spare_in Layout.copy_length Layout.copy_in Layout.in_copy Layout.in_copies Layout.copy_of Layout.copy_bytes Layout.name Layout.link Layout.epoch Layout.members Layout.grid_mark Layout.county Layout.list Layout.store_list Layout.no_list Layout.is_empty Layout.is_tall Layout.mark Layout.version Layout.desired Layout.reserved Layout.reserved_in Layout.form_of Layout.body_in Layout.stride_in Layout.contents Layout.store_contents Layout.body_length Layout.stride Layout.row_length Layout.rows_end Layout.row_bytes Blocks.block Blocks.with_block Blocks.with_blocks Layout.capacity_of Layout.used_of Layout.first_of Layout.file_length_of Layout.name_of Layout.link_of Layout.epoch_of Layout.list_of Layout.county_of Layout.stale_of Layout.version_of Layout.desired_of Layout.contents_of Linking.chain Chain.order_of Chain.frame_of Upto.among Upto.rises_from Linking.last_of Linking.behind Joining.row_before Joining.named_row Joining.joined_behind Joining.joined WellFormed.between WellFormed.limit WellFormed.only_rows WellFormed.header_values WellFormed.head_values WellFormed.copy_values WellFormed.head_right WellFormed.copy_right WellFormed.length_right WellFormed.visits_each WellFormed.names_rise WellFormed.unused_zero WellFormed.desired_right WellFormed.list_right WellFormed.is_county WellFormed.county_right WellFormed.plain WellFormed.plain_right WellFormed.row_right WellFormed.lists_agree WellFormed.marks_right WellFormed.own_form WellFormed.well_formed Upto.keep Levels.seats Levels.at_seat Levels.level Levels.level_choice Counties.county_at Counties.counties Counties.in_county Counties.has_members Counties.several Counties.levels Counties.levels_choice Counties.list_quorum Counties.list_choice Marks.mark_now Marks.laid_now Marks.mark_right Marks.tall_table Marks.tall_right Polls.polled Polls.listed Polls.highest_epoch Polls.in_force Polls.unmarked Polls.marked Polls.good_version Polls.good Polls.current Polls.quorum_held Polls.own_try Polls.stays Polls.worked_on Rows.marked_copy Rows.patched_copy Rows.enrolled_row Rows.refreshed_copy Layout.with_row Layout.with_rows Rows.wrote_copy Rows.checked_row Calls.result_of Asking.first_no Sheet.sum Sheet.line_of Sheet.assured Sheet.ceiling Sheet.counting Sheet.total Sheet.assured_of Sheet.ceiling_of Sheet.count_of Sheet.total_of Sheet.all_assured Sheet.remainder Sheet.all_beyond Sheet.line_right Sheet.sheet_right Sheet.is_club Sheet.by_club Sheet.counted Sheet.cleared Shown.lines_of Shown.sheet_of open_sheet Asking.before Calls.is_used Calls.in_file Calls.in_group Calls.answers Calls.work_set Calls.names_in Calls.names_rising Bytes.zeros Calls.founded_header Calls.founded_row Calls.founded_list Calls.founded_rows Calls.founded Calls.by_coordinator Calls.questions Calls.called_by Calls.noted Calls.from_six Calls.called_after Calls.done Calls.lent Calls.lent_sheet Calls.refused Calls.outcome
histories-computed = refl

later-computed : IsTrue (Replay.all_replay Histories.later)
unfolding IsTrue WellFormed.kept_right Layout.oldest Layout.records Layout.store_records Rows.sent_contents Windows.places Windows.width Windows.younger Windows.size Windows.start Windows.patch_in Windows.record_with Windows.record_of Windows.next Windows.path Windows.patches Windows.record_right Windows.window_right Windows.emptied Windows.free Windows.taken Windows.left Windows.youngest Windows.added Windows.window_of Windows.window_in Windows.store_window Windows.laid Windows.lastly Windows.sent Replay.fo Replay.jn Replay.rdq Replay.wrs Replay.wrq Replay.snq Replay.rdc Replay.wrc Replay.rd Replay.wr Replay.sn Replay.cks Replay.ck Replay.same Replay.steps_hold Replay.replays Replay.all_replay Histories.later Tables.all_hold Tables.in_one Tables.pair Tables.row1 Tables.row2 Tables.row3 Tables.set Tables.single Tables.third Tables.trio Tables.unlisted Tables.nobody Tables.full Tables.remarked Cases.malformed Cases.formed Cases.two_bytes Cases.founds Cases.cases Cases.listed Cases.grouped Cases.last Cases.touched Cases.other Cases.doubled Cases.elsewhere Cases.unlike Cases.differ Cases.all_differ Upto.upward Upto.every Upto.some Upto.count Upto.lowest Upto.most Sets.has Sets.is_row Sets.no_row Sets.first_rows Sets.gaining Sets.losing Sets.cut_to Sizes.root Sizes.root_up Sizes.published Sizes.new_five Sizes.exchanged Sizes.grid_by Sizes.mark_fits Sizes.new_mark Sizes.no_grid Sizes.spare Sizes.row_of Sizes.column_of Sizes.height Quorums.touches Quorums.covers Quorums.read_quorum Quorums.write_quorum Quorums.quorum Quorums.is_position Quorums.read_choice Quorums.write_choice Quorums.choice Bytes.number Bytes.bytes_of Bytes.part Bytes.put Bytes.all_zero Layout.get Layout.store Layout.form Layout.form_value Layout.capacity Layout.used Layout.first Layout.file_length Layout.file_count Layout.rest_in Layout.files_of Layout.spare Layout.former_mark Layout.former_oldest Layout.mark_in Layout.oldest_in Layout.spare_in Layout.copy_length Layout.copy_in Layout.in_copy Layout.in_copies Layout.copy_of Layout.copy_bytes Layout.name Layout.link Layout.epoch Layout.members Layout.grid_mark Layout.county Layout.list Layout.store_list Layout.no_list Layout.is_empty Layout.is_tall Layout.mark Layout.version Layout.desired Layout.reserved Layout.reserved_in Layout.form_of Layout.body_in Layout.stride_in Layout.contents Layout.store_contents Layout.body_length Layout.stride Layout.row_length Layout.rows_end Layout.row_bytes Blocks.block Blocks.with_block Blocks.with_blocks Layout.capacity_of Layout.used_of Layout.first_of Layout.file_length_of Layout.name_of Layout.link_of Layout.epoch_of Layout.list_of Layout.county_of Layout.stale_of Layout.version_of Layout.desired_of Layout.contents_of Linking.chain Chain.order_of Chain.frame_of Upto.among Upto.rises_from Linking.last_of Linking.behind Joining.row_before Joining.named_row Joining.joined_behind Joining.joined WellFormed.between WellFormed.limit WellFormed.only_rows WellFormed.header_values WellFormed.head_values WellFormed.copy_values WellFormed.head_right WellFormed.copy_right WellFormed.length_right WellFormed.visits_each WellFormed.names_rise WellFormed.unused_zero WellFormed.desired_right WellFormed.list_right WellFormed.is_county WellFormed.county_right WellFormed.plain WellFormed.plain_right WellFormed.row_right WellFormed.lists_agree WellFormed.marks_right WellFormed.own_form WellFormed.well_formed Upto.keep Levels.seats Levels.at_seat Levels.level Levels.level_choice Counties.county_at Counties.counties Counties.in_county Counties.has_members Counties.several Counties.levels Counties.levels_choice Counties.list_quorum Counties.list_choice Marks.mark_now Marks.laid_now Marks.mark_right Marks.tall_table Marks.tall_right Polls.polled Polls.listed Polls.highest_epoch Polls.in_force Polls.unmarked Polls.marked Polls.good_version Polls.good Polls.current Polls.quorum_held Polls.own_try Polls.stays Polls.worked_on Rows.marked_copy Rows.patched_copy Rows.enrolled_row Rows.refreshed_copy Layout.with_row Layout.with_rows Rows.wrote_copy Rows.checked_row Calls.result_of Asking.first_no Sheet.sum Sheet.line_of Sheet.assured Sheet.ceiling Sheet.counting Sheet.total Sheet.assured_of Sheet.ceiling_of Sheet.count_of Sheet.total_of Sheet.all_assured Sheet.remainder Sheet.all_beyond Sheet.line_right Sheet.sheet_right Sheet.is_club Sheet.by_club Sheet.counted Sheet.cleared Shown.lines_of Shown.sheet_of open_sheet Asking.before Calls.is_used Calls.in_file Calls.in_group Calls.answers Calls.work_set Calls.names_in Calls.names_rising Bytes.zeros Calls.founded_header Calls.founded_row Calls.founded_list Calls.founded_rows Calls.founded Calls.by_coordinator Calls.questions Calls.called_by Calls.noted Calls.from_six Calls.called_after Calls.done Calls.lent Calls.lent_sheet Calls.refused Calls.outcome
later-computed = refl

shared-computed : IsTrue (Replay.all_replay Histories.shared)
unfolding IsTrue Sheet.sum Sheet.line_of Sheet.assured Sheet.ceiling Sheet.counting Sheet.total Sheet.assured_of Sheet.ceiling_of Sheet.count_of Sheet.total_of Sheet.all_assured Sheet.remainder Sheet.all_beyond Sheet.line_right Sheet.sheet_right Sheet.is_club Sheet.by_club Sheet.counted Sheet.cleared Shown.lines_of Shown.sheet_of open_sheet Calls.lent_sheet Replay.wrs Replay.cks Replay.fair_use WellFormed.kept_right Layout.oldest Layout.records Layout.store_records Rows.sent_contents Windows.places Windows.width Windows.younger Windows.size Windows.start Windows.patch_in Windows.record_with Windows.record_of Windows.next Windows.path Windows.patches Windows.record_right Windows.window_right Windows.emptied Windows.free Windows.taken Windows.left Windows.youngest Windows.added Windows.window_of Windows.window_in Windows.store_window Windows.laid Windows.lastly Windows.sent Replay.fo Replay.rdq Replay.wrq Replay.snq Replay.rdc Replay.wrc Replay.rd Replay.wr Replay.sn Replay.ck Replay.mv Replay.jn Replay.same Replay.steps_hold Replay.replays Replay.all_replay Histories.shared Upto.upward Upto.every Upto.some Upto.count Upto.lowest Upto.most Sets.has Sets.is_row Sets.no_row Sets.first_rows Sets.gaining Sets.losing Sets.cut_to Sizes.root Sizes.root_up Sizes.published Sizes.new_five Sizes.exchanged Sizes.grid_by Sizes.mark_fits Sizes.new_mark Sizes.no_grid Sizes.spare Sizes.row_of Sizes.column_of Sizes.height Quorums.touches Quorums.covers Quorums.read_quorum Quorums.write_quorum Quorums.quorum Quorums.is_position Quorums.read_choice Quorums.write_choice Quorums.choice Bytes.number Bytes.bytes_of Bytes.part Bytes.put Bytes.all_zero Layout.get Layout.store Layout.form Layout.form_value Layout.capacity Layout.used Layout.first Layout.file_length Layout.file_count Layout.rest_in Layout.files_of Layout.spare Layout.former_mark Layout.former_oldest Layout.mark_in Layout.oldest_in Layout.spare_in Layout.copy_length Layout.copy_in Layout.in_copy Layout.in_copies Layout.copy_of Layout.copy_bytes Layout.name Layout.link Layout.epoch Layout.members Layout.grid_mark Layout.county Layout.list Layout.store_list Layout.no_list Layout.is_empty Layout.is_tall Layout.mark Layout.version Layout.desired Layout.reserved Layout.reserved_in Layout.form_of Layout.body_in Layout.stride_in Layout.contents Layout.store_contents Layout.body_length Layout.stride Layout.row_length Layout.rows_end Layout.row_bytes Blocks.block Blocks.with_block Blocks.with_blocks Blocks.in_turn Layout.capacity_of Layout.used_of Layout.first_of Layout.file_length_of Layout.name_of Layout.link_of Layout.epoch_of Layout.list_of Layout.county_of Layout.stale_of Layout.version_of Layout.desired_of Layout.contents_of Linking.chain Chain.order_of Chain.frame_of Upto.among Upto.rises_from Linking.last_of Linking.behind Joining.row_before Joining.named_row Joining.joined_behind Joining.joined WellFormed.between WellFormed.limit WellFormed.only_rows WellFormed.header_values WellFormed.head_values WellFormed.copy_values WellFormed.head_right WellFormed.copy_right WellFormed.length_right WellFormed.visits_each WellFormed.names_rise WellFormed.unused_zero WellFormed.desired_right WellFormed.list_right WellFormed.is_county WellFormed.county_right WellFormed.plain WellFormed.plain_right WellFormed.row_right WellFormed.lists_agree WellFormed.marks_right WellFormed.own_form WellFormed.well_formed Upto.keep Levels.seats Levels.at_seat Levels.level Levels.level_choice Counties.county_at Counties.counties Counties.in_county Counties.has_members Counties.several Counties.levels Counties.levels_choice Counties.list_quorum Counties.list_choice Marks.mark_now Marks.laid_now Marks.mark_right Marks.tall_table Marks.tall_right Polls.polled Polls.listed Polls.highest_epoch Polls.in_force Polls.unmarked Polls.marked Polls.good_version Polls.good Polls.current Polls.quorum_held Polls.own_try Polls.stays Polls.worked_on Rows.marked_copy Rows.patched_copy Rows.enrolled_row Rows.refreshed_copy Layout.with_row Layout.with_rows Rows.wrote_copy Rows.checked_row Calls.result_of Asking.first_no Asking.before Calls.is_used Calls.in_file Calls.in_group Calls.answers Calls.work_set Calls.names_in Calls.names_rising Bytes.zeros Calls.founded_header Calls.founded_row Calls.founded_list Calls.founded_rows Calls.founded Calls.by_coordinator Calls.questions Calls.called_by Calls.noted Calls.from_six Calls.called_after Calls.done Calls.lent Calls.refused Calls.outcome
shared-computed = refl

cases-computed : IsTrue (Tables.all_hold Cases.cases)
unfolding IsTrue WellFormed.kept_right Layout.oldest Layout.records Layout.store_records Rows.sent_contents Windows.places Windows.width Windows.younger Windows.size Windows.start Windows.patch_in Windows.record_with Windows.record_of Windows.next Windows.path Windows.patches Windows.record_right Windows.window_right Windows.emptied Windows.free Windows.taken Windows.left Windows.youngest Windows.added Windows.window_of Windows.window_in Windows.store_window Windows.laid Windows.lastly Windows.sent Replay.fo Replay.jn Replay.rdq Replay.wrs Replay.wrq Replay.snq Replay.rdc Replay.wrc Replay.rd Replay.wr Replay.sn Replay.cks Replay.ck Replay.same Replay.steps_hold Replay.replays Replay.all_replay Histories.histories Tables.all_hold Tables.in_one Tables.pair Tables.row1 Tables.row2 Tables.row3 Tables.set Tables.single Tables.third Tables.trio Tables.unlisted Tables.nobody Tables.full Tables.remarked Cases.malformed Cases.formed Cases.two_bytes Cases.founds Cases.cases Cases.listed Cases.grouped Cases.last Cases.touched Cases.other Cases.doubled Cases.elsewhere Cases.unlike Cases.differ Cases.all_differ Upto.upward Upto.every Upto.some Upto.count Upto.lowest Upto.most Sets.has Sets.is_row Sets.no_row Sets.first_rows Sets.gaining Sets.losing Sets.cut_to Sizes.root Sizes.root_up Sizes.published Sizes.new_five Sizes.exchanged Sizes.grid_by Sizes.mark_fits Sizes.new_mark Sizes.no_grid Sizes.spare Sizes.row_of Sizes.column_of Sizes.height Quorums.touches Quorums.covers Quorums.read_quorum Quorums.write_quorum Quorums.quorum Quorums.is_position Quorums.read_choice Quorums.write_choice Quorums.choice Bytes.number Bytes.bytes_of Bytes.part Bytes.put Bytes.all_zero Layout.get Layout.store Layout.form Layout.form_value Layout.capacity Layout.used Layout.first Layout.file_length Layout.file_count Layout.rest_in Layout.files_of Layout.spare Layout.former_mark Layout.former_oldest Layout.mark_in Layout.oldest_in Layout.spare_in Layout.copy_length Layout.copy_in Layout.in_copy Layout.in_copies Layout.copy_of Layout.copy_bytes Layout.name Layout.link Layout.epoch Layout.members Layout.grid_mark Layout.county Layout.list Layout.store_list Layout.no_list Layout.is_empty Layout.is_tall Layout.mark Layout.version Layout.desired Layout.reserved Layout.reserved_in Layout.form_of Layout.body_in Layout.stride_in Layout.contents Layout.store_contents Layout.body_length Layout.stride Layout.row_length Layout.rows_end Layout.row_bytes Blocks.block Blocks.with_block Blocks.with_blocks Layout.capacity_of Layout.used_of Layout.first_of Layout.file_length_of Layout.name_of Layout.link_of Layout.epoch_of Layout.list_of Layout.county_of Layout.stale_of Layout.version_of Layout.desired_of Layout.contents_of Linking.chain Chain.order_of Chain.frame_of Upto.among Upto.rises_from Linking.last_of Linking.behind Joining.row_before Joining.named_row Joining.joined_behind Joining.joined WellFormed.between WellFormed.limit WellFormed.only_rows WellFormed.header_values WellFormed.head_values WellFormed.copy_values WellFormed.head_right WellFormed.copy_right WellFormed.length_right WellFormed.visits_each WellFormed.names_rise WellFormed.unused_zero WellFormed.desired_right WellFormed.list_right WellFormed.is_county WellFormed.county_right WellFormed.plain WellFormed.plain_right WellFormed.row_right WellFormed.lists_agree WellFormed.marks_right WellFormed.own_form WellFormed.well_formed Upto.keep Levels.seats Levels.at_seat Levels.level Levels.level_choice Counties.county_at Counties.counties Counties.in_county Counties.has_members Counties.several Counties.levels Counties.levels_choice Counties.list_quorum Counties.list_choice Marks.mark_now Marks.laid_now Marks.mark_right Marks.tall_table Marks.tall_right Polls.polled Polls.listed Polls.highest_epoch Polls.in_force Polls.unmarked Polls.marked Polls.good_version Polls.good Polls.current Polls.quorum_held Polls.own_try Polls.stays Polls.worked_on Rows.marked_copy Rows.patched_copy Rows.enrolled_row Rows.refreshed_copy Layout.with_row Layout.with_rows Rows.wrote_copy Rows.checked_row Calls.result_of Asking.first_no Sheet.sum Sheet.line_of Sheet.assured Sheet.ceiling Sheet.counting Sheet.total Sheet.assured_of Sheet.ceiling_of Sheet.count_of Sheet.total_of Sheet.all_assured Sheet.remainder Sheet.all_beyond Sheet.line_right Sheet.sheet_right Sheet.is_club Sheet.by_club Sheet.counted Sheet.cleared Shown.lines_of Shown.sheet_of open_sheet Asking.before Calls.is_used Calls.in_file Calls.in_group Calls.answers Calls.work_set Calls.names_in Calls.names_rising Bytes.zeros Calls.founded_header Calls.founded_row Calls.founded_list Calls.founded_rows Calls.founded Calls.by_coordinator Calls.questions Calls.called_by Calls.noted Calls.from_six Calls.called_after Calls.done Calls.lent Calls.lent_sheet Calls.refused Calls.outcome
cases-computed = refl

differ-computed : IsTrue Cases.all_differ
unfolding IsTrue WellFormed.kept_right Layout.oldest Layout.records Layout.store_records Rows.sent_contents Windows.places Windows.width Windows.younger Windows.size Windows.start Windows.patch_in Windows.record_with Windows.record_of Windows.next Windows.path Windows.patches Windows.record_right Windows.window_right Windows.emptied Windows.free Windows.taken Windows.left Windows.youngest Windows.added Windows.window_of Windows.window_in Windows.store_window Windows.laid Windows.lastly Windows.sent Replay.fo Replay.jn Replay.rdq Replay.wrs Replay.wrq Replay.snq Replay.rdc Replay.wrc Replay.rd Replay.wr Replay.sn Replay.cks Replay.ck Replay.same Replay.steps_hold Replay.replays Replay.all_replay Histories.histories Tables.all_hold Tables.in_one Tables.pair Tables.row1 Tables.row2 Tables.row3 Tables.set Tables.single Tables.third Tables.trio Tables.unlisted Tables.nobody Tables.full Tables.remarked Cases.malformed Cases.formed Cases.two_bytes Cases.founds Cases.cases Cases.listed Cases.grouped Cases.last Cases.touched Cases.other Cases.doubled Cases.elsewhere Cases.unlike Cases.differ Cases.all_differ Upto.upward Upto.every Upto.some Upto.count Upto.lowest Upto.most Sets.has Sets.is_row Sets.no_row Sets.first_rows Sets.gaining Sets.losing Sets.cut_to Sizes.root Sizes.root_up Sizes.published Sizes.new_five Sizes.exchanged Sizes.grid_by Sizes.mark_fits Sizes.new_mark Sizes.no_grid Sizes.spare Sizes.row_of Sizes.column_of Sizes.height Quorums.touches Quorums.covers Quorums.read_quorum Quorums.write_quorum Quorums.quorum Quorums.is_position Quorums.read_choice Quorums.write_choice Quorums.choice Bytes.number Bytes.bytes_of Bytes.part Bytes.put Bytes.all_zero Layout.get Layout.store Layout.form Layout.form_value Layout.capacity Layout.used Layout.first Layout.file_length Layout.file_count Layout.rest_in Layout.files_of Layout.spare Layout.former_mark Layout.former_oldest Layout.mark_in Layout.oldest_in Layout.spare_in Layout.copy_length Layout.copy_in Layout.in_copy Layout.in_copies Layout.copy_of Layout.copy_bytes Layout.name Layout.link Layout.epoch Layout.members Layout.grid_mark Layout.county Layout.list Layout.store_list Layout.no_list Layout.is_empty Layout.is_tall Layout.mark Layout.version Layout.desired Layout.reserved Layout.reserved_in Layout.form_of Layout.body_in Layout.stride_in Layout.contents Layout.store_contents Layout.body_length Layout.stride Layout.row_length Layout.rows_end Layout.row_bytes Blocks.block Blocks.with_block Blocks.with_blocks Layout.capacity_of Layout.used_of Layout.first_of Layout.file_length_of Layout.name_of Layout.link_of Layout.epoch_of Layout.list_of Layout.county_of Layout.stale_of Layout.version_of Layout.desired_of Layout.contents_of Linking.chain Chain.order_of Chain.frame_of Upto.among Upto.rises_from Linking.last_of Linking.behind Joining.row_before Joining.named_row Joining.joined_behind Joining.joined WellFormed.between WellFormed.limit WellFormed.only_rows WellFormed.header_values WellFormed.head_values WellFormed.copy_values WellFormed.head_right WellFormed.copy_right WellFormed.length_right WellFormed.visits_each WellFormed.names_rise WellFormed.unused_zero WellFormed.desired_right WellFormed.list_right WellFormed.is_county WellFormed.county_right WellFormed.plain WellFormed.plain_right WellFormed.row_right WellFormed.lists_agree WellFormed.marks_right WellFormed.own_form WellFormed.well_formed Upto.keep Levels.seats Levels.at_seat Levels.level Levels.level_choice Counties.county_at Counties.counties Counties.in_county Counties.has_members Counties.several Counties.levels Counties.levels_choice Counties.list_quorum Counties.list_choice Marks.mark_now Marks.laid_now Marks.mark_right Marks.tall_table Marks.tall_right Polls.polled Polls.listed Polls.highest_epoch Polls.in_force Polls.unmarked Polls.marked Polls.good_version Polls.good Polls.current Polls.quorum_held Polls.own_try Polls.stays Polls.worked_on Rows.marked_copy Rows.patched_copy Rows.enrolled_row Rows.refreshed_copy Layout.with_row Layout.with_rows Rows.wrote_copy Rows.checked_row Calls.result_of Asking.first_no Sheet.sum Sheet.line_of Sheet.assured Sheet.ceiling Sheet.counting Sheet.total Sheet.assured_of Sheet.ceiling_of Sheet.count_of Sheet.total_of Sheet.all_assured Sheet.remainder Sheet.all_beyond Sheet.line_right Sheet.sheet_right Sheet.is_club Sheet.by_club Sheet.counted Sheet.cleared Shown.lines_of Shown.sheet_of open_sheet Asking.before Calls.is_used Calls.in_file Calls.in_group Calls.answers Calls.work_set Calls.names_in Calls.names_rising Bytes.zeros Calls.founded_header Calls.founded_row Calls.founded_list Calls.founded_rows Calls.founded Calls.by_coordinator Calls.questions Calls.called_by Calls.noted Calls.from_six Calls.called_after Calls.done Calls.lent Calls.lent_sheet Calls.refused Calls.outcome
differ-computed = refl

-- two tables equal in R = {1}, with every field of row 2 unequal but name and link
pub equal-in-one : Claims.EqualIn 1 Tables.pair Cases.other
unfolding IsTrue WellFormed.kept_right Layout.oldest Layout.records Layout.store_records Rows.sent_contents Windows.places Windows.width Windows.younger Windows.size Windows.start Windows.patch_in Windows.record_with Windows.record_of Windows.next Windows.path Windows.patches Windows.record_right Windows.window_right Windows.emptied Windows.free Windows.taken Windows.left Windows.youngest Windows.added Windows.window_of Windows.window_in Windows.store_window Windows.laid Windows.lastly Windows.sent Replay.fo Replay.jn Replay.rdq Replay.wrq Replay.snq Replay.rdc Replay.wrc Replay.rd Replay.wr Replay.sn Replay.ck Replay.same Replay.steps_hold Replay.replays Replay.all_replay Histories.histories Tables.all_hold Tables.in_one Tables.pair Tables.row1 Tables.row2 Tables.row3 Tables.set Tables.single Tables.third Tables.trio Tables.unlisted Tables.nobody Tables.full Tables.remarked Cases.malformed Cases.formed Cases.two_bytes Cases.founds Cases.cases Cases.listed Cases.grouped Cases.last Cases.touched Cases.other Cases.doubled Cases.elsewhere Cases.unlike Cases.differ Cases.all_differ Upto.upward Upto.every Upto.some Upto.count Upto.lowest Upto.most Sets.has Sets.is_row Sets.no_row Sets.first_rows Sets.gaining Sets.losing Sets.cut_to Sizes.root Sizes.root_up Sizes.published Sizes.new_five Sizes.exchanged Sizes.grid_by Sizes.mark_fits Sizes.new_mark Sizes.no_grid Sizes.spare Sizes.row_of Sizes.column_of Sizes.height Quorums.touches Quorums.covers Quorums.read_quorum Quorums.write_quorum Quorums.quorum Quorums.is_position Quorums.read_choice Quorums.write_choice Quorums.choice Bytes.number Bytes.bytes_of Bytes.part Bytes.put Bytes.all_zero Layout.get Layout.store Layout.form Layout.form_value Layout.capacity Layout.used Layout.first Layout.file_length Layout.file_count Layout.rest_in Layout.files_of Layout.spare Layout.former_mark Layout.former_oldest Layout.mark_in Layout.oldest_in Layout.spare_in Layout.copy_length Layout.copy_in Layout.in_copy Layout.in_copies Layout.copy_of Layout.copy_bytes Layout.name Layout.link Layout.epoch Layout.members Layout.grid_mark Layout.county Layout.list Layout.store_list Layout.no_list Layout.is_empty Layout.is_tall Layout.mark Layout.version Layout.desired Layout.reserved Layout.reserved_in Layout.form_of Layout.body_in Layout.stride_in Layout.contents Layout.store_contents Layout.body_length Layout.stride Layout.row_length Layout.rows_end Layout.row_bytes Blocks.block Blocks.with_block Blocks.with_blocks Layout.capacity_of Layout.used_of Layout.first_of Layout.file_length_of Layout.name_of Layout.link_of Layout.epoch_of Layout.list_of Layout.county_of Layout.stale_of Layout.version_of Layout.desired_of Layout.contents_of Linking.chain Chain.order_of Chain.frame_of Upto.among Upto.rises_from Linking.last_of Linking.behind Joining.row_before Joining.named_row Joining.joined_behind Joining.joined WellFormed.between WellFormed.limit WellFormed.only_rows WellFormed.header_values WellFormed.head_values WellFormed.copy_values WellFormed.head_right WellFormed.copy_right WellFormed.length_right WellFormed.visits_each WellFormed.names_rise WellFormed.unused_zero WellFormed.desired_right WellFormed.list_right WellFormed.is_county WellFormed.county_right WellFormed.plain WellFormed.plain_right WellFormed.row_right WellFormed.lists_agree WellFormed.marks_right WellFormed.own_form WellFormed.well_formed Upto.keep Levels.seats Levels.at_seat Levels.level Levels.level_choice Counties.county_at Counties.counties Counties.in_county Counties.has_members Counties.several Counties.levels Counties.levels_choice Counties.list_quorum Counties.list_choice Marks.mark_now Marks.laid_now Marks.mark_right Marks.tall_table Marks.tall_right Polls.polled Polls.listed Polls.highest_epoch Polls.in_force Polls.unmarked Polls.marked Polls.good_version Polls.good Polls.current Polls.quorum_held Polls.own_try Polls.stays Polls.worked_on Rows.marked_copy Rows.patched_copy Rows.enrolled_row Rows.refreshed_copy Layout.with_row Layout.with_rows Rows.wrote_copy Rows.checked_row Calls.result_of Asking.first_no Asking.before Calls.is_used Calls.in_file Calls.in_group Calls.answers Calls.work_set Calls.names_in Calls.names_rising Bytes.zeros Calls.founded_header Calls.founded_row Calls.founded_list Calls.founded_rows Calls.founded Calls.by_coordinator Calls.questions Calls.called_by Calls.noted Calls.from_six Calls.called_after Calls.done Calls.lent Calls.refused Calls.outcome
equal-in-one = record {
  formed = refl;
  formed-too = refl;
  header = refl;
  names = at-two _ _ refl refl;
  links = at-two _ _ refl refl;
  counties = at-two _ _ refl refl;
  rows = at_one _ _ refl;
}

-- two tables of two files that are equal in file 1, with every field of file 2 unequal in both rows
pub equal-in-file : Claims.EqualInFile 1 Cases.doubled Cases.elsewhere
unfolding IsTrue WellFormed.kept_right Layout.oldest Layout.records Layout.store_records Rows.sent_contents Windows.places Windows.width Windows.younger Windows.size Windows.start Windows.patch_in Windows.record_with Windows.record_of Windows.next Windows.path Windows.patches Windows.record_right Windows.window_right Windows.emptied Windows.free Windows.taken Windows.left Windows.youngest Windows.added Windows.window_of Windows.window_in Windows.store_window Windows.laid Windows.lastly Windows.sent Replay.fo Replay.jn Replay.rdq Replay.wrq Replay.snq Replay.rdc Replay.wrc Replay.rd Replay.wr Replay.sn Replay.ck Replay.same Replay.steps_hold Replay.replays Replay.all_replay Histories.histories Tables.all_hold Tables.in_one Tables.pair Tables.row1 Tables.row2 Tables.row3 Tables.set Tables.single Tables.third Tables.trio Tables.unlisted Tables.nobody Tables.full Tables.remarked Cases.malformed Cases.formed Cases.two_bytes Cases.founds Cases.cases Cases.listed Cases.grouped Cases.last Cases.touched Cases.other Cases.doubled Cases.elsewhere Cases.unlike Cases.differ Cases.all_differ Upto.upward Upto.every Upto.some Upto.count Upto.lowest Upto.most Sets.has Sets.is_row Sets.no_row Sets.first_rows Sets.gaining Sets.losing Sets.cut_to Sizes.root Sizes.root_up Sizes.published Sizes.new_five Sizes.exchanged Sizes.grid_by Sizes.mark_fits Sizes.new_mark Sizes.no_grid Sizes.spare Sizes.row_of Sizes.column_of Sizes.height Quorums.touches Quorums.covers Quorums.read_quorum Quorums.write_quorum Quorums.quorum Quorums.is_position Quorums.read_choice Quorums.write_choice Quorums.choice Bytes.number Bytes.bytes_of Bytes.part Bytes.put Bytes.all_zero Layout.get Layout.store Layout.form Layout.form_value Layout.capacity Layout.used Layout.first Layout.file_length Layout.file_count Layout.rest_in Layout.files_of Layout.spare Layout.former_mark Layout.former_oldest Layout.mark_in Layout.oldest_in Layout.spare_in Layout.copy_length Layout.copy_in Layout.in_copy Layout.in_copies Layout.copy_of Layout.copy_bytes Layout.name Layout.link Layout.epoch Layout.members Layout.grid_mark Layout.county Layout.list Layout.store_list Layout.no_list Layout.is_empty Layout.is_tall Layout.mark Layout.version Layout.desired Layout.reserved Layout.reserved_in Layout.form_of Layout.body_in Layout.stride_in Layout.contents Layout.store_contents Layout.body_length Layout.stride Layout.row_length Layout.rows_end Layout.row_bytes Blocks.block Blocks.with_block Blocks.with_blocks Layout.capacity_of Layout.used_of Layout.first_of Layout.file_length_of Layout.name_of Layout.link_of Layout.epoch_of Layout.list_of Layout.county_of Layout.stale_of Layout.version_of Layout.desired_of Layout.contents_of Linking.chain Chain.order_of Chain.frame_of Upto.among Upto.rises_from Linking.last_of Linking.behind Joining.row_before Joining.named_row Joining.joined_behind Joining.joined WellFormed.between WellFormed.limit WellFormed.only_rows WellFormed.header_values WellFormed.head_values WellFormed.copy_values WellFormed.head_right WellFormed.copy_right WellFormed.length_right WellFormed.visits_each WellFormed.names_rise WellFormed.unused_zero WellFormed.desired_right WellFormed.list_right WellFormed.is_county WellFormed.county_right WellFormed.plain WellFormed.plain_right WellFormed.row_right WellFormed.lists_agree WellFormed.marks_right WellFormed.own_form WellFormed.well_formed Upto.keep Levels.seats Levels.at_seat Levels.level Levels.level_choice Counties.county_at Counties.counties Counties.in_county Counties.has_members Counties.several Counties.levels Counties.levels_choice Counties.list_quorum Counties.list_choice Marks.mark_now Marks.laid_now Marks.mark_right Marks.tall_table Marks.tall_right Polls.polled Polls.listed Polls.highest_epoch Polls.in_force Polls.unmarked Polls.marked Polls.good_version Polls.good Polls.current Polls.quorum_held Polls.own_try Polls.stays Polls.worked_on Rows.marked_copy Rows.patched_copy Rows.enrolled_row Rows.refreshed_copy Layout.with_row Layout.with_rows Rows.wrote_copy Rows.checked_row Calls.result_of Asking.first_no Asking.before Calls.is_used Calls.in_file Calls.in_group Calls.answers Calls.work_set Calls.names_in Calls.names_rising Bytes.zeros Calls.founded_header Calls.founded_row Calls.founded_list Calls.founded_rows Calls.founded Calls.by_coordinator Calls.questions Calls.called_by Calls.noted Calls.from_six Calls.called_after Calls.done Calls.lent Calls.refused Calls.outcome
equal-in-file = record {
  formed = refl;
  formed-too = refl;
  header = refl;
  heads = at-two _ _ refl refl;
  copies = at-two _ _ refl refl;
}

pub histories-replay : Replay.all_replay Histories.histories ≡ true
histories-replay = so (Replay.all_replay Histories.histories) histories-computed

pub later-replay : Replay.all_replay Histories.later ≡ true
later-replay = so (Replay.all_replay Histories.later) later-computed

pub shared-replay : Replay.all_replay Histories.shared ≡ true
shared-replay = so (Replay.all_replay Histories.shared) shared-computed

pub cases-hold : Tables.all_hold Cases.cases ≡ true
cases-hold = so (Tables.all_hold Cases.cases) cases-computed

pub all-differ : Cases.all_differ ≡ true
all-differ = so Cases.all_differ differ-computed
