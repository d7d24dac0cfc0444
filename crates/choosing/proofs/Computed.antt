-- The call, computed over bytes: five machines named 10 to 14 (the new five and the published one), four named 2 to 5 of four counties, a coordinator without a
-- list, each question from both sides, in their order.
use mathlib.Core.Path.{◌≡◌, refl}
use mathlib.Core.List.{[], ◌∷◌}
use Rattle.sets.specs.Upto
use Rattle.sets.specs.Sets
use Rattle.grid.specs.Sizes
use Rattle.quorums.specs.Quorums
use Rattle.octets.specs.Bytes
use Rattle.blocks.specs.Blocks
use Rattle.fields.specs.Layout
use Rattle.table.specs.Chain
use Rattle.linking.specs.Linking
use Rattle.window.specs.Windows
use Rattle.table.specs.WellFormed
use Rattle.asking.specs.Asking
use Rattle.counties.specs.Levels
use Rattle.counties.specs.Counties
use Rattle.counties.specs.Marks
use Rattle.protocol.specs.Calls
use Rattle.protocol.proofs.Histories
use Rattle.protocol.proofs.Cases
use Rattle.choosing.specs.Choosing

pub choices-shown : (Choosing.chosen (Cases.full 5) 1 0 (Bytes.zeros 8) ≡ record { refusal = 0; value = 2; set = (6 ∷ 0 ∷ 0 ∷ 0 ∷ 0 ∷ 0 ∷ 0 ∷ 0 ∷ []) }) ×
    (Choosing.chosen (Cases.full 5) 1 1 (Bytes.zeros 8) ≡ record { refusal = 0; value = 4; set = (23 ∷ 0 ∷ 0 ∷ 0 ∷ 0 ∷ 0 ∷ 0 ∷ 0 ∷ []) }) ×
    (Choosing.chosen (Cases.full 5) 2 0 (Bytes.zeros 8) ≡ record { refusal = 0; value = 2; set = (24 ∷ 0 ∷ 0 ∷ 0 ∷ 0 ∷ 0 ∷ 0 ∷ 0 ∷ []) }) ×
    (Choosing.chosen (Cases.remarked 5 0 (Cases.full 5)) 1 0 (Bytes.zeros 8) ≡ record { refusal = 0; value = 3; set = (7 ∷ 0 ∷ 0 ∷ 0 ∷ 0 ∷ 0 ∷ 0 ∷ 0 ∷ []) }) ×
    (Choosing.chosen (Calls.founded 0 4 1 1 (Upto.upward 4 2) (8 ∷ 5 ∷ 3 ∷ 1 ∷ [])) 1 0 (Bytes.zeros 8) ≡ record { refusal = 0; value = 2; set = (12 ∷ 0 ∷ 0 ∷ 0 ∷ 0 ∷ 0 ∷ 0 ∷ 0 ∷ []) }) ×
    (Choosing.chosen (Calls.founded 0 4 1 1 (Upto.upward 4 2) (8 ∷ 5 ∷ 3 ∷ 1 ∷ [])) 1 1 (Bytes.zeros 8) ≡ record { refusal = 0; value = 3; set = (14 ∷ 0 ∷ 0 ∷ 0 ∷ 0 ∷ 0 ∷ 0 ∷ 0 ∷ []) }) ×
    (Choosing.chosen (Cases.unlisted 1) 2 0 (9 ∷ 9 ∷ 9 ∷ 9 ∷ 9 ∷ 9 ∷ 9 ∷ 9 ∷ []) ≡ record { refusal = 0; value = 0; set = (Bytes.zeros 8) }) ×
    (Choosing.chosen (Cases.full 5) 0 2 [] ≡ record { refusal = 2; value = 0; set = [] }) ×
    (Choosing.chosen (Cases.full 5) 6 0 (Bytes.zeros 8) ≡ record { refusal = 2; value = 0; set = (Bytes.zeros 8) }) ×
    (Choosing.chosen (Cases.full 5) 1 2 [] ≡ record { refusal = 4; value = 0; set = [] }) ×
    (Choosing.chosen (Cases.full 5) 1 1 (Bytes.zeros 7) ≡ record { refusal = 5; value = 0; set = (Bytes.zeros 7) }) ×
    (Choosing.chosen (Cases.full 5) 1 1 (Bytes.zeros 9) ≡ record { refusal = 5; value = 0; set = (Bytes.zeros 9) }) ×
    (Choosing.chosen (Cases.set 0 1 0 Cases.pair) 0 2 [] ≡ record { refusal = 1; value = 0; set = [] })
unfolding WellFormed.kept_right Layout.oldest Layout.records Layout.store_records Windows.places Windows.width Windows.younger Windows.size Windows.start Windows.patch_in Windows.record_with Windows.record_of Windows.next Windows.path Windows.patches Windows.record_right Windows.window_right Windows.emptied Windows.free Windows.taken Windows.left Windows.youngest Windows.added Windows.window_of Windows.window_in Windows.store_window Histories.fo Cases.in_one Cases.pair Cases.row1 Cases.row2 Cases.row3 Cases.set Cases.unlisted Cases.full Cases.remarked Upto.upward Upto.every Upto.some Upto.count Upto.lowest Upto.most Sets.has Sets.is_row Sets.no_row Sets.first_rows Sets.gaining Sets.losing Sets.cut_to Sizes.root Sizes.root_up Sizes.published Sizes.new_five Sizes.exchanged Sizes.grid_by Sizes.mark_fits Sizes.new_mark Sizes.no_grid Sizes.spare Sizes.row_of Sizes.column_of Sizes.height Quorums.touches Quorums.covers Quorums.read_quorum Quorums.write_quorum Quorums.quorum Quorums.is_position Quorums.read_choice Quorums.write_choice Quorums.choice Bytes.number Bytes.bytes_of Bytes.part Bytes.put Bytes.all_zero Layout.get Layout.store Layout.form Layout.form_value Layout.capacity Layout.used Layout.first Layout.file_length Layout.file_count Layout.rest_in Layout.files_of Layout.spare Layout.former_mark Layout.former_oldest Layout.mark_in Layout.oldest_in Layout.spare_in Layout.copy_length Layout.copy_in Layout.copy_of Layout.name Layout.link Layout.epoch Layout.members Layout.grid_mark Layout.county Layout.list Layout.store_list Layout.no_list Layout.is_empty Layout.is_tall Layout.mark Layout.version Layout.desired Layout.reserved Layout.reserved_in Layout.form_of Layout.body_in Layout.stride_in Layout.contents Layout.store_contents Layout.body_length Layout.stride Layout.row_length Layout.rows_end Layout.row_bytes Blocks.block Blocks.with_block Blocks.with_blocks Layout.capacity_of Layout.used_of Layout.first_of Layout.file_length_of Layout.name_of Layout.link_of Layout.epoch_of Layout.list_of Layout.county_of Layout.stale_of Layout.version_of Layout.desired_of Layout.contents_of Linking.chain Chain.order_of Chain.frame_of Upto.among Upto.rises_from WellFormed.between WellFormed.limit WellFormed.only_rows WellFormed.header_values WellFormed.head_values WellFormed.copy_values WellFormed.head_right WellFormed.copy_right WellFormed.length_right WellFormed.visits_each WellFormed.names_rise WellFormed.unused_zero WellFormed.desired_right WellFormed.list_right WellFormed.is_county WellFormed.county_right WellFormed.plain WellFormed.plain_right WellFormed.row_right WellFormed.lists_agree WellFormed.marks_right Marks.mark_right Marks.tall_table Marks.tall_right WellFormed.own_form WellFormed.well_formed Upto.keep Levels.seats Levels.at_seat Levels.level Levels.level_choice Counties.county_at Counties.counties Counties.in_county Counties.has_members Counties.several Counties.levels Counties.levels_choice Counties.list_quorum Counties.list_choice Marks.mark_now Marks.laid_now Layout.with_row Layout.with_rows Calls.result_of Asking.first_no Asking.before Calls.is_used Calls.in_file Calls.answers Calls.work_set Calls.names_in Calls.names_rising Bytes.zeros Calls.founded_header Calls.founded_row Calls.founded_list Calls.founded_rows Calls.founded Calls.by_coordinator Calls.questions Calls.called_by Calls.noted Calls.from_six Calls.called_after Calls.done Calls.lent Calls.refused Calls.outcome Choosing.kind_of Choosing.first_called Choosing.number_of Choosing.choice_questions Choosing.chosen
choices-shown = (refl, refl, refl, refl, refl, refl, refl, refl, refl, refl, refl, refl, refl)
