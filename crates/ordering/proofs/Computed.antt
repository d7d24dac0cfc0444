-- The lines of specs/Shown hold: by computing the definitions.
use mathlib.Core.Path.{◌≡◌, refl, ap₂}
use mathlib.Core.Bool.{Bool, true, ◌&&◌}
use mathlib.Core.List.{List, [], ◌∷◌, ◌++◌}
use Prim.Native.Nat.{ℕ, ◌-◌}
use lib.Dec.{eqb}
use lib.ListN.{length}
use borrow.Author.Tests.{eqb-true}
use Rattle.bools.proofs.BoolLaws.{and_l, and_r, clash}
use Rattle.sets.specs.Upto
use Rattle.sets.specs.Sets
use Rattle.grid.specs.Sizes
use Rattle.quorums.specs.Quorums
use Rattle.quorums.proofs.StarredLaws.{all_pass, each_of}
use Rattle.octets.specs.Bytes
use Rattle.blocks.specs.Blocks
use Rattle.fields.specs.Layout
use Rattle.counties.specs.Levels
use Rattle.counties.specs.Counties
use Rattle.counties.specs.Marks
use Rattle.table.specs.Chain
use Rattle.table.specs.WellFormed
use Rattle.linking.specs.Linking
use Rattle.window.specs.Windows
use Rattle.joining.specs.Joining
use Rattle.asking.specs.Asking
use Rattle.sheet.specs.Sheet
use Rattle.sheet.specs.Shown as Sheets
use Rattle.protocol.specs.Polls
use Rattle.protocol.specs.Rows
use Rattle.protocol.specs.Calls
use Rattle.protocol.proofs.Histories.{same}
use Rattle.protocol.proofs.Computed.{IsTrue, so}
use Rattle.ordering.specs.Rounds
use Rattle.ordering.specs.Shown

same-is : (xs ys : List ℕ) → same xs ys ≡ true → xs ≡ ys
unfolding same
same-is [] [] h = refl
same-is [] (y ∷ ys) h = absurd (clash h)
same-is (x ∷ xs) [] h = absurd (clash h)
same-is (x ∷ xs) (y ∷ ys) h = ap₂ (λ (z : ℕ) (zs : List ℕ). z ∷ zs) (eqb-true x y (and_l _ _ h)) (same-is xs ys (and_r (eqb x y) _ h))

-- a test of a line, which tells what the line says
line_holds : Shown.Line → Bool
line_holds (Shown.Entered table sheet r bytes refusal value one two first second) =
    let x = Rounds.round_in table sheet r bytes in
    eqb x.refusal refusal
    && (eqb x.value value
    && (same (Layout.contents_of x.table 1 1) (one ++ Bytes.zeros (9 - length one))
    && (same (Layout.contents_of x.table 2 1) (two ++ Bytes.zeros (9 - length two))
    && (eqb (Sheet.count_of x.sheet 1) first && eqb (Sheet.count_of x.sheet 2) second))))

line-says : (l : Shown.Line) → line_holds l ≡ true → Shown.Says l
unfolding line_holds Shown.Says
line-says (Shown.Entered table sheet r bytes refusal value one two first second) h =
    let x = Rounds.round_in table sheet r bytes in
    let a = and_r (eqb x.refusal refusal) _ h in
    let b = and_r (eqb x.value value) _ a in
    let c = and_r (same (Layout.contents_of x.table 1 1) (one ++ Bytes.zeros (9 - length one))) _ b in
    let d = and_r (same (Layout.contents_of x.table 2 1) (two ++ Bytes.zeros (9 - length two))) _ c in (
      eqb-true _ refusal (and_l _ _ h),
      eqb-true _ value (and_l _ _ a),
      same-is _ _ (and_l _ _ b),
      same-is _ _ (and_l _ _ c),
      eqb-true _ first (and_l _ _ d),
      eqb-true _ second (and_r (eqb (Sheet.count_of x.sheet 1) first) _ d),
    )

computed : IsTrue (all_pass line_holds Shown.lines)
unfolding IsTrue all_pass line_holds same Rounds.patch_of Rounds.writing Rounds.round_from Rounds.empty_questions Rounds.none_done Rounds.round_of Rounds.order_in Rounds.orders_in Rounds.round_in Shown.start Shown.malformed Shown.shares Shown.order Shown.entered Shown.none_of Shown.turned_down Shown.lines Joining.row_before Joining.named_row Joining.joined_behind Joining.joined WellFormed.kept_right Layout.oldest Layout.records Layout.store_records Rows.sent_contents Windows.places Windows.width Windows.younger Windows.size Windows.start Windows.patch_in Windows.record_with Windows.record_of Windows.next Windows.path Windows.patches Windows.record_right Windows.window_right Windows.emptied Windows.free Windows.taken Windows.left Windows.youngest Windows.added Windows.window_of Windows.window_in Windows.store_window Windows.laid Windows.lastly Windows.sent Upto.upward Upto.every Upto.some Upto.count Upto.lowest Upto.most Sets.has Sets.is_row Sets.no_row Sets.first_rows Sets.gaining Sets.losing Sets.cut_to Sizes.root Sizes.root_up Sizes.published Sizes.new_five Sizes.exchanged Sizes.grid_by Sizes.mark_fits Sizes.new_mark Sizes.no_grid Sizes.spare Sizes.row_of Sizes.column_of Sizes.height Quorums.touches Quorums.covers Quorums.read_quorum Quorums.write_quorum Quorums.quorum Quorums.is_position Quorums.read_choice Quorums.write_choice Quorums.choice Bytes.number Bytes.bytes_of Bytes.part Bytes.put Bytes.all_zero Layout.get Layout.store Layout.form Layout.form_value Layout.capacity Layout.used Layout.first Layout.file_length Layout.file_count Layout.rest_in Layout.files_of Layout.spare Layout.former_mark Layout.former_oldest Layout.mark_in Layout.oldest_in Layout.spare_in Layout.copy_length Layout.copy_in Layout.in_copy Layout.in_copies Layout.copy_of Layout.copy_bytes Layout.name Layout.link Layout.epoch Layout.members Layout.grid_mark Layout.county Layout.list Layout.store_list Layout.no_list Layout.is_empty Layout.is_tall Layout.mark Layout.version Layout.desired Layout.reserved Layout.reserved_in Layout.form_of Layout.body_in Layout.stride_in Layout.contents Layout.store_contents Layout.body_length Layout.stride Layout.row_length Layout.rows_end Layout.row_bytes Blocks.block Blocks.with_block Blocks.with_blocks Layout.capacity_of Layout.used_of Layout.first_of Layout.file_length_of Layout.name_of Layout.link_of Layout.epoch_of Layout.list_of Layout.county_of Layout.stale_of Layout.version_of Layout.desired_of Layout.contents_of Linking.chain Chain.order_of Chain.frame_of Upto.among Upto.rises_from Linking.last_of Linking.behind WellFormed.between WellFormed.limit WellFormed.only_rows WellFormed.header_values WellFormed.head_values WellFormed.copy_values WellFormed.head_right WellFormed.copy_right WellFormed.length_right WellFormed.visits_each WellFormed.names_rise WellFormed.unused_zero WellFormed.desired_right WellFormed.list_right WellFormed.is_county WellFormed.county_right WellFormed.plain WellFormed.plain_right WellFormed.row_right WellFormed.lists_agree WellFormed.marks_right WellFormed.own_form WellFormed.well_formed Upto.keep Levels.seats Levels.at_seat Levels.level Levels.level_choice Counties.county_at Counties.counties Counties.in_county Counties.has_members Counties.several Counties.levels Counties.levels_choice Counties.list_quorum Counties.list_choice Marks.mark_now Marks.laid_now Marks.mark_right Marks.tall_table Marks.tall_right Polls.polled Polls.listed Polls.highest_epoch Polls.in_force Polls.unmarked Polls.marked Polls.good_version Polls.good Polls.current Polls.quorum_held Polls.own_try Polls.stays Polls.worked_on Rows.marked_copy Rows.patched_copy Rows.enrolled_row Rows.refreshed_copy Layout.with_row Layout.with_rows Rows.wrote_copy Rows.checked_row Calls.result_of Asking.first_no Sheet.sum Sheet.line_of Sheet.assured Sheet.ceiling Sheet.counting Sheet.total Sheet.assured_of Sheet.ceiling_of Sheet.count_of Sheet.total_of Sheet.all_assured Sheet.remainder Sheet.all_beyond Sheet.line_right Sheet.sheet_right Sheet.is_club Sheet.by_club Sheet.counted Sheet.cleared Sheets.lines_of Sheets.sheet_of Asking.before Calls.is_used Calls.in_file Calls.in_group Calls.answers Calls.work_set Calls.names_in Calls.names_rising Bytes.zeros Calls.founded_header Calls.founded_row Calls.founded_list Calls.founded_rows Calls.founded Calls.by_coordinator Calls.questions Calls.called_by Calls.noted Calls.from_six Calls.called_after Calls.done Calls.lent Calls.lent_sheet Calls.refused Calls.outcome
computed = refl

pub shown-hold : Shown.ShownHold
unfolding Shown.ShownHold Shown.lines
shown-hold = (refl, each_of Shown.Says line_holds line-says Shown.lines (so _ computed))
