-- Small tables of each form, judged and carried over, computed over bytes.
use mathlib.Core.Path.{◌≡◌, refl}
use mathlib.Core.Bool.{Bool, true, not, ◌&&◌}
use mathlib.Core.List.{List, [], ◌∷◌, ◌++◌}
use Prim.Native.Nat.{ℕ, ◌-◌, ◌/◌, ◌%◌}
use lib.Dec.{eqb}
use Rattle.sets.specs.Upto
use Rattle.sets.specs.Sets
use Rattle.grid.specs.Sizes
use Rattle.octets.specs.Bytes
use Rattle.blocks.specs.Blocks
use Rattle.fields.specs.Layout
use Rattle.linking.specs.Linking
use Rattle.window.specs.Windows
use Rattle.counties.specs.Counties
use Rattle.counties.specs.Marks
use Rattle.table.specs.WellFormed
use Rattle.carrying.specs.Moves

-- ---- the forms that a table moves between: of the pairs up to 6 these four, and no other
unfoldable pub pairs : Bool
pairs =
    Moves.goes_over 1 3
    && (Moves.goes_over 2 3
    && (Moves.goes_over 3 1
    && (Moves.goes_over 3 2 && (eqb (Upto.count 49 (λ k. Moves.goes_over ((k - 1) / 7) ((k - 1) % 7))) 4 && not (Moves.goes_over 1 259)))))

-- ---- a table of this form for a file of one byte, with room for two rows and one used, at version 3: its list and grid mark, its oldest record, and what
-- stands behind the contents of each row
unfoldable pub small : (form list mark oldest : ℕ) → List ℕ → List ℕ → List ℕ
small form list mark oldest behind rest =
    (form ∷ 2 ∷ 1 ∷ 1 ∷ 1 ∷ 0 ∷ Bytes.zeros 10)
    ++ ((10 ∷ 0 ∷ 0 ∷ 0 ∷ 3 ∷ 0 ∷ 0 ∷ 0 ∷ Bytes.zeros 8) ++ ((list ∷ Bytes.zeros 7) ++ ((mark ∷ oldest ∷ Bytes.zeros 6) ++ (5 ∷ (behind ++ (Bytes.zeros 33 ++ rest))))))

-- without records, as forms 1 and 2 are
unfoldable pub early : (form list mark : ℕ) → List ℕ
early form list mark = small form list mark 0 [] []

-- of form 3, with an empty window; and with one patch in it
unfoldable pub late : (list mark : ℕ) → List ℕ
late list mark = small 3 list mark 0 (Bytes.zeros 576) (Bytes.zeros 576)

unfoldable pub windowed : (list mark : ℕ) → List ℕ
windowed list mark = small 3 list mark 1 (0 ∷ 1 ∷ 0 ∷ 0 ∷ 5 ∷ Bytes.zeros 571) (Bytes.zeros 576)

-- of a later form, in this county, with so many files: one copy, with one patch in its window
unfoldable pub grouped : (form list mark county files : ℕ) → List ℕ
grouped form list mark county files =
    (form ∷ 2 ∷ 1 ∷ 1 ∷ 1 ∷ 0 ∷ files ∷ Bytes.zeros 9)
    ++ ((10 ∷ Bytes.zeros 15)
    ++ ((list ∷ Bytes.zeros 7) ++ ((mark ∷ 0 ∷ county ∷ Bytes.zeros 5) ++ ((0 ∷ 1 ∷ 0 ∷ 0 ∷ 3 ∷ Bytes.zeros 7) ++ (5 ∷ 0 ∷ 1 ∷ 0 ∷ 0 ∷ 5 ∷ Bytes.zeros 1_192)))))

-- "judges a table by its own form": a list in the published grid, a tall one, none
unfoldable pub judged : Bool
judged =
    WellFormed.own_form (early 1 1 0)
    && (WellFormed.own_form (early 2 1 0)
    && (WellFormed.own_form (early 2 1 2)
    && (WellFormed.own_form (early 2 0 0)
    && (WellFormed.own_form (windowed 1 2)
    && (WellFormed.own_form (grouped 4 1 2 0 1)
    && (WellFormed.own_form (grouped 5 1 2 8 1)
    -- "form 1 by document 01 alone"
    && (not (WellFormed.own_form (early 1 1 2))
    && (not (WellFormed.own_form (early 1 0 0))
    -- a form that is not given, and a form by the rules of another
    && (not (WellFormed.own_form (early 0 1 0))
    && (not (WellFormed.own_form (early 3 1 0))
    && (not (WellFormed.own_form (grouped 6 1 2 1 1))
    && (not (WellFormed.own_form (small 4 1 0 0 (Bytes.zeros 588) (Bytes.zeros 588)))
    && (not (WellFormed.own_form (grouped 4 1 2 0 0))
    && (not (WellFormed.own_form (grouped 4 1 2 1 1))
    && (not (WellFormed.own_form (small 2 1 0 0 (Bytes.zeros 576) (Bytes.zeros 576)))
    && (not (WellFormed.own_form (small 2 1 0 1 [] []))
    -- "each row gets a county, 1 to 8"; no list within one county has mark 3
    && (not (WellFormed.own_form (grouped 5 1 2 0 1))
    && (not (WellFormed.own_form (grouped 5 1 2 9 1))
    && (not (WellFormed.own_form (grouped 5 1 3 1 1))
    -- "every other call takes only the newest form"
    && (WellFormed.well_formed (grouped 5 1 2 8 1)
    && (not (WellFormed.well_formed (grouped 4 1 2 0 1)) && not (WellFormed.well_formed (windowed 1 2)))))))))))))))))))))))

-- "when a grid mark is not 0 or a list is empty"
unfoldable pub plains : Bool
plains =
    Moves.all_plain (early 1 1 0) && (Moves.all_plain (windowed 1 0) && (not (Moves.all_plain (early 2 1 2)) && (not (Moves.all_plain (early 2 0 0)) && not (Moves.all_plain (windowed 1 2)))))

pub pairs-hold : pairs ≡ true
unfolding pairs WellFormed.kept_right Layout.oldest Layout.records Layout.store_records Windows.places Windows.width Windows.younger Windows.size Windows.start Windows.patch_in Windows.record_with Windows.record_of Windows.next Windows.path Windows.patches Windows.record_right Windows.window_right Windows.emptied Windows.free Windows.taken Windows.left Windows.youngest Windows.added Windows.window_of Windows.window_in Windows.store_window Windows.laid Windows.lastly Windows.sent Upto.upward Upto.every Upto.some Upto.count Upto.lowest Upto.most Sets.has Sets.is_row Sets.no_row Sets.first_rows Sets.gaining Sets.losing Sets.cut_to Sizes.root Sizes.root_up Sizes.published Sizes.new_five Sizes.exchanged Sizes.grid_by Sizes.mark_fits Sizes.new_mark Sizes.no_grid Sizes.spare Sizes.row_of Sizes.column_of Sizes.height Bytes.number Bytes.bytes_of Bytes.part Bytes.put Bytes.all_zero Layout.get Layout.store Layout.form Layout.form_value Layout.capacity Layout.used Layout.first Layout.file_length Layout.file_count Layout.rest_in Layout.files_of Layout.spare Layout.former_mark Layout.former_oldest Layout.mark_in Layout.oldest_in Layout.spare_in Layout.copy_length Layout.copy_in Layout.copy_of Layout.name Layout.link Layout.epoch Layout.members Layout.grid_mark Layout.list Layout.store_list Layout.no_list Layout.is_empty Layout.is_tall Layout.mark Layout.version Layout.desired Layout.reserved Layout.reserved_in Layout.form_of Layout.body_in Layout.stride_in Layout.contents Layout.store_contents Layout.body_length Layout.stride Layout.row_length Layout.rows_end Layout.row_bytes Blocks.block Blocks.with_block Blocks.with_blocks Blocks.in_turn Layout.capacity_of Layout.used_of Layout.first_of Layout.file_length_of Layout.name_of Layout.link_of Layout.epoch_of Layout.list_of Layout.county Layout.county_of Layout.stale_of Layout.version_of Layout.desired_of Layout.contents_of Linking.chain Upto.among Upto.rises_from WellFormed.between WellFormed.limit WellFormed.only_rows WellFormed.header_values WellFormed.head_values WellFormed.copy_values WellFormed.head_right WellFormed.copy_right WellFormed.length_right WellFormed.visits_each WellFormed.names_rise WellFormed.unused_zero WellFormed.desired_right WellFormed.list_right WellFormed.is_county WellFormed.county_right WellFormed.marks_right WellFormed.plain WellFormed.plain_right WellFormed.row_right WellFormed.lists_agree Marks.mark_right Marks.tall_table Marks.tall_right Counties.in_county Counties.has_members Counties.several WellFormed.own_form WellFormed.well_formed Upto.keep Layout.with_row Layout.with_rows Bytes.zeros Moves.goes_over Moves.all_plain Moves.carried_row Moves.carried Moves.carried_length
pairs-hold = refl

pub judged-hold : judged ≡ true
unfolding judged small early late windowed grouped WellFormed.kept_right Layout.oldest Layout.records Layout.store_records Windows.places Windows.width Windows.younger Windows.size Windows.start Windows.patch_in Windows.record_with Windows.record_of Windows.next Windows.path Windows.patches Windows.record_right Windows.window_right Windows.emptied Windows.free Windows.taken Windows.left Windows.youngest Windows.added Windows.window_of Windows.window_in Windows.store_window Windows.laid Windows.lastly Windows.sent Upto.upward Upto.every Upto.some Upto.count Upto.lowest Upto.most Sets.has Sets.is_row Sets.no_row Sets.first_rows Sets.gaining Sets.losing Sets.cut_to Sizes.root Sizes.root_up Sizes.published Sizes.new_five Sizes.exchanged Sizes.grid_by Sizes.mark_fits Sizes.new_mark Sizes.no_grid Sizes.spare Sizes.row_of Sizes.column_of Sizes.height Bytes.number Bytes.bytes_of Bytes.part Bytes.put Bytes.all_zero Layout.get Layout.store Layout.form Layout.form_value Layout.capacity Layout.used Layout.first Layout.file_length Layout.file_count Layout.rest_in Layout.files_of Layout.spare Layout.former_mark Layout.former_oldest Layout.mark_in Layout.oldest_in Layout.spare_in Layout.copy_length Layout.copy_in Layout.copy_of Layout.name Layout.link Layout.epoch Layout.members Layout.grid_mark Layout.list Layout.store_list Layout.no_list Layout.is_empty Layout.is_tall Layout.mark Layout.version Layout.desired Layout.reserved Layout.reserved_in Layout.form_of Layout.body_in Layout.stride_in Layout.contents Layout.store_contents Layout.body_length Layout.stride Layout.row_length Layout.rows_end Layout.row_bytes Blocks.block Blocks.with_block Blocks.with_blocks Blocks.in_turn Layout.capacity_of Layout.used_of Layout.first_of Layout.file_length_of Layout.name_of Layout.link_of Layout.epoch_of Layout.list_of Layout.county Layout.county_of Layout.stale_of Layout.version_of Layout.desired_of Layout.contents_of Linking.chain Upto.among Upto.rises_from WellFormed.between WellFormed.limit WellFormed.only_rows WellFormed.header_values WellFormed.head_values WellFormed.copy_values WellFormed.head_right WellFormed.copy_right WellFormed.length_right WellFormed.visits_each WellFormed.names_rise WellFormed.unused_zero WellFormed.desired_right WellFormed.list_right WellFormed.is_county WellFormed.county_right WellFormed.marks_right WellFormed.plain WellFormed.plain_right WellFormed.row_right WellFormed.lists_agree Marks.mark_right Marks.tall_table Marks.tall_right Counties.in_county Counties.has_members Counties.several WellFormed.own_form WellFormed.well_formed Upto.keep Layout.with_row Layout.with_rows Bytes.zeros Moves.goes_over Moves.all_plain Moves.carried_row Moves.carried Moves.carried_length
judged-hold = refl

pub plains-hold : plains ≡ true
unfolding plains small early late windowed WellFormed.kept_right Layout.oldest Layout.records Layout.store_records Windows.places Windows.width Windows.younger Windows.size Windows.start Windows.patch_in Windows.record_with Windows.record_of Windows.next Windows.path Windows.patches Windows.record_right Windows.window_right Windows.emptied Windows.free Windows.taken Windows.left Windows.youngest Windows.added Windows.window_of Windows.window_in Windows.store_window Windows.laid Windows.lastly Windows.sent Upto.upward Upto.every Upto.some Upto.count Upto.lowest Upto.most Sets.has Sets.is_row Sets.no_row Sets.first_rows Sets.gaining Sets.losing Sets.cut_to Sizes.root Sizes.root_up Sizes.published Sizes.new_five Sizes.exchanged Sizes.grid_by Sizes.mark_fits Sizes.new_mark Sizes.no_grid Sizes.spare Sizes.row_of Sizes.column_of Sizes.height Bytes.number Bytes.bytes_of Bytes.part Bytes.put Bytes.all_zero Layout.get Layout.store Layout.form Layout.form_value Layout.capacity Layout.used Layout.first Layout.file_length Layout.file_count Layout.rest_in Layout.files_of Layout.spare Layout.former_mark Layout.former_oldest Layout.mark_in Layout.oldest_in Layout.spare_in Layout.copy_length Layout.copy_in Layout.copy_of Layout.name Layout.link Layout.epoch Layout.members Layout.grid_mark Layout.list Layout.store_list Layout.no_list Layout.is_empty Layout.is_tall Layout.mark Layout.version Layout.desired Layout.reserved Layout.reserved_in Layout.form_of Layout.body_in Layout.stride_in Layout.contents Layout.store_contents Layout.body_length Layout.stride Layout.row_length Layout.rows_end Layout.row_bytes Blocks.block Blocks.with_block Blocks.with_blocks Blocks.in_turn Layout.capacity_of Layout.used_of Layout.first_of Layout.file_length_of Layout.name_of Layout.link_of Layout.epoch_of Layout.list_of Layout.county Layout.county_of Layout.stale_of Layout.version_of Layout.desired_of Layout.contents_of Linking.chain Upto.among Upto.rises_from WellFormed.between WellFormed.limit WellFormed.only_rows WellFormed.header_values WellFormed.head_values WellFormed.copy_values WellFormed.head_right WellFormed.copy_right WellFormed.length_right WellFormed.visits_each WellFormed.names_rise WellFormed.unused_zero WellFormed.desired_right WellFormed.list_right WellFormed.is_county WellFormed.county_right WellFormed.marks_right WellFormed.plain WellFormed.plain_right WellFormed.row_right WellFormed.lists_agree Marks.mark_right Marks.tall_table Marks.tall_right Counties.in_county Counties.has_members Counties.several WellFormed.own_form WellFormed.well_formed Upto.keep Layout.with_row Layout.with_rows Bytes.zeros Moves.goes_over Moves.all_plain Moves.carried_row Moves.carried Moves.carried_length
plains-hold = refl

-- ---- the bytes of a table carried over, row by row
pub carried-up : Moves.carried 3 (early 2 1 2) ≡ late 1 2
unfolding small early late WellFormed.kept_right Layout.oldest Layout.records Layout.store_records Windows.places Windows.width Windows.younger Windows.size Windows.start Windows.patch_in Windows.record_with Windows.record_of Windows.next Windows.path Windows.patches Windows.record_right Windows.window_right Windows.emptied Windows.free Windows.taken Windows.left Windows.youngest Windows.added Windows.window_of Windows.window_in Windows.store_window Windows.laid Windows.lastly Windows.sent Upto.upward Upto.every Upto.some Upto.count Upto.lowest Upto.most Sets.has Sets.is_row Sets.no_row Sets.first_rows Sets.gaining Sets.losing Sets.cut_to Sizes.root Sizes.root_up Sizes.published Sizes.new_five Sizes.exchanged Sizes.grid_by Sizes.mark_fits Sizes.new_mark Sizes.no_grid Sizes.spare Sizes.row_of Sizes.column_of Sizes.height Bytes.number Bytes.bytes_of Bytes.part Bytes.put Bytes.all_zero Layout.get Layout.store Layout.form Layout.form_value Layout.capacity Layout.used Layout.first Layout.file_length Layout.file_count Layout.rest_in Layout.files_of Layout.spare Layout.former_mark Layout.former_oldest Layout.mark_in Layout.oldest_in Layout.spare_in Layout.copy_length Layout.copy_in Layout.copy_of Layout.name Layout.link Layout.epoch Layout.members Layout.grid_mark Layout.list Layout.store_list Layout.no_list Layout.is_empty Layout.is_tall Layout.mark Layout.version Layout.desired Layout.reserved Layout.reserved_in Layout.form_of Layout.body_in Layout.stride_in Layout.contents Layout.store_contents Layout.body_length Layout.stride Layout.row_length Layout.rows_end Layout.row_bytes Blocks.block Blocks.with_block Blocks.with_blocks Blocks.in_turn Layout.capacity_of Layout.used_of Layout.first_of Layout.file_length_of Layout.name_of Layout.link_of Layout.epoch_of Layout.list_of Layout.county Layout.county_of Layout.stale_of Layout.version_of Layout.desired_of Layout.contents_of Linking.chain Upto.among Upto.rises_from WellFormed.between WellFormed.limit WellFormed.only_rows WellFormed.header_values WellFormed.head_values WellFormed.copy_values WellFormed.head_right WellFormed.copy_right WellFormed.length_right WellFormed.visits_each WellFormed.names_rise WellFormed.unused_zero WellFormed.desired_right WellFormed.list_right WellFormed.is_county WellFormed.county_right WellFormed.marks_right WellFormed.plain WellFormed.plain_right WellFormed.row_right WellFormed.lists_agree Marks.mark_right Marks.tall_table Marks.tall_right Counties.in_county Counties.has_members Counties.several WellFormed.own_form WellFormed.well_formed Upto.keep Layout.with_row Layout.with_rows Bytes.zeros Moves.goes_over Moves.all_plain Moves.carried_row Moves.carried Moves.carried_length
carried-up = refl

pub carried-down : Moves.carried 2 (windowed 1 2) ≡ early 2 1 2
unfolding small early windowed WellFormed.kept_right Layout.oldest Layout.records Layout.store_records Windows.places Windows.width Windows.younger Windows.size Windows.start Windows.patch_in Windows.record_with Windows.record_of Windows.next Windows.path Windows.patches Windows.record_right Windows.window_right Windows.emptied Windows.free Windows.taken Windows.left Windows.youngest Windows.added Windows.window_of Windows.window_in Windows.store_window Windows.laid Windows.lastly Windows.sent Upto.upward Upto.every Upto.some Upto.count Upto.lowest Upto.most Sets.has Sets.is_row Sets.no_row Sets.first_rows Sets.gaining Sets.losing Sets.cut_to Sizes.root Sizes.root_up Sizes.published Sizes.new_five Sizes.exchanged Sizes.grid_by Sizes.mark_fits Sizes.new_mark Sizes.no_grid Sizes.spare Sizes.row_of Sizes.column_of Sizes.height Bytes.number Bytes.bytes_of Bytes.part Bytes.put Bytes.all_zero Layout.get Layout.store Layout.form Layout.form_value Layout.capacity Layout.used Layout.first Layout.file_length Layout.file_count Layout.rest_in Layout.files_of Layout.spare Layout.former_mark Layout.former_oldest Layout.mark_in Layout.oldest_in Layout.spare_in Layout.copy_length Layout.copy_in Layout.copy_of Layout.name Layout.link Layout.epoch Layout.members Layout.grid_mark Layout.list Layout.store_list Layout.no_list Layout.is_empty Layout.is_tall Layout.mark Layout.version Layout.desired Layout.reserved Layout.reserved_in Layout.form_of Layout.body_in Layout.stride_in Layout.contents Layout.store_contents Layout.body_length Layout.stride Layout.row_length Layout.rows_end Layout.row_bytes Blocks.block Blocks.with_block Blocks.with_blocks Blocks.in_turn Layout.capacity_of Layout.used_of Layout.first_of Layout.file_length_of Layout.name_of Layout.link_of Layout.epoch_of Layout.list_of Layout.county Layout.county_of Layout.stale_of Layout.version_of Layout.desired_of Layout.contents_of Linking.chain Upto.among Upto.rises_from WellFormed.between WellFormed.limit WellFormed.only_rows WellFormed.header_values WellFormed.head_values WellFormed.copy_values WellFormed.head_right WellFormed.copy_right WellFormed.length_right WellFormed.visits_each WellFormed.names_rise WellFormed.unused_zero WellFormed.desired_right WellFormed.list_right WellFormed.is_county WellFormed.county_right WellFormed.marks_right WellFormed.plain WellFormed.plain_right WellFormed.row_right WellFormed.lists_agree Marks.mark_right Marks.tall_table Marks.tall_right Counties.in_county Counties.has_members Counties.several WellFormed.own_form WellFormed.well_formed Upto.keep Layout.with_row Layout.with_rows Bytes.zeros Moves.goes_over Moves.all_plain Moves.carried_row Moves.carried Moves.carried_length
carried-down = refl

pub carried_first : Moves.carried 1 (windowed 1 0) ≡ early 1 1 0
unfolding small early windowed WellFormed.kept_right Layout.oldest Layout.records Layout.store_records Windows.places Windows.width Windows.younger Windows.size Windows.start Windows.patch_in Windows.record_with Windows.record_of Windows.next Windows.path Windows.patches Windows.record_right Windows.window_right Windows.emptied Windows.free Windows.taken Windows.left Windows.youngest Windows.added Windows.window_of Windows.window_in Windows.store_window Windows.laid Windows.lastly Windows.sent Upto.upward Upto.every Upto.some Upto.count Upto.lowest Upto.most Sets.has Sets.is_row Sets.no_row Sets.first_rows Sets.gaining Sets.losing Sets.cut_to Sizes.root Sizes.root_up Sizes.published Sizes.new_five Sizes.exchanged Sizes.grid_by Sizes.mark_fits Sizes.new_mark Sizes.no_grid Sizes.spare Sizes.row_of Sizes.column_of Sizes.height Bytes.number Bytes.bytes_of Bytes.part Bytes.put Bytes.all_zero Layout.get Layout.store Layout.form Layout.form_value Layout.capacity Layout.used Layout.first Layout.file_length Layout.file_count Layout.rest_in Layout.files_of Layout.spare Layout.former_mark Layout.former_oldest Layout.mark_in Layout.oldest_in Layout.spare_in Layout.copy_length Layout.copy_in Layout.copy_of Layout.name Layout.link Layout.epoch Layout.members Layout.grid_mark Layout.list Layout.store_list Layout.no_list Layout.is_empty Layout.is_tall Layout.mark Layout.version Layout.desired Layout.reserved Layout.reserved_in Layout.form_of Layout.body_in Layout.stride_in Layout.contents Layout.store_contents Layout.body_length Layout.stride Layout.row_length Layout.rows_end Layout.row_bytes Blocks.block Blocks.with_block Blocks.with_blocks Blocks.in_turn Layout.capacity_of Layout.used_of Layout.first_of Layout.file_length_of Layout.name_of Layout.link_of Layout.epoch_of Layout.list_of Layout.county Layout.county_of Layout.stale_of Layout.version_of Layout.desired_of Layout.contents_of Linking.chain Upto.among Upto.rises_from WellFormed.between WellFormed.limit WellFormed.only_rows WellFormed.header_values WellFormed.head_values WellFormed.copy_values WellFormed.head_right WellFormed.copy_right WellFormed.length_right WellFormed.visits_each WellFormed.names_rise WellFormed.unused_zero WellFormed.desired_right WellFormed.list_right WellFormed.is_county WellFormed.county_right WellFormed.marks_right WellFormed.plain WellFormed.plain_right WellFormed.row_right WellFormed.lists_agree Marks.mark_right Marks.tall_table Marks.tall_right Counties.in_county Counties.has_members Counties.several WellFormed.own_form WellFormed.well_formed Upto.keep Layout.with_row Layout.with_rows Bytes.zeros Moves.goes_over Moves.all_plain Moves.carried_row Moves.carried Moves.carried_length
carried_first = refl
