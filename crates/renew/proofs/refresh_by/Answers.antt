use mathlib.Core.Path.{◌≡◌, sym, ◌∙◌, ap, ap₂, subst₂}
use mathlib.Core.List.{List, ◌++◌}
use Prim.Native.Nat.{ℕ, ◌+◌, ◌-◌, ◌*◌, ◌≤◌}
use native.Mathlib.Nat.{mul-le-mul_right}
use native.Mathlib.Omega.{arith}
use lib.ListN.{length, take}
use lib.Seq.{length-take-le}
use Rattle.blocks.specs.Blocks.{with_block}
use Rattle.fields.specs.Layout.{copy_length, in_copy, files_of, file_length_of, row_length, copy_bytes}
use Rattle.fields.proofs.FieldLaws.{row-newest, stride-is}
use Rattle.fields.proofs.FieldLaws as Fields
use Rattle.table.proofs.WellFormedLaws.{header, long}
use Rattle.window.specs.Windows.{window_of}
use Rattle.windows.specs.Visits.{RightFor}
use Rattle.protocol.specs.Rows.{refreshed_copy}
use Rattle.renew.proofs.PageLaws.{row_fits, cut-length, row_back, front-is}
use borrow.Author.Rules.{rules}
use Rattle.renew.proofs.refresh_by.Goals.{After-copy_from_slice, After-copy_size-copy, After-rows_end-at}
use Rattle.renew.proofs.refresh_by.Goals as goal

-- a copy that is refreshed by equal numbers and bytes
alike : (q w v : ℕ) (source from row new : List ℕ) → w ≡ v → source ≡ from → new ≡ with_block 32 w q (refreshed_copy source) row → new ≡ with_block 32 v q (refreshed_copy from) row
alike q w v source from row new a b h = h ∙ ap₂ (λ (x : ℕ) (xs : List ℕ). with_block 32 x q (refreshed_copy xs) row) a b

-- what the header says
copy_is : (c : After-copy_size-copy) → c.copy_size-copy.result ≡ copy_length (file_length_of c.args.t.now)
copy_is c = c.copy_size-copy.ensures ∙ ap copy_length c.file_length.ensures

-- the target's row is in the table
fits : (c : After-rows_end-at) → c.rows_end-at.result + c.row_length-size.result ≤ length c.args.t.now
fits c =
    row_fits c.requires.0 c.args.to c.requires.4 _ _ c.row_length-size.ensures c.rows_end-at.ensures

pub row_length-size-requires : goal.row_length-size-requires
row_length-size-requires c = let z = c.requires.0 in (long z, z.header)

pub file_length-requires : goal.file_length-requires
file_length-requires c = long c.requires.0

pub copy_size-copy-requires : goal.copy_size-copy-requires
copy_size-copy-requires c = let z = c.requires.0 in omega (arith, c.file_length.ensures, (header z.header).file)

pub rows_end-at-requires : goal.rows_end-at-requires
rows_end-at-requires c = let p = c.requires in (long p.0, p.0.header, omega (arith, p.4, (header p.0.header).used))

pub slice_bounds-copy_from_slice-end : goal.slice_bounds-copy_from_slice-end
slice_bounds-copy_from_slice-end c = omega (arith, copy_is (goal.at.slice_bounds-copy_from_slice-end c).After-copy_size-copy, c.requires.6)

pub copy_from_slice-requires : goal.copy_from_slice-requires
copy_from_slice-requires c =
    let n : length (take (c.copy_size-copy.result - 0) c.args.page.now) ≡ c.copy_size-copy.result - 0 = length-take-le (c.copy_size-copy.result - 0) c.args.page.now (omega (arith, copy_is (goal.at.copy_from_slice-requires c).After-copy_size-copy, c.requires.6)) in
    omega (arith, n, copy_is (goal.at.copy_from_slice-requires c).After-copy_size-copy, c.copy_of.ensures.1)

pub overflow_add-at : goal.overflow_add-at
overflow_add-at c = omega (arith, fits (goal.at.overflow_add-at c).After-rows_end-at)

pub slice_bounds-refresh_row-end : goal.slice_bounds-refresh_row-end
slice_bounds-refresh_row-end c = omega (arith, fits (goal.at.slice_bounds-refresh_row-end c).After-rows_end-at)

pub slice_bounds-refresh_row-end-2 : goal.slice_bounds-refresh_row-end-2
slice_bounds-refresh_row-end-2 c =
    let room : c.copy_size-copy.result ≤ length c.args.page.now = omega (arith, copy_is (goal.at.slice_bounds-refresh_row-end-2 c).After-copy_size-copy, c.requires.6) in
    search rules

-- the sender's copy on the page
page-is : (c : After-copy_from_slice) → (xs : List ℕ) → take (c.copy_size-copy.result - 0) (c.copy_from_slice.new.self ++ xs) ≡ copy_bytes c.args.t.now c.args.q c.args.from
page-is c xs =
    let n : length c.copy_of.result.now ≡ c.copy_size-copy.result = c.copy_of.ensures.1 ∙ sym (c.copy_size-copy.ensures ∙ ap copy_length c.file_length.ensures) in
    front-is _ _ _ _ c.copy_from_slice.ensures.after n ∙ c.copy_of.ensures.0

pub refresh_row-requires : goal.refresh_row-requires
refresh_row-requires c =
    let t = c.args.t.now in
    let n : row_length t ≡ 32 + files_of t * copy_length (file_length_of t) = row-newest t c.requires.1 ∙ stride-is (files_of t) (file_length_of t) in
    let m = cut-length c.requires.0 c.args.to c.requires.4 _ _ c.row_length-size.ensures c.rows_end-at.ensures in
    let page = page-is (goal.at.refresh_row-requires c).After-copy_from_slice _ in (
      c.requires.2.0,
      omega (arith, m, c.row_length-size.ensures, n, ap (λ (x : ℕ). c.args.q * x) (copy_is (goal.at.refresh_row-requires c).After-copy_size-copy), mul-le-mul_right {m = c.args.q} {n = files_of t} (copy_length (file_length_of t)) c.requires.2.1),
      omega (arith, copy_is (goal.at.refresh_row-requires c).After-copy_size-copy, Fields.copy_is (file_length_of t)),
      ap length (page ∙ sym c.copy_of.ensures.0) ∙ c.copy_of.ensures.1 ∙ sym (copy_is (goal.at.refresh_row-requires c).After-copy_size-copy),
      subst₂ (λ (x : ℕ) (xs : List ℕ). RightFor x (window_of xs)) (omega (arith, copy_is (goal.at.refresh_row-requires c).After-copy_size-copy, Fields.copy_is (file_length_of t))) (sym page) c.requires.5,
    )

pub returns : goal.returns
unfolding in_copy
returns c =
    let t = c.args.t.now in
    row_back c.requires.0 c.args.to c.requires.4 _ _ c.row_length-size.ensures c.rows_end-at.ensures (in_copy (file_length_of t) c.args.q (refreshed_copy (copy_bytes t c.args.q c.args.from))) _ c.refresh_row.auto.row
    (alike _ _ _ _ _ _ _ (copy_is (goal.at.returns c).After-copy_size-copy) (page-is (goal.at.returns c).After-copy_from_slice _) c.refresh_row.ensures)
