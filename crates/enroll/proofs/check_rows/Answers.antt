use mathlib.Core.Bool.{false, not}
use mathlib.Core.Path.{◌≡◌, sym, ◌∙◌, ap, ap₂, subst}
use mathlib.Core.List.{List}
use Prim.Native.Nat.{ℕ, ◌+◌, ◌-◌, ◌*◌, ◌≤◌}
use lib.ListN.{length, take}
use lib.Seq.{length-take-le}
use Rattle.fields.specs.declared.Laid.{Laid}
use native.Mathlib.Omega.{arith}
use Rattle.store.proofs.RowsLaws.{none_done, turn-fits, turn-long, turn-done, done-long, done_all}
use Rattle.blocks.specs.Blocks.{with_blocks}
use Rattle.protocol.specs.Rows.{marked_copy, enrolled_row, checked_row}
use Rattle.enroll.specs.declared.FileState.{FileState}
use Rattle.enroll.specs.Files.{by_file}
use Rattle.enroll.proofs.FileLaws.{first-kept}
use Rattle.table.proofs.WellFormedLaws.{long, header}
use Rattle.fields.specs.Layout.{copy_length, in_copies, used_of, files_of, file_length_of, row_length}
use Rattle.fields.proofs.FieldLaws.{row-newest, stride-is}
use Rattle.fields.proofs.FieldLaws as Fields
use Rattle.rows.specs.declared.Members.{Members}
use Rattle.sets.proofs.MemberLaws.{Taken, only, none-taken, all-taken, in-set, not_yet, one-taken}
use Rattle.sets.specs.Sets.{has, no_row, joining}
use Rattle.sets.specs.Upto.{Within}
use Rattle.enroll.proofs.check_rows.Goals.{In-Some}
use Rattle.enroll.proofs.check_rows.Goals as goal

-- a row that is checked by equal numbers, and by the states of the files that there are
alike : (e : ℕ) (l : Laid) (xs : List FileState) (i : ℕ) (row new : List ℕ) (n w m files : ℕ) → n ≡ w → m ≡ files → files ≤ length xs
    → new ≡ enrolled_row e l (with_blocks 32 n (λ q. not (has (by_file (take m xs) q).good.bits i)) (λ q. marked_copy (by_file (take m xs) q).version) (length (take m xs)) row)
    → new ≡ enrolled_row e l (with_blocks 32 w (λ q. not (has (by_file xs q).good.bits i)) (λ q. marked_copy (by_file xs q).version) files row)
alike e l xs i row new n w m files a b few h = (rw (a, b, length-take-le files xs few) at h) ∙ ap (enrolled_row e l) (first-kept w i files xs row)

-- in a turn the lowest row that is left is a used one, and not changed yet
used : (c : In-Some) → Within (used_of c.args.t.now) c.in-Some.i
used c = let s = c.in-Some.ensures.steps in c.requires.2 _ (in-set c.loop-i.invariant.1 s.0 s.1)

new : (c : In-Some) → c.loop-i.invariant.0 c.in-Some.i ≡ false
new c = let s = c.in-Some.ensures.steps in not_yet c.loop-i.invariant.1 s.0 s.1

-- and it lies within the table, which stays as long
room : (c : In-Some) → (16 + (c.in-Some.i - 1) * c.row_length-size.result + c.row_length-size.result ≤ length c.loop-i.t) × (length c.loop-i.t ≡ length c.args.t.now)
room c = (turn-fits c.loop-i.invariant.2 (used c) (new c), done-long c.loop-i.invariant.2)

pub row_length-size-requires : goal.row_length-size-requires
row_length-size-requires c = let z = c.requires.0 in (long z, z.header)

pub files-requires : goal.files-requires
files-requires c = long c.requires.0

pub shared_ref_as_front-used : goal.shared_ref_as_front-used
shared_ref_as_front-used c = omega (arith, c.files.ensures, (header c.requires.0.header).files, c.told-files)

pub file_length-requires : goal.file_length-requires
file_length-requires c = long c.requires.0

pub copy_size-copy-requires : goal.copy_size-copy-requires
copy_size-copy-requires c = let z = c.requires.0 in omega (arith, c.file_length.ensures, (header z.header).file)

pub loop-i-init : goal.loop-i-init
loop-i-init c = (no_row, subst (λ (x : ℕ). Taken c.args.set.bits x no_row) (ap (λ (m : Members). m.left.bits) (sym (c.into_iter-i-iterator.ensures.into_iter_gives ∙ c.members-i-items.ensures))) (none-taken _), none_done c.requires.0 _ c.row_length-size.ensures)

pub overflow_sub-at : goal.overflow_sub-at
overflow_sub-at c = omega (arith, used (goal.at.overflow_sub-at c).In-Some)

pub overflow_mul-at : goal.overflow_mul-at
overflow_mul-at c = omega (arith, room (goal.at.overflow_mul-at c).In-Some)

pub overflow_add-at : goal.overflow_add-at
overflow_add-at c = omega (arith, room (goal.at.overflow_add-at c).In-Some)

pub overflow_add-at-in-loop-i : goal.overflow_add-at-in-loop-i
overflow_add-at-in-loop-i c = omega (arith, room (goal.at.overflow_add-at-in-loop-i c).In-Some)

pub slice_bounds-check_row-end : goal.slice_bounds-check_row-end
slice_bounds-check_row-end c = omega (arith, room (goal.at.slice_bounds-check_row-end c).In-Some)

-- what the header says of files and copies
few : (c : In-Some) → files_of c.args.t.now ≤ length c.args.files.now
few c = omega (arith, (header c.requires.0.header).files, c.told-files)

copy_is : (c : In-Some) → c.copy_size-copy.result ≡ copy_length (file_length_of c.args.t.now)
copy_is c = c.copy_size-copy.ensures ∙ ap copy_length c.file_length.ensures

pub check_row-requires : goal.check_row-requires
check_row-requires c =
    let at = (goal.at.check_row-requires c).In-Some in
    let t = c.args.t.now in
    let n : row_length t ≡ 32 + files_of t * copy_length (file_length_of t) = row-newest t c.requires.1 ∙ stride-is (files_of t) (file_length_of t) in
    let many : length (take c.files.result c.args.files.now) ≡ files_of t = ap length (ap (λ (k : ℕ). take k c.args.files.now) c.files.ensures) ∙ length-take-le _ _ (few at) in (
      omega (arith, many, (header c.requires.0.header).files),
      omega (arith, turn-long c.loop-i.invariant.2 (used at) (new at), n, ap₂ (λ (x y : ℕ). x * y) many (copy_is at)),
      omega (arith, copy_is at, Fields.copy_is (file_length_of t)),
    )

pub loop-i-preserved : goal.loop-i-preserved
unfolding checked_row in_copies
loop-i-preserved c =
    let at = (goal.at.loop-i-preserved c).In-Some in
    let l = c.loop-i in
    let s = c.in-Some.ensures.steps in (
      joining l.invariant.0 (only c.in-Some.i),
      one-taken l.invariant.1 s.0 s.1 (s.2, s.3),
      turn-done l.invariant.2 (used at) (new at) _ c.check_row.auto.row (alike _ _ _ _ _ _ _ _ _ _ (copy_is at) c.files.ensures (few at) c.check_row.ensures),
    )

pub shape_of-t : goal.shape_of-t
shape_of-t c = done-long c.loop-i.invariant.2

pub returns : goal.returns
returns c =
    let l = c.loop-i in
    done_all l.invariant.2 _ (all-taken l.invariant.1 (omega arith) c.in-None.ensures.steps.0)
