use mathlib.Core.Bool.{false}
use mathlib.Core.Path.{◌≡◌, sym, ◌∙◌, ap, subst}
use Prim.Native.Nat.{ℕ, ◌+◌, ◌-◌, ◌*◌, ◌≤◌}
use lib.ListN.{length}
use native.Mathlib.Nat.{mul-le-mul_right}
use native.Mathlib.Omega.{arith}
use Rattle.store.proofs.RowsLaws.{none_done, turn-fits, turn-long, turn-row, turn-done, done-long, done_all}
use Rattle.protocol.specs.Rows.{wrote_copy}
use Rattle.table.proofs.WellFormedLaws.{long, header}
use Rattle.fields.specs.Layout.{copy_length, copy_in, in_copy, used_of, files_of, file_length_of, row_length, copy_bytes}
use Rattle.fields.proofs.FieldLaws.{row-newest, stride-is}
use Rattle.fields.proofs.FieldLaws as Fields
use Rattle.rows.specs.declared.Members.{Members}
use Rattle.sets.proofs.MemberLaws.{Taken, only, none-taken, all-taken, in-set, not_yet, one-taken}
use Rattle.sets.specs.Sets.{no_row, joining}
use Rattle.sets.specs.Upto.{Within}
use Rattle.store.proofs.write_rows.Goals.{In-Some}
use Rattle.store.proofs.write_rows.Goals as goal

-- in a turn the lowest row that is left is a used one, and not changed yet
used : (c : In-Some) → Within (used_of c.args.t.now) c.in-Some.i
used c = let s = c.in-Some.ensures.steps in c.requires.3 _ (in-set c.loop-i.invariant.1 s.0 s.1)

new : (c : In-Some) → c.loop-i.invariant.0 c.in-Some.i ≡ false
new c = let s = c.in-Some.ensures.steps in not_yet c.loop-i.invariant.1 s.0 s.1

-- and it lies within the table, which stays as long
room : (c : In-Some) → (16 + (c.in-Some.i - 1) * c.row_length-size.result + c.row_length-size.result ≤ length c.loop-i.t) × (length c.loop-i.t ≡ length c.args.t.now)
room c = (turn-fits c.loop-i.invariant.2 (used c) (new c), done-long c.loop-i.invariant.2)

pub row_length-size-requires : goal.row_length-size-requires
row_length-size-requires c = let z = c.requires.0 in (long z, z.header)

pub file_length-requires : goal.file_length-requires
file_length-requires c = long c.requires.0

pub copy_size-copy-requires : goal.copy_size-copy-requires
copy_size-copy-requires c = let z = c.requires.0 in omega (arith, c.file_length.ensures, (header z.header).file)

pub loop-i-init : goal.loop-i-init
loop-i-init c = (no_row, subst (λ (x : ℕ). Taken c.args.works.bits x no_row) (ap (λ (m : Members). m.left.bits) (sym (c.into_iter-i-iterator.ensures.into_iter_gives ∙ c.members-i-items.ensures))) (none-taken _), none_done c.requires.0 _ c.row_length-size.ensures)

pub overflow_sub-at : goal.overflow_sub-at
overflow_sub-at c = omega (arith, used (goal.at.overflow_sub-at c).In-Some)

pub overflow_mul-at : goal.overflow_mul-at
overflow_mul-at c = omega (arith, room (goal.at.overflow_mul-at c).In-Some)

pub overflow_add-at : goal.overflow_add-at
overflow_add-at c = omega (arith, room (goal.at.overflow_add-at c).In-Some)

pub overflow_add-at-in-loop-i : goal.overflow_add-at-in-loop-i
overflow_add-at-in-loop-i c = omega (arith, room (goal.at.overflow_add-at-in-loop-i c).In-Some)

pub slice_bounds-write_row-end : goal.slice_bounds-write_row-end
slice_bounds-write_row-end c = omega (arith, room (goal.at.slice_bounds-write_row-end c).In-Some)

-- a copy is as long as the file says
copy_is : (c : In-Some) → c.copy_size-copy.result ≡ copy_length (file_length_of c.args.t.now)
copy_is c = c.copy_size-copy.ensures ∙ ap copy_length c.file_length.ensures

pub write_row-requires : goal.write_row-requires
unfolding copy_bytes copy_in
write_row-requires c =
    let at = (goal.at.write_row-requires c).In-Some in
    let l = c.loop-i.invariant in
    let t = c.args.t.now in
    let n : row_length t ≡ 32 + files_of t * copy_length (file_length_of t) = row-newest t c.requires.1 ∙ stride-is (files_of t) (file_length_of t) in (
      c.requires.2.0,
      omega (arith, turn-long l.2 (used at) (new at), n, copy_is at, mul-le-mul_right {m = c.args.q} {n = files_of t} (copy_length (file_length_of t)) c.requires.2.1, ap (λ (k : ℕ). c.args.q * k) (copy_is at)),
      omega (arith, copy_is at, Fields.copy_is (file_length_of t), c.requires.4),
      rw (copy_is at, turn-row l.2 (used at) (new at)) (c.requires.5 _ (in-set l.1 c.in-Some.ensures.steps.0 c.in-Some.ensures.steps.1)),
    )

pub loop-i-preserved : goal.loop-i-preserved
unfolding in_copy wrote_copy
loop-i-preserved c =
    let at = (goal.at.loop-i-preserved c).In-Some in
    let l = c.loop-i in
    let s = c.in-Some.ensures.steps in (
      joining l.invariant.0 (only c.in-Some.i),
      one-taken l.invariant.1 s.0 s.1 (s.2, s.3),
      turn-done l.invariant.2 (used at) (new at) _ c.write_row.auto.row (rw (copy_is at, c.has.ensures) at c.write_row.ensures),
    )

pub shape_of-t : goal.shape_of-t
shape_of-t c = done-long c.loop-i.invariant.2

pub returns : goal.returns
returns c =
    let l = c.loop-i in
    done_all l.invariant.2 _ (all-taken l.invariant.1 (omega arith) c.in-None.ensures.steps.0)
