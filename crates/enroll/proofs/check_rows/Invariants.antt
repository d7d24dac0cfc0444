use mathlib.Core.Bool.{Bool}
use Prim.Native.Nat.{ℕ}
use Rattle.store.proofs.RowsLaws.{Done}
use Rattle.protocol.specs.Rows.{checked_row}
use Rattle.fields.specs.Layout.{files_of, file_length_of}
use Rattle.enroll.specs.Files.{by_file}
use Rattle.sets.proofs.MemberLaws.{Taken}
use Rattle.sets.specs.Sets.{has}
use Rattle.enroll.proofs.check_rows.Given as goal

-- the rows taken so far are enrolled
abbrev pub invariant-loop-i : goal.invariant-loop-i
invariant-loop-i l = (p : ℕ → Bool) × Taken l.fn.set.bits l.i-iterator.left.bits p × Done l.initial.t (checked_row (files_of l.initial.t) (file_length_of l.initial.t) (λ q. has (by_file l.files q).good.bits) (λ q. (by_file l.files q).version) l.epoch l.list) l.size p l.t
