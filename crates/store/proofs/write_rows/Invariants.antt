use mathlib.Core.Bool.{Bool}
use Prim.Native.Nat.{ℕ}
use Rattle.store.proofs.RowsLaws.{Done}
use Rattle.protocol.specs.Rows.{wrote_copy}
use Rattle.fields.specs.Layout.{in_copy, file_length_of}
use Rattle.sets.proofs.MemberLaws.{Taken}
use Rattle.sets.specs.Sets.{has}
use Rattle.store.proofs.write_rows.Given as goal

-- the rows taken so far are written
abbrev pub invariant-loop-i : goal.invariant-loop-i
invariant-loop-i l = (p : ℕ → Bool) × Taken l.fn.works.bits l.i-iterator.left.bits p × Done l.initial.t (λ i. in_copy (file_length_of l.initial.t) l.q (wrote_copy (has l.good.bits) l.version l.offset l.patch i)) l.size p l.t
