use mathlib.Core.Path.{◌≡◌}
use mathlib.Core.Bool.{not}
use mathlib.Core.List.{List}
use Prim.Native.Nat.{ℕ}
use lib.ListN.{length}
use Rattle.sets.specs.Sets.{has}
use Rattle.blocks.specs.Blocks.{with_blocks}
use Rattle.protocol.specs.Rows.{marked_copy}
use Rattle.enroll.specs.declared.FileState.{FileState}
use Rattle.enroll.specs.Files.{by_file}
use Rattle.enroll.proofs.mark_others.Given as goal

-- the row with its copies of files 1 to k marked, where it is not good in them
abbrev pub marked : ℕ → List FileState → ℕ → ℕ → List ℕ → List ℕ
marked size files i k row = with_blocks 32 size (λ q. not (has (by_file files q).good.bits i)) (λ q. marked_copy (by_file files q).version) k row

abbrev pub invariant-loop-k : goal.invariant-loop-k
invariant-loop-k l = (length l.row ≡ length l.initial.row) × (l.row ≡ marked l.size l.files l.i l.k l.initial.row)
