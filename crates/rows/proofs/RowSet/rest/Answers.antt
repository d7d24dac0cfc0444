use mathlib.Core.Path.{ap, ◌∙◌}
use Prim.Native.Nat.{ℕ, ◌-◌}
use native.Mathlib.Omega.{arith}
use lib.Bits.{and_le_r}
use Rattle.sets.proofs.SetLaws.{has_rest, lose-none, empty-at}
use Rattle.sets.specs.Sets.{has}
use Rattle.sets.specs.Upto.{lowest}
use Rattle.rows.proofs.RowSet.rest.Goals as goal

pub returns-then-self-eq0 : goal.returns-then-self-eq0
returns-then-self-eq0 c =
    let s = c.args.self.bits in
    let i = lowest 64 (has s) in
    (lose-none (has s) i (ap (λ (x : ℕ). has x i) c.if-self-eq0.true ∙ empty-at i), omega arith)

pub returns : goal.returns
returns c =
    let s = c.args.self.bits in (has_rest s (omega arith) c.if-self-eq0.false, and_le_r s (s - 1))
