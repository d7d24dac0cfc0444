use native.Mathlib.Omega.{arith}
use borrow.Author.Rules.{rules}
use Rattle.fields.specs.Layout.{copy_length}
use Rattle.table.proofs.copy_size.Goals as goal

pub returns : goal.returns
unfolding copy_length
returns c = omega arith
