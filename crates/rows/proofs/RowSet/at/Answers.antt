use Prim.Native.Nat.{◌%◌}
use native.Mathlib.Numerals.{add-one}
use Rattle.sets.specs.Sets.{has}
use Rattle.rows.proofs.RowSet.at.Goals as goal

pub returns : goal.returns
unfolding has
returns c = rw (add-one (c.args.k % 64))
