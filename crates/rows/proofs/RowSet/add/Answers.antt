use mathlib.Core.Bool.{Bool, true, false, cond}
use mathlib.Core.Path.{◌≡◌, refl, ◌∙◌}
use Prim.Native.Nat.{◌%◌}
use native.Mathlib.Nat.{mod-lt}
use native.Mathlib.Omega.{arith}
use mir.Val.{bool_byte}
use Rattle.sets.proofs.SetLaws.{has-add}
use Rattle.rows.proofs.RowSet.add.Goals as goal

-- a test as a number
byte-cond : (b : Bool) → bool_byte b ≡ cond b 1 0
byte-cond true = refl
byte-cond false = refl

pub returns : goal.returns
returns c =
    let a = c.args in rw (c.from.ensures ∙ byte-cond a.wanted) (has-add a.self.bits (a.k % 64) a.wanted (mod-lt a.k (omega arith)))
