use native.Mathlib.Omega.{arith}
use native.Mathlib.Nat.{div-le_self}
use Prim.Native.Nat.{◌-◌}
use Rattle.grid.proofs.HeightLaws.{height-by-sum}
use Rattle.grid.proofs.height.Goals as goal

pub overflow_add-result : goal.overflow_add-result
overflow_add-result c = let a = c.args in omega (arith, div-le_self (a.length - a.j) a.g.cols)

pub returns : goal.returns
returns c = height-by-sum c.args.g c.args.length c.requires.0 c.args.j c.requires.1 c.requires.2
