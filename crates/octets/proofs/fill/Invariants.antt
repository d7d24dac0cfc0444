use mathlib.Core.List.{◌++◌}
use mathlib.Core.Path.{◌≡◌}
use Prim.Native.Nat.{◌-◌}
use lib.ListN.{length, take}
use Rattle.octets.specs.Bytes.{bytes_of}
use Rattle.octets.proofs.fill.Given as goal

abbrev pub invariant-loop-x : goal.invariant-loop-x
invariant-loop-x l = take l.x-index l.s ++ bytes_of (length l.initial.s - l.x-index) l.left ≡ bytes_of (length l.initial.s) l.v
