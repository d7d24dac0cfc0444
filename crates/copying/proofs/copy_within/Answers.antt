use mathlib.Core.List.{List, append_assoc}
use mathlib.Core.Path.{◌≡◌, ◌∙◌}
use Prim.Native.Nat.{ℕ, ◌+◌, ◌-◌, ◌≤◌}
use native.Mathlib.Omega.{arith}
use lib.ListN.{length, take, drop}
use Rattle.std.specs.List.{copy_within}
use Rattle.octets.specs.Bytes.{part, put}
use Rattle.octets.proofs.ByteLaws.{length_part}
use Rattle.copying.proofs.copy_within.Goals as goal

-- the library's word for it
copied-within : (s : List ℕ) (from n to : ℕ) → from + n ≤ length s → copy_within s from (from + n) to ≡ put to (part from n s) s
unfolding part put
copied-within s from n to h =
    let m : (from + n) - from ≡ n = omega arith in
    rw (m, length_part from n s h) (append_assoc (take to s) (take n (drop from s)) (drop (to + n) s))

pub returns : goal.returns
returns c = let a = c.args in c.copy_within.ensures.after ∙ copied-within a.s.now a.from a.n a.to c.requires.0
