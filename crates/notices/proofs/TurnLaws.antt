-- One turn of each loop of the code, over plain variables.
use mathlib.Core.Path.{◌≡◌, sym, ◌∙◌}
use mathlib.Core.List.{List, [], ◌∷◌, ◌++◌, append_assoc}
use Prim.Native.Nat.{ℕ, zero, suc, ◌+◌, ◌-◌, ◌/◌, ◌%◌, ◌≤◌, ◌<◌}
use native.Mathlib.Omega.{arith}
use lib.ListN.{length, drop, set}
use lib.Seq.{set_split, drop_at, length-take-le}
use Rattle.telling.specs.Text.{decimal}

-- ---- figures: those of what is left, before those that are written
pub figure-turn : (s t : List ℕ) (i v : ℕ) → 0 < i → i ≤ length s → decimal i v ++ drop i s ≡ t
    → decimal (i - 1) (v / 10) ++ drop (i - 1) (set s (i - 1) (48 + v % 10)) ≡ t
unfolding decimal
figure-turn s t zero v some h e = absurd (omega arith)
figure-turn s t (suc i) v some h e =
    let z : suc i - 1 ≡ i = omega arith in
    rw (z, set_split s i (48 + v % 10) (omega arith), drop_at _ ((48 + v % 10) ∷ drop (suc i) s) i (length-take-le i s (omega arith)))
    (sym (append_assoc (decimal i (v / 10)) ((48 + v % 10) ∷ []) (drop (suc i) s)) ∙ e)
