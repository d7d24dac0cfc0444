use mathlib.Core.Path.{◌≡◌, sym, ◌∙◌, ap}
use Prim.Native.Nat.{ℕ, ◌+◌, ◌-◌}
use native.Mathlib.Omega.{arith}
use lib.ListN.{length, take}
use Rattle.octets.proofs.CodeLaws.{part-back}
use Rattle.telling.proofs.TextLaws.{take-padded}
use Rattle.notices.proofs.SaidLaws.{ends_at}
use Rattle.notices.proofs.say.Goals as goal

pub returns : goal.returns
returns c m s is so =
    let a = c.args in
    let n = c.end_of-n.result in
    let long : n ≡ length s = ends_at m n a.text.now s is c.end_of-n.ensures so in
    let all : n - 0 ≡ length s = omega arith in
    let bytes : take (n - 0) a.text.now ≡ s = ap (λ (k : ℕ). take k a.text.now) all ∙ ap (take (length s)) is ∙ take-padded m s in
    (ap (λ (k : ℕ). a.at + k) long, part-back a.at n a.buffer.now _ s (c.copy.ensures ∙ bytes) (sym long))
