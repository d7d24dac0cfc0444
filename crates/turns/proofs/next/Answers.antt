use mathlib.Core.Path.{◌≡◌, ◌∙◌, ap}
use mathlib.Core.List.{[], ◌∷◌}
use Prim.Native.Nat.{ℕ, ◌-◌}
use native.Mathlib.Nat.{sub-zero}
use lib.ListN.{take}
use Rattle.std.proofs.lemmas.Result.{err_from_is_err_and}
use Rattle.ordering.specs.Rounds.{patch_of, writing}
use Rattle.orders.specs.Turns.{stepped, turn}
use Rattle.orders.proofs.OrderLaws.{run}
use Rattle.turns.proofs.TurnLaws.{patch-is, order-writes}
use Rattle.turns.proofs.next.Goals.{After-bytes_in-n}
use Rattle.turns.proofs.next.Goals as goal

-- the write that the order stands for
same-write : (c : After-bytes_in-n) → let a = c.args in
    record { c = a.o.coordinator; r = a.r; offset = a.o.offset; patch = take (c.bytes_in-n.result - 0) a.o.bytes; called = 0 ∷ []; file = a.o.file; sheet = a.sheet.now; club = a.o.club } ≡ writing a.r a.sheet.now a.o
unfolding patch_of
same-write c =
    let a = c.args in
    order-writes a.r a.sheet.now a.o _ (ap (λ (n : ℕ). take n a.o.bytes) (sub-zero c.bytes_in-n.result) ∙ patch-is a.o.length c.bytes_in-n.result a.o.bytes c.bytes_in-n.ensures.0)

pub returns-in_err-turn-clause-made : goal.returns-in_err-turn-clause-made
unfolding turn
returns-in_err-turn-clause-made c =
    let a = c.args in
    let f = err_from_is_err_and c.from_residual.result c.from_residual.ensures.1 in
    rw (f.1, f.2) (c.in_err-turn.ensures.made ∙ ap (stepped (run a.s.turn.done a.t.now a.sheet.now)) (same-write (goal.at.returns-in_err-turn-clause-made c).After-bytes_in-n))

pub returns-clause-made : goal.returns-clause-made
unfolding turn
returns-clause-made c =
    let a = c.args in
    c.in_ok-turn.ensures.made ∙ ap (stepped (run a.s.turn.done a.t.now a.sheet.now)) (same-write (goal.at.returns-clause-made c).After-bytes_in-n)
