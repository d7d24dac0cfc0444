use mathlib.Core.Path.{sym, ◌∙◌}
use native.Mathlib.Nat.{pos_of_ne-zero}
use Prim.Native.Nat.{◌<◌}
use native.Mathlib.Omega.{arith}
use borrow.Author.Tests.{not-false}
use Rattle.sets.proofs.SetLaws.{not-empty}
use Rattle.rows.proofs.MembersIterator.next.Goals as goal

pub returns-clause-goes : goal.returns-clause-goes
returns-clause-goes c =
    let more = not-false _ (sym c.is_empty.ensures ∙ c.if-is_empty.false) in
    let some_left = pos_of_ne-zero (not-empty _ more) in
    let less : c.rest-self.result.bits < c.args.self.now.left.bits = omega (arith, c.rest-self.ensures.1, some_left) in
    record { on = λ f. (tt, tt, less); keeps = tt; rests = λ f. tt }
