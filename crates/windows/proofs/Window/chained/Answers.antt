use borrow.Author.Tests.{eq-eqb}
use lib.Dec.{eqb}
use Prim.Native.Nat.{ℕ}
use mathlib.Core.Path.{◌≡◌, refl, sym, ◌∙◌, ap}
use mathlib.Core.Bool.{Bool, true, false, cond, ◌&&◌}
use Rattle.std.proofs.Common.{Option, Some, None}
use Rattle.std.specs.Option.{option_eq}
use Rattle.windows.specs.Visits.{window, visits}
use Rattle.windows.proofs.Window.chained.Goals as goal

pub returns-then-in_order : goal.returns-then-in_order
returns-then-in_order c =
    let f = c.in_order.ensures c.if-in_order.true in
    sym (rw f.0 (eq-eqb _ _ f.1))

pub returns : goal.returns
returns c = c.eq.ensures ∙ ap (λ (o : Option ℕ). option_eq eqb o (Some c.args.k)) c.visited.ensures ∙ same (visits (window c.args.self.oldest c.args.self.records.now)) _ c.args.k
  where
    same : (b : Bool) (n k : ℕ) → option_eq eqb (cond b (Some n) None) (Some k) ≡ (b && eqb n k)
    same true n k = refl
    same false n k = refl
