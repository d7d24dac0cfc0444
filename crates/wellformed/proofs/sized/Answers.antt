use mathlib.Core.Bool.{true}
use mathlib.Core.Path.{◌≡◌, sym, ◌∙◌}
use native.Mathlib.Omega.{arith}
use Rattle.table.specs.WellFormed.{header_values}
use Rattle.table.proofs.WellFormedLaws.{by-short}
use Rattle.wellformed.proofs.sized.Goals.{Else-not-header_values}
use Rattle.wellformed.proofs.sized.Goals as goal

head : (c : Else-not-header_values) → header_values c.args.t.now ≡ true
head c = sym c.header_values.ensures ∙ c.if-not-header_values.false

pub returns-then-t-lt-HEADER : goal.returns-then-t-lt-HEADER
returns-then-t-lt-HEADER c = by-short _ (omega (arith, c.if-t-lt-HEADER.true))
