use borrow.Author.Tests.{eq-eqb, ne_eqb}
use Rattle.laying.proofs.next_row.Goals as goal

pub returns-then-i-n : goal.returns-then-i-n
returns-then-i-n c = rw (eq-eqb _ _ c.if-i-n.true)

pub returns-else-i-n : goal.returns-else-i-n
returns-else-i-n c = rw (ne_eqb _ _ c.if-i-n.false)
