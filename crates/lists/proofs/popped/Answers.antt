use Rattle.lists.proofs.popped.Goals as goal

pub returns-then-counts : goal.returns-then-counts
returns-then-counts c = rw c.if-counts.true
