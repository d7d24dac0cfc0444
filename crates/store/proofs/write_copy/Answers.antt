use Rattle.store.proofs.write_copy.Goals as goal

pub returns-then-good : goal.returns-then-good
returns-then-good c = rw c.if-good.true c.patch_copy.ensures

pub returns-else-good : goal.returns-else-good
returns-else-good c = rw c.if-good.false c.mark_copy.ensures
