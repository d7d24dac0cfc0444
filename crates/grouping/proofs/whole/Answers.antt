use native.Mathlib.Omega.{arith}
use Rattle.grouping.proofs.GroupLaws.{none-whole, all_whole}
use Rattle.grouping.proofs.whole.Goals as goal

pub returns-then-county-eq0 : goal.returns-then-county-eq0
returns-then-county-eq0 c = λ few. rw c.if-county-eq0.true (none-whole c.args.used)

pub returns : goal.returns
returns c = λ few. all_whole c.args.used c.args.county c.first-rows.result.bits few (omega (arith, c.if-county-eq0.false, c.requires)) c.first-rows.ensures
