use mathlib.Core.Path.{◌∙◌}
use native.Mathlib.Omega.{arith}
use lib.ListN.{length}
use Rattle.windows.specs.Visits.{window}
use Rattle.patches.proofs.LayLaws.{sent-all, sent-last}
use Rattle.patches.proofs.sent_over.Goals as goal

pub ended-end-requires : goal.ended-end-requires
ended-end-requires c =
    (length c.args.own.now, c.requires.0)

pub returns-then-count-missing : goal.returns-then-count-missing
returns-then-count-missing c =
    c.copy.ensures ∙ sent-all (window c.args.w.oldest c.args.w.records.now) c.args.missing c.ended-end.result.count c.args.whole.now c.args.own.now c.ended-end.ensures.0 (omega (arith, c.if-count-missing.true))

pub returns : goal.returns
returns c =
    c.lay_after.ensures ∙ sent-last (window c.args.w.oldest c.args.w.records.now) c.args.missing c.ended-end.result.count c.args.whole.now c.args.own.now c.ended-end.ensures.0 (omega (arith, c.if-count-missing.false))
