use mathlib.Core.Path.{sym, ◌∙◌}
use Rattle.straight.proofs.RowLaws.{behind-next, behind-last}
use Rattle.straight.proofs.leads_on.Goals as goal

pub returns-then-next-i : goal.returns-then-next-i
returns-then-next-i c = λ d. sym c.u64_at-next.ensures ∙ behind-next c.args.n c.args.i _ c.if-next-i.true c.requires.0 d

pub returns : goal.returns
returns c = λ e. sym c.u64_at-next.ensures ∙ behind-last _ _ _ (sym c.both.ensures ∙ e)
