use Rattle.renew.proofs.SendLaws.{both_long, right-cut, sent-in}
use Rattle.renew.proofs.send_contents.Goals as goal

pub sent_over-requires : goal.sent_over-requires
sent_over-requires c = (
  right-cut c.args.copy.now c.args.source.now c.requires.0 c.requires.1 _ c.oldest.ensures c.requires.2,
  both_long c.args.copy.now c.args.source.now c.requires.0 c.requires.1,
)

pub returns : goal.returns
returns c =
    sent-in c.args.copy.now c.args.source.now c.requires.0 c.requires.1 c.args.missing _ _ c.oldest.ensures c.sent_over.ensures c.sent_over.auto.own
