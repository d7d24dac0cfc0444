use Rattle.sheet.proofs.SheetLaws.{sheet-facts}
use Rattle.sheets.proofs.look.Goals as goal

pub share_asked-requires : goal.share_asked-requires
share_asked-requires c = let e = c.in_ok-left.ensures in ((sheet-facts c.args.s.now e.0).long, e.1)
