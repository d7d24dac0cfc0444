use Rattle.renew.proofs.renew_copy.Goals as goal

pub returns : goal.returns
returns c =
    rw (c.set_desired.ensures, c.set_version.ensures, c.set_mark.ensures)
