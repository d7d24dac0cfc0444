use Rattle.laying.proofs.found_row.Goals as goal

pub returns : goal.returns
returns c =
    rw (c.set_list.ensures, c.set_county.ensures, c.set_link.ensures, c.set_name.ensures)
