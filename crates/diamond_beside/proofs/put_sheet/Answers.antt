use Rattle.diamond_beside.proofs.put_sheet.Goals as goal

pub returns : goal.returns
returns c =
    rw c.write_fresh.ensures at c.put.ensures
