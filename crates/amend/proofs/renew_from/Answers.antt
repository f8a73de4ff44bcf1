use Rattle.amend.proofs.renew_from.Goals as goal

pub returns : goal.returns
returns c =
    rw (← c.write_fresh.ensures) c.renew_changed.ensures
