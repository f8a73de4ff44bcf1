use Rattle.sheet_street.proofs.either_shares.Goals as goal

pub returns-then-shares : goal.returns-then-shares
returns-then-shares c = rw (← c.shares.ensures, c.if-shares.true)

pub returns : goal.returns
returns c = rw (← c.shares.ensures, c.if-shares.false, c.shares-2.ensures)
