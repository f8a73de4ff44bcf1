use Rattle.sheet_totals.proofs.right_of.Goals as goal

pub returns : goal.returns
returns c = rw (← c.through_time.ensures, ← c.left_time.ensures) c.right_total.ensures
