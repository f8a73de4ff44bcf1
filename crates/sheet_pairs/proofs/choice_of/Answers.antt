use Rattle.procedure.specs.Pairs.{protected, permitted, split, pair}
use Rattle.sheet_pairs.proofs.choice_of.Goals as goal

pub returns : goal.returns
unfolding pair protected permitted split
returns c = rw (c.from.ensures, c.least.ensures, c.permitted_time-permitted.ensures, c.protected_time-protected.ensures)
