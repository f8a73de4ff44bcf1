use Rattle.procedure.specs.Pairs.{left_time}
use Rattle.sheet_pairs.proofs.Picks.{chosen_time_at}
use Rattle.sheet_totals.proofs.left_time.Goals as goal

pub returns : goal.returns
unfolding left_time
returns c = rw (c.choose.ensures, c.at.ensures, chosen_time_at)
