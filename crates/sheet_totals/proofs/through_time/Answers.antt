use Rattle.procedure.specs.Pairs.{through_time}
use Rattle.sheet_pairs.proofs.Picks.{chosen_time_at}
use Rattle.sheet_totals.proofs.through_time.Goals as goal

pub returns : goal.returns
unfolding through_time
returns c = rw (c.choose.ensures, c.at.ensures, chosen_time_at)
