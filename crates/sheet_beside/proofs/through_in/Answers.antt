use Rattle.procedure.specs.Pairs.{through_time}
use Rattle.sheet_pairs.proofs.Picks.{chosen_at}
use Rattle.sheet_beside.proofs.through_in.Goals as goal

pub returns : goal.returns
unfolding through_time
returns c =
    rw (c.choose.ensures, c.pick_in.ensures, chosen_at, c.line_in.ensures, c.line_in-2.ensures, c.line_in-3.ensures)
