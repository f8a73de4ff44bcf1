use Rattle.procedure.specs.Pairs.{left_time}
use Rattle.sheet_pairs.proofs.Picks.{chosen_at}
use Rattle.sheet_beside.proofs.left_in.Goals as goal

pub returns : goal.returns
unfolding left_time
returns c =
    rw (c.choose.ensures, c.pick_in.ensures, chosen_at, c.line_in.ensures, c.line_in-2.ensures)
