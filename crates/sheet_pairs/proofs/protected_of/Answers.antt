use Rattle.procedure.specs.Pairs.{protected}
use Rattle.sheet_pairs.proofs.protected_of.Goals as goal

pub returns : goal.returns
unfolding protected
returns c = (c.protected_time.ensures, c.from.ensures)
