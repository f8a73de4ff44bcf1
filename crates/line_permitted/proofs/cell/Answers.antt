use Rattle.line_permitted.proofs.Laws.{cell_or}
use Rattle.line_permitted.proofs.cell.Goals as goal

pub returns : goal.returns
returns c = rw c.unwrap_or.ensures (cell_or c.args.time)
