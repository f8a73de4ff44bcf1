use Rattle.program_outcome.proofs.Laws.{placed_front}
use Rattle.program_diamond.proofs.print.Goals as goal

pub returns : goal.returns
returns c = rw (placed_front c.put_heading-size.ensures.0) at c.put_page.ensures
