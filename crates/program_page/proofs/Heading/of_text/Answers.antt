use Rattle.program_outcome.proofs.Laws.{placed_front}
use Rattle.program_page.proofs.Heading.of_text.Goals as goal

pub returns : goal.returns
returns c = placed_front c.head_text-size.ensures.0
