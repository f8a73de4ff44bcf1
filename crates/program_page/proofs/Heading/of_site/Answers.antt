use Rattle.program_outcome.proofs.Laws.{placed_front}
use Rattle.program_page.proofs.Heading.of_site.Goals as goal

pub returns : goal.returns
returns c = placed_front c.head_site-size.ensures.0
