use Rattle.program_outcome.proofs.Laws.{placed_front}
use mathlib.Core.Path.{◌∙◌}
use Rattle.program_page.proofs.say_site.Goals as goal

pub returns : goal.returns
returns c = rw (c.front.ensures.0 ∙ placed_front c.name_site-size.ensures) at c.say_refused.ensures
