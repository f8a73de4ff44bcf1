use Rattle.text.specs.Text.{ascii}
use Rattle.program_convert.specs.Run.{many_text}
use Rattle.program_convert.proofs.say_many.Goals as goal

pub returns : goal.returns
unfolding many_text ascii
returns c = c.put_named.ensures
