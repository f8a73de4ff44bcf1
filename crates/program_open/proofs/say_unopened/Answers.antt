use Rattle.program_open.specs.Opening.{unopened_text}
use Rattle.text.specs.Text.{ascii}
use Rattle.program_open.proofs.say_unopened.Goals as goal

pub returns : goal.returns
unfolding unopened_text ascii
returns c = c.put_named.ensures
