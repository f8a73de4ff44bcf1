use Rattle.program_diamond.specs.Run.{diamond_use}
use Rattle.text.specs.Text.{ascii}
use Rattle.program_diamond.proofs.put_use.Goals as goal

pub returns : goal.returns
unfolding diamond_use ascii
returns c = c.put_bytes.ensures
