use Rattle.open_file.specs.File.{empty_file}
use Rattle.program_office.proofs.put_empty.Goals as goal

pub returns : goal.returns
unfolding empty_file
returns c = c.write.ensures
