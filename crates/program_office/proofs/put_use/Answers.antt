use Rattle.program_office.specs.Run.{office_use}
use Rattle.text.specs.Text.{ascii}
use borrow.Author.Rules.{rules}
use Rattle.program_office.proofs.put_use.Goals as goal

pub returns : goal.returns
unfolding office_use ascii
returns c = search rules
