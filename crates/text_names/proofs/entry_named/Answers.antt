use Rattle.std.proofs.Common.{rules}
use Rattle.text_names.specs.Names.{entry_named}
use Rattle.text_names.proofs.entry_named.Goals as goal

pub returns-in_err-row_of-clause-value : goal.returns-in_err-row_of-clause-value
unfolding entry_named
returns-in_err-row_of-clause-value c = search rules

pub returns-in_err-row_of-2-clause-value : goal.returns-in_err-row_of-2-clause-value
unfolding entry_named
returns-in_err-row_of-2-clause-value c = search rules

pub returns-clause-value : goal.returns-clause-value
unfolding entry_named
returns-clause-value c = search rules
