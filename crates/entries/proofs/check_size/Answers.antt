use Rattle.entries.specs.Judging.{size_answer}
use borrow.Author.Tests.{ne_eqb}
use Rattle.entries.proofs.check_size.Goals as goal

pub returns-then-entries-ne-ENTRIES : goal.returns-then-entries-ne-ENTRIES
unfolding size_answer
returns-then-entries-ne-ENTRIES c = rw (ne_eqb _ _ c.if-entries-ne-ENTRIES.true)

pub returns : goal.returns
unfolding size_answer
returns c = rw c.if-entries-ne-ENTRIES.false
