use Rattle.amend_sets.specs.Amend.{entry_answer}
use borrow.Author.Tests.{lt-ltb, le-ltb}
use Rattle.amend_sets.proofs.check_entry.Goals as goal

pub returns-then-entry-gt-CYCLE_ENTRY : goal.returns-then-entry-gt-CYCLE_ENTRY
unfolding entry_answer
returns-then-entry-gt-CYCLE_ENTRY c = rw (lt-ltb _ _ c.if-entry-gt-CYCLE_ENTRY.true)

pub returns : goal.returns
unfolding entry_answer
returns c = rw (le-ltb _ _ c.if-entry-gt-CYCLE_ENTRY.false)
