use borrow.Author.Tests.{eq-eqb, ne_eqb}
use Rattle.study_writer.proofs.check_whole.Goals as goal

pub returns-then-entries-format-ne0 : goal.returns-then-entries-format-ne0
returns-then-entries-format-ne0 c = simp (ne_eqb _ _ c.if-entries-format-ne0.true)

pub returns : goal.returns
returns c = simp (eq-eqb _ _ c.if-entries-format-ne0.false)
