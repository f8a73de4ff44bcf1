-- `study_format::check_whole`. A field is cut short if the file ends within it.
use mathlib.Core.Path.{◌∙◌}
use borrow.Author.Tests.{lt-ltb, le-ltb}
use Rattle.study_format.proofs.check_whole.Goals as goal

pub returns-then-file-at : goal.returns-then-file-at
returns-then-file-at c = c.refused.ensures ∙ simp (lt-ltb _ _ c.if-file-at.true)

pub returns : goal.returns
returns c = simp (le-ltb _ _ c.if-file-at.false)
