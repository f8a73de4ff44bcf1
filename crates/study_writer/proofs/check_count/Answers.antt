use borrow.Author.Tests.{lt-ltb, le-ltb}
use Rattle.study_writer.proofs.check_count.Goals as goal

pub returns-then-format-sites : goal.returns-then-format-sites
returns-then-format-sites c = rw (lt-ltb _ _ c.if-format-sites.true) c.refused.ensures

pub returns : goal.returns
returns c = rw (le-ltb _ _ c.if-format-sites.false)
