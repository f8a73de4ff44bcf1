use borrow.Author.Tests.{le-leb, lt-leb}
use Rattle.text_names.proofs.has_kind.Goals as goal

pub returns-then-kind-class : goal.returns-then-kind-class
returns-then-kind-class c = rw (← c.of_title-class.ensures.is, lt-leb _ _ c.if-kind-class.true)

pub returns : goal.returns
returns c = rw (← c.of_title-class.ensures.is, le-leb _ _ c.if-kind-class.false)
