use borrow.Author.Rules.{rules}
use borrow.Author.Tests.{lt-ltb, le-ltb}
use Rattle.page_form.proofs.Section.or.Goals as goal

pub returns-then-i-end : goal.returns-then-i-end
returns-then-i-end c = (rw (← c.end.ensures, lt-ltb _ _ c.if-i-end.true), search rules)

pub returns : goal.returns
returns c = (rw (← c.end.ensures, le-ltb _ _ c.if-i-end.false), search rules)
