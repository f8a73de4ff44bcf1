use borrow.Author.Tests.{eq-eqb, ne_eqb}
use Rattle.text.specs.Text.{ascii}
use Rattle.diamond_page.specs.Page.{no_text, yes_text}
use Rattle.diamond_page.proofs.answer_byte.Goals as goal

pub returns-then-value-eq0 : goal.returns-then-value-eq0
unfolding no_text ascii
returns-then-value-eq0 c = rw (eq-eqb _ _ c.if-value-eq0.true)

pub returns-else-value-eq0 : goal.returns-else-value-eq0
unfolding yes_text ascii
returns-else-value-eq0 c = rw (ne_eqb _ _ c.if-value-eq0.false)
