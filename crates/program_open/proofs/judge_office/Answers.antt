-- `program_open::judge_office`. A word that names an office, and one that names none.
use Rattle.program_open.specs.Opening.{office_text, office_says}
use Rattle.text.specs.Text.{ascii}
use Rattle.program_outcome.proofs.Laws.{stops_of, goes_on}
use borrow.Author.Tests.{eq-eqb, ne_eqb}
use Rattle.program_open.proofs.judge_office.Goals as goal

pub returns-then-office_in-ne-NO_OFFICE : goal.returns-then-office_in-ne-NO_OFFICE
unfolding office_says
returns-then-office_in-ne-NO_OFFICE c = rw (← c.office_in.ensures, ne_eqb _ _ c.if-office_in-ne-NO_OFFICE.true) (goes_on tt)

pub returns : goal.returns
unfolding office_says office_text ascii
returns c =
    rw (← c.office_in.ensures, eq-eqb _ _ c.if-office_in-ne-NO_OFFICE.false) (stops_of _ _ (rw c.word.ensures at c.put_named.ensures))
