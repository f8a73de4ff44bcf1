-- `program_office::work_of`. A new study, or what an office is to do.
use Rattle.program_office.specs.Run.{work_of}
use Rattle.text.specs.Text.{ascii}
use mathlib.Core.Path.{sym, ◌∙◌}
use Rattle.program_office.proofs.work_of.Goals as goal

pub returns-then-is_asked : goal.returns-then-is_asked
unfolding work_of ascii
returns-then-is_asked c =
    rw (rw c.word.ensures at (sym c.is_asked.ensures ∙ c.if-is_asked.true))

pub returns : goal.returns
unfolding work_of ascii
returns c =
    rw (rw c.word.ensures at (sym c.is_asked.ensures ∙ c.if-is_asked.false))
    (rw c.word-2.ensures at c.office_job.ensures)
