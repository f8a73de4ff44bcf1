-- `program_office::job_of`. A case for each wish.
use Rattle.program_office.specs.Run.{job_of}
use mathlib.Core.Path.{sym, ◌∙◌}
use Rattle.program_office.proofs.job_of.Goals as goal

pub returns-in-Help : goal.returns-in-Help
unfolding job_of
returns-in-Help c =
    rw (rw c.word.ensures at (sym c.wish_of.ensures ∙ c.in-Help.is))

pub returns-in-Version : goal.returns-in-Version
unfolding job_of
returns-in-Version c =
    rw (rw c.word.ensures at (sym c.wish_of.ensures ∙ c.in-Version.is))

pub returns-in-Work : goal.returns-in-Work
unfolding job_of
returns-in-Work c =
    rw (rw c.word.ensures at (sym c.wish_of.ensures ∙ c.in-Work.is)) c.work_of.ensures
