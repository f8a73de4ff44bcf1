-- `program_office::office_job`. The definition asks for the same jobs in turn: each that is passed over was not asked for.
use Rattle.program_office.specs.Run.{office_job}
use Rattle.text.specs.Text.{ascii}
use mathlib.Core.Path.{sym, ◌∙◌}
use Rattle.program_office.proofs.office_job.Goals as goal

pub returns-then-is_asked : goal.returns-then-is_asked
unfolding office_job ascii
returns-then-is_asked c = rw (sym c.is_asked.ensures ∙ c.if-is_asked.true)

pub returns-then-is_asked-2 : goal.returns-then-is_asked-2
unfolding office_job ascii
returns-then-is_asked-2 c =
    rw (sym c.is_asked.ensures ∙ c.if-is_asked.false, sym c.is_asked-2.ensures ∙ c.if-is_asked-2.true)

pub returns-then-is_asked-3 : goal.returns-then-is_asked-3
unfolding office_job ascii
returns-then-is_asked-3 c =
    rw (
      sym c.is_asked.ensures ∙ c.if-is_asked.false,
      sym c.is_asked-2.ensures ∙ c.if-is_asked-2.false,
      sym c.is_asked-3.ensures ∙ c.if-is_asked-3.true,
    )

pub returns : goal.returns
unfolding office_job ascii
returns c =
    rw (
      sym c.is_asked.ensures ∙ c.if-is_asked.false,
      sym c.is_asked-2.ensures ∙ c.if-is_asked-2.false,
      sym c.is_asked-3.ensures ∙ c.if-is_asked-3.false,
    )
