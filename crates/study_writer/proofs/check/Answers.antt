-- `study_writer::check`. Each check's answer is handed on where it refuses, and passed over where it accepts.
use Rattle.answers.proofs.Laws.{handed_on, passed, not_refused}
use Rattle.answers.specs.declared.Refusal.TheVariants.{File}
use borrow.Author.Tests.{ltb-false}
use mathlib.Core.Path.{sym, ◌∙◌}
use Rattle.study_writer.proofs.check.Goals as goal

pub returns-in_default : goal.returns-in_default
returns-in_default c = handed_on _ c.check_whole-whole.ensures c.in_default.is

pub returns-in_default-count : goal.returns-in_default-count
returns-in_default-count c =
    passed _ c.check_whole-whole.ensures c.in-Accepted.is
    (handed_on _ c.check_count-count.ensures c.in_default-count.is)

pub check_room-requires : goal.check_room-requires
check_room-requires c = ltb-false _ _ (not_refused _ File 0 (sym c.check_count-count.ensures ∙ c.in-Accepted-count.is))

pub returns : goal.returns
returns c =
    passed _ c.check_whole-whole.ensures c.in-Accepted.is
    (passed _ c.check_count-count.ensures c.in-Accepted-count.is c.check_room.ensures)
