-- `study_format::Format::check_opening`. Cut short, wrong, or right: the opening's three answers.
use Rattle.answers.proofs.Laws.{handed_on, passed, refuses, accepts}
use mathlib.Core.Path.{sym, ◌∙◌, ap}
use mathlib.Core.Bool.{not}
use Rattle.std.proofs.lemmas.Bool.{not_from_false, not_from_true}
use Rattle.study_format.proofs.Format.check_opening.Goals as goal

pub returns-in_default : goal.returns-in_default
returns-in_default c = handed_on _ c.check_whole-whole.ensures c.in_default.is

pub returns-then-not-opens : goal.returns-then-not-opens
returns-then-not-opens c =
    passed _ c.check_whole-whole.ensures c.in-Accepted.is
    (c.refused.ensures ∙ refuses _ 0 (ap not (sym c.opens.ensures) ∙ (not_from_false _ c.if-not-opens.true)))

pub returns : goal.returns
returns c =
    passed _ c.check_whole-whole.ensures c.in-Accepted.is
    (sym (accepts _ 0 (ap not (sym c.opens.ensures) ∙ (not_from_true _ c.if-not-opens.false))))
