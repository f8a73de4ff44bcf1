-- Each check's answer is handed on where it refuses, and passed over where it accepts.
use Rattle.entries.proofs.Laws.{size_accepted}
use Rattle.entries.specs.Judging.{judged_for}
use Rattle.answers.proofs.Laws.{handed_on, passed}
use mathlib.Core.Path.{sym, ◌∙◌}
use Rattle.entries.proofs.judge.Goals as goal

pub returns-in_default : goal.returns-in_default
unfolding judged_for
returns-in_default c = handed_on _ c.check_size-size.ensures c.in_default.is

pub whole-entries-requires : goal.whole-entries-requires
whole-entries-requires c = size_accepted _ (sym c.check_size-size.ensures ∙ c.in-Accepted.is)

pub returns-in_default-ranges : goal.returns-in_default-ranges
unfolding judged_for
returns-in_default-ranges c =
    passed _ c.check_size-size.ensures c.in-Accepted.is
    (handed_on _ (rw c.whole-entries.ensures at c.check_ranges-ranges.ensures) c.in_default-ranges.is)

pub returns-in_default-shared : goal.returns-in_default-shared
unfolding judged_for
returns-in_default-shared c =
    passed _ c.check_size-size.ensures c.in-Accepted.is
    (passed _ (rw c.whole-entries.ensures at c.check_ranges-ranges.ensures) c.in-Accepted-ranges.is
    (handed_on _ (rw c.whole-entries.ensures at c.check_each-shared.ensures) c.in_default-shared.is))

pub returns : goal.returns
unfolding judged_for
returns c =
    passed _ c.check_size-size.ensures c.in-Accepted.is
    (passed _ (rw c.whole-entries.ensures at c.check_ranges-ranges.ensures) c.in-Accepted-ranges.is
    (passed _ (rw c.whole-entries.ensures at c.check_each-shared.ensures) c.in-Accepted-shared.is
    (rw c.whole-entries.ensures at c.check_each.ensures)))
