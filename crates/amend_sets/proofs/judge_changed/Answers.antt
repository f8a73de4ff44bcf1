-- Each check hands its refusal on; past all of them the entries are those judged.
use Rattle.amend_sets.specs.Amend.{together_answer}
use Rattle.amend_sets.proofs.Changes.{never_both}
use Rattle.sheet_cells.proofs.Cells.{sheet_accepted}
use Rattle.answers.proofs.Laws.{handed_on, passed}
use Rattle.entries.specs.Judging.{judged_for}
use native.Mathlib.Omega.{arith}
use mathlib.Core.Path.{sym, ◌∙◌, ap}
use Rattle.amend_sets.proofs.judge_changed.Goals as goal

pub returns-in_default : goal.returns-in_default
unfolding together_answer
returns-in_default c =
    let refused = c.in_default.is in
    record {
      value = handed_on _ c.check_sheet-size.ensures refused;
      entries_after = never_both refused;
    }

pub returns-in_default-known : goal.returns-in_default-known
unfolding together_answer
returns-in_default-known c =
    let refused = c.in_default-known.is in
    let known = handed_on _ c.check_entries-known.ensures refused in
    record {
      value = passed _ c.check_sheet-size.ensures c.in-Accepted.is known;
      entries_after = never_both refused;
    }

pub entries_with-requires : goal.entries_with-requires
entries_with-requires c =
    let long = sheet_accepted _ _ (sym c.check_sheet-size.ensures ∙ c.in-Accepted.is) in (
      omega arith,
      sym c.check_entries-known.ensures ∙ c.in-Accepted-known.is,
    )

pub returns : goal.returns
unfolding together_answer
returns c =
    let made = c.entries_with.ensures in
    let kind = c.args.kind in
    let known = passed _ c.check_entries-known.ensures c.in-Accepted-known.is (c.judge.ensures ∙ ap (judged_for kind) made) in
    record {
      value = passed _ c.check_sheet-size.ensures c.in-Accepted.is known;
      entries_after = λ accepted. made;
    }
