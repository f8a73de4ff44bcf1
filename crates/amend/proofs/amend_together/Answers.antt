-- A refusal leaves the sheet; acceptance says that the entries are fit to be filled from and that each change names one.
use Rattle.amend_sets.specs.Amend.{amended_together}
use Rattle.amend_sets.proofs.Together.{taken, all_stays}
use Rattle.answers.proofs.Laws.{renewed}
use Rattle.entries.proofs.Laws.{as_junction, accepted_count}
use lib.ListN.{length}
use mathlib.Core.Path.{sym, ◌∙◌, ap}
use native.Mathlib.Omega.{arith}
use Rattle.amend.proofs.amend_together.Goals as goal

pub returns-in_default : goal.returns-in_default
returns-in_default c =
    let told = c.judge_changed-judged.ensures.value in
    record {
      value = told;
      sheet_after = sym (all_stays _ _ _ (sym told ∙ c.in_default.is));
    }

pub slice_bounds-renew-end : goal.slice_bounds-renew-end
slice_bounds-renew-end c =
    let judged = c.judge_changed-judged.ensures in
    let accepted = c.in-Accepted.is in
    let good = as_junction _ _ (taken _ _ _ (sym judged.value ∙ accepted)).fine in
    omega (arith, ap length (judged.entries_after accepted), accepted_count _ good)

pub renew-requires : goal.renew-requires
renew-requires c =
    let judged = c.judge_changed-judged.ensures in
    let accepted = c.in-Accepted.is in
    let good = taken _ _ _ (sym judged.value ∙ accepted) in
    (good.long, rw (judged.entries_after accepted) good.fine, good.known)

pub returns : goal.returns
unfolding amended_together
returns c =
    let judged = c.judge_changed-judged.ensures in
    let accepted = c.in-Accepted.is in
    let answer = sym accepted ∙ judged.value in
    record {
      value = answer;
      sheet_after = c.renew.ensures ∙ rw (judged.entries_after accepted) (renewed _ _ (sym answer));
    }
