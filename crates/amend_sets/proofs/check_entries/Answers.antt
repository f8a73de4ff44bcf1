-- Change by change: the answer is that of those left.
use Rattle.amend_sets.proofs.Changes.{checked_one, checked_all}
use Rattle.answers.proofs.Laws.{handed_on, go_on}
use mathlib.Core.Path.{refl, sym, ◌∙◌}
use Rattle.amend_sets.proofs.check_entries.Goals as goal

pub loop-n-init : goal.loop-n-init
loop-n-init c = refl

pub returns-in_default : goal.returns-in_default
returns-in_default c =
    let told = c.check_entry-known.ensures in
    handed_on _ told c.in_default.is ∙ sym (checked_one _ _ c.loop-n-test.true c.loop-n.invariant)

pub loop-n-preserved : goal.loop-n-preserved
loop-n-preserved c =
    let told = c.check_entry-known.ensures in
    checked_one _ _ c.loop-n-test.true c.loop-n.invariant ∙ go_on _ (sym told ∙ c.in-Accepted.is)

pub returns : goal.returns
returns c = checked_all _ _ c.loop-n-test.false c.loop-n.invariant
