use Rattle.amend_sets.specs.Amend.{amend_answer, amended}
use Rattle.amend_sets.specs.Working.{changes_of}
use Rattle.amend.proofs.amend.Goals as goal

pub returns : goal.returns
unfolding amend_answer amended changes_of
returns c = record {
  value = c.amend_together.ensures.value;
  sheet_after = c.amend_together.ensures.sheet_after;
}
