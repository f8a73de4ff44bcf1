use Rattle.amend_reach.specs.Working.{run_if}
use Rattle.amend_reach.proofs.Merging.{merged_none}
use mathlib.Core.Path.{refl, sym}
use Rattle.amend_reach.proofs.copy_if.Goals as goal

pub returns-then-wanted : goal.returns-then-wanted
unfolding run_if
returns-then-wanted c = rw c.if-wanted.true c.copy_run.ensures

pub returns-else-wanted : goal.returns-else-wanted
unfolding run_if
returns-else-wanted c = rw c.if-wanted.false (sym (merged_none _ _ _ c.requires.0 (λ j. refl)))
