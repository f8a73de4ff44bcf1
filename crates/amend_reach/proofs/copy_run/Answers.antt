-- Nothing where the run is empty; else a part of the sheet.
use Rattle.amend_reach.proofs.Copies.{run_over, run_room, run_put}
use Rattle.amend_reach.proofs.Merging.{merged_none}
use mathlib.Core.Path.{sym, ◌∙◌}
use Rattle.amend_reach.proofs.copy_run.Goals as goal

pub put-requires : goal.put-requires
put-requires c = run_room c.args.from c.args.to c.args.fresh.now c.args.sheet.now c.requires.0 c.if-from-to.true c.requires.1

pub returns-then-from-to : goal.returns-then-from-to
returns-then-from-to c = c.put.ensures ∙ run_put _ _ _ _ c.requires.0 c.if-from-to.true c.requires.1

pub returns-else-from-to : goal.returns-else-from-to
returns-else-from-to c = sym (merged_none _ _ _ c.requires.0 (run_over _ _ c.if-from-to.false))
