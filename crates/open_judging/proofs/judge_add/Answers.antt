-- The three checks in order, and then the entries.
use Rattle.open_rules.specs.Open.{study, study_size, add_owner, may_add}
use Rattle.entries.specs.Judging.{size_answer}
use Rattle.open_judging.proofs.Laws.{Told, told, refused_early, judged_last}
use Rattle.open_judging.proofs.judge_add.Goals.{After-in_order-may}
use Rattle.open_judging.proofs.judge_add.Goals as goal

-- what the three checks said
may :
    (f : After-in_order-may)
    → Told f.in_order-may.result (study_size (study f.args.owners.now f.args.blocks.now)) (size_answer f.args.entries.now)
    (add_owner f.args.office)
may f =
    told f.in_order-may.ensures f.in_order-size.ensures f.check_study.ensures
    f.check_size.ensures f.check_office.ensures

pub returns-in_default : goal.returns-in_default
unfolding may_add
returns-in_default c = refused_early _ (may (goal.at.returns-in_default c).After-in_order-may) c.in_default.is

pub returns : goal.returns
unfolding may_add
returns c = judged_last _ (may (goal.at.returns c).After-in_order-may) c.in-Accepted.is c.judge.ensures
