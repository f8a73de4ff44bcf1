-- The three checks in order, and then the entries.
use Rattle.open_rules.proofs.Laws.{whole, site_accepted, own_place}
use Rattle.open_rules.specs.Open.{study, study_size, site_owner, amend_site_answer}
use Rattle.amend_sets.specs.Amend.{entry_answer}
use Rattle.amend_sets.proofs.Changes.{entry_accepted}
use Rattle.open_judging.proofs.Laws.{Told, told, refused_early, judged_last, all_three}
use Rattle.open_judging.proofs.judge_amend.Goals.{After-in_order-may}
use Rattle.open_judging.proofs.judge_amend.Goals as goal

-- what the three checks said
may :
    (f : After-in_order-may)
    → Told f.in_order-may.result (study_size (study f.args.owners.now f.args.blocks.now)) (entry_answer f.args.entry)
    (site_owner f.args.owners.now f.args.office f.args.site)
may f =
    told f.in_order-may.ensures f.in_order-known.ensures f.check_study.ensures
    f.check_entry.ensures f.check_own.ensures

pub returns-in_default : goal.returns-in_default
unfolding amend_site_answer
returns-in_default c = refused_early _ (may (goal.at.returns-in_default c).After-in_order-may) c.in_default.is

pub judge_block-requires : goal.judge_block-requires
judge_block-requires c =
    let three = all_three (may (goal.at.judge_block-requires c).After-in_order-may) c.in-Accepted.is in
    let study = whole _ three.0 in
    (study.blocks, own_place _ _ _ study.owners (site_accepted _ _ _ three.2), entry_accepted _ three.1)

pub returns : goal.returns
unfolding amend_site_answer
returns c = judged_last _ (may (goal.at.returns c).After-in_order-may) c.in-Accepted.is c.judge_block.ensures
