-- The three checks in order, and then the entries.
use Rattle.open_rules.proofs.Laws.{whole, site_accepted, own_place}
use Rattle.open_rules.specs.Open.{study, study_size, site_owner, read_answer}
use Rattle.layout.specs.declared.Worksheet.TheVariants.{Junction}
use Rattle.sheet_cells.specs.Cells.{sheet_answer}
use Rattle.entries.specs.Judging.{judged}
use Rattle.open_judging.proofs.Laws.{Told, told, refused_early, judged_last, all_three}
use mathlib.Core.Path.{ap, ◌∙◌}
use Rattle.open_judging.proofs.judge_read.Goals.{After-in_order-may}
use Rattle.open_judging.proofs.judge_read.Goals as goal

-- what the three checks said
may :
    (f : After-in_order-may)
    → Told f.in_order-may.result (study_size (study f.args.owners.now f.args.blocks.now)) (sheet_answer Junction f.args.sheet.now)
    (site_owner f.args.owners.now f.args.office f.args.site)
may f =
    told f.in_order-may.ensures f.in_order-size.ensures f.check_study.ensures
    f.check_sheet.ensures f.check_own.ensures

pub returns-in_default : goal.returns-in_default
unfolding read_answer
returns-in_default c = refused_early _ (may (goal.at.returns-in_default c).After-in_order-may) c.in_default.is

pub block-requires : goal.block-requires
block-requires c =
    let three = all_three (may (goal.at.block-requires c).After-in_order-may) c.in-Accepted.is in
    let study = whole _ three.0 in
    (study.blocks, own_place _ _ _ study.owners (site_accepted _ _ _ three.2))

pub returns : goal.returns
unfolding read_answer
returns c =
    judged_last _ (may (goal.at.returns c).After-in_order-may) c.in-Accepted.is (c.judge.ensures ∙ ap judged c.block.ensures.0)
