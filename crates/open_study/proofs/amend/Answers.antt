use Rattle.open_rules.specs.Open.{with_entry, amended_blocks}
use Rattle.open_rules.proofs.Laws.{amends, own_place}
use Rattle.answers.proofs.Laws.{kept, renewed}
use mathlib.Core.Path.{sym, ◌∙◌}
use native.Mathlib.Omega.{arith}
use Rattle.open_study.proofs.amend.Goals as goal

pub returns-in_default : goal.returns-in_default
unfolding amended_blocks
returns-in_default c =
    let told = c.judge_amend-judged.ensures in
    record {
      value = told;
      blocks_after = kept _ _ (sym told ∙ c.in_default.is);
    }

pub bounds-blocks-site : goal.bounds-blocks-site
bounds-blocks-site c =
    let a = amends _ _ _ _ _ (sym c.judge_amend-judged.ensures ∙ c.in-Accepted.is) in
    omega (arith, a.study.blocks, a.entry, own_place _ _ _ a.study.owners a.own)

pub returns : goal.returns
unfolding amended_blocks with_entry
returns c =
    let answer = sym c.judge_amend-judged.ensures ∙ c.in-Accepted.is in
    record {
      value = sym answer;
      blocks_after = renewed _ _ answer;
    }
