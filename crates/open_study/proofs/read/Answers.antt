use Rattle.open_rules.specs.Open.{read_sheet}
use Rattle.open_rules.proofs.Laws.{reads, own_place}
use Rattle.answers.proofs.Laws.{kept, renewed}
use mathlib.Core.Path.{sym, ◌∙◌}
use Rattle.open_study.proofs.read.Goals as goal

pub returns-in_default : goal.returns-in_default
unfolding read_sheet
returns-in_default c =
    let told = c.judge_read-judged.ensures in
    record {
      value = told;
      sheet_after = kept _ _ (sym told ∙ c.in_default.is);
    }

pub block-requires : goal.block-requires
block-requires c =
    let r = reads _ _ _ _ (sym c.judge_read-judged.ensures ∙ c.in-Accepted.is) in
    (r.study.blocks, own_place _ _ _ r.study.owners r.own)

pub write_fresh-requires : goal.write_fresh-requires
write_fresh-requires c =
    let r = reads _ _ _ _ (sym c.judge_read-judged.ensures ∙ c.in-Accepted.is) in
    (rw c.block.ensures.0 r.fine, r.cells)

pub returns : goal.returns
unfolding read_sheet
returns c =
    let answer = sym c.judge_read-judged.ensures ∙ c.in-Accepted.is in
    record {
      value = sym answer;
      sheet_after = rw (c.write_fresh.ensures, c.block.ensures.0) (renewed _ _ answer);
    }
