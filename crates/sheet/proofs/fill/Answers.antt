-- A refusal of the size or of the entries is handed on and the sheet kept; accepted, it is written afresh.
use Rattle.sheet_cells.proofs.Cells.{sheet_accepted}
use Rattle.sheet.specs.Fill.{fill_answer, filled}
use Rattle.procedure.specs.Sheet.{sheet_for}
use Rattle.answers.proofs.Laws.{handed_on, passed, kept, renewed}
use mathlib.Core.Path.{sym, ◌∙◌}
use Rattle.sheet.proofs.fill.Goals as goal

pub returns-in_default : goal.returns-in_default
unfolding fill_answer filled
returns-in_default c =
    let answer = handed_on _ c.check_sheet-size.ensures c.in_default.is in
    record {
      value = answer;
      sheet_after = kept _ _ (sym answer ∙ c.in_default.is);
    }

pub returns-in_default-judged : goal.returns-in_default-judged
unfolding fill_answer filled
returns-in_default-judged c =
    let answer = passed _ c.check_sheet-size.ensures c.in-Accepted.is
    c.judge-judged.ensures in
    record {
      value = answer;
      sheet_after = kept _ _ (sym answer ∙ c.in_default-judged.is);
    }

pub write_fresh-requires : goal.write_fresh-requires
write_fresh-requires c = (
  sym c.judge-judged.ensures ∙ c.in-Accepted-judged.is,
  sheet_accepted c.args.kind c.args.sheet.now (sym c.check_sheet-size.ensures ∙ c.in-Accepted.is),
)

pub returns : goal.returns
unfolding fill_answer filled
returns c =
    let answer = passed _ c.check_sheet-size.ensures
    c.in-Accepted.is
    (sym c.in-Accepted-judged.is ∙ c.judge-judged.ensures) in
    record {
      value = answer;
      sheet_after = c.write_fresh.ensures ∙ renewed (sheet_for c.args.kind c.args.entries.now) _ (sym answer);
    }
