-- A refusal of the cells or of the record is handed on and the cells kept; accepted, they are written.
use Rattle.diamond_rules.specs.Record.{cells_size, diamond_answer}
use Rattle.diamond_rules.specs.Lines.{diamond, rated}
use Rattle.answers.proofs.Laws.{handed_on, passed, kept, renewed, sized}
use mathlib.Core.Path.{sym, ◌∙◌}
use Rattle.diamond.proofs.rate.Goals as goal

pub returns-in_default : goal.returns-in_default
unfolding diamond_answer rated
returns-in_default c =
    let answer = handed_on _ c.check_cells-size.ensures c.in_default.is in
    record {
      value = answer;
      cells_after = kept _ _ (sym answer ∙ c.in_default.is);
    }

pub returns-in_default-judged : goal.returns-in_default-judged
unfolding diamond_answer rated
returns-in_default-judged c =
    let answer = passed _ c.check_cells-size.ensures c.in-Accepted.is c.judge-judged.ensures in
    record {
      value = answer;
      cells_after = kept _ _ (sym answer ∙ c.in_default-judged.is);
    }

pub new-requires : goal.new-requires
new-requires c = sym c.judge-judged.ensures ∙ c.in-Accepted-judged.is

pub write_cells-requires : goal.write_cells-requires
unfolding cells_size
write_cells-requires c = sized _ _ (sym c.check_cells-size.ensures ∙ c.in-Accepted.is)

pub returns : goal.returns
unfolding diamond_answer rated
returns c =
    let judged = sym c.in-Accepted-judged.is ∙ c.judge-judged.ensures in
    let answer = passed _ c.check_cells-size.ensures c.in-Accepted.is judged in
    record {
      value = answer;
      cells_after = rw c.new.ensures at c.write_cells.ensures ∙ renewed (diamond c.args.numbers.now) _ (sym answer);
    }
