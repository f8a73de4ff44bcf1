-- `diamond_beside::fill`. It answers as the record is judged: refused, the list is kept; accepted, all of it is written.
use Rattle.answers.proofs.Laws.{kept, renewed}
use Rattle.diamond_beside.specs.Beside.{page_numbers, filled_page}
use Rattle.diamond_beside.proofs.Laws.{rate_answers, rate_leaves}
use mathlib.Core.Path.{sym, ◌∙◌}
use Rattle.diamond_beside.proofs.fill.Goals as goal

pub returns-in_default : goal.returns-in_default
unfolding filled_page
returns-in_default c =
    let r = c.args.numbers.now in
    let answer = c.rate-answer.ensures.value ∙ rate_answers r in
    record {
      value = answer;
      all_after = kept _ _ (sym answer ∙ c.in_default.is);
    }

pub new-requires : goal.new-requires
new-requires c = sym (c.rate-answer.ensures.value ∙ rate_answers c.args.numbers.now) ∙ c.in-Accepted.is

pub put_all-requires : goal.put_all-requires
put_all-requires c =
    let r = c.args.numbers.now in
    let good = sym (c.rate-answer.ensures.value ∙ rate_answers r) ∙ c.in-Accepted.is in
    rw c.new.ensures (rw (rate_leaves r, good) at c.rate-answer.ensures.cells_after)

pub returns : goal.returns
unfolding filled_page
returns c =
    let r = c.args.numbers.now in
    let good = sym (c.rate-answer.ensures.value ∙ rate_answers r) ∙ c.in-Accepted.is in
    record {
      value = sym good;
      all_after = rw c.new.ensures at c.put_all.ensures ∙ renewed (page_numbers r) _ good;
    }
