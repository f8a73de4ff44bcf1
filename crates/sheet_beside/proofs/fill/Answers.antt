-- The fill answers as the entries are judged: refused, the list is kept; accepted, the sheet and what stands beside it are put.
use Rattle.layout.proofs.Laws.{few}
use Rattle.procedure.specs.Sheet.{sheet_for}
use Rattle.answers.proofs.Laws.{kept, renewed}
use Rattle.lists.specs.Lists.{over}
use Rattle.sheet_beside.specs.Beside.{beside, filled_beside}
use mathlib.Core.List.{◌++◌}
use mathlib.Core.Path.{sym, ◌∙◌}
use native.Mathlib.Omega.{arith}
use Rattle.sheet_beside.proofs.fill.Goals as goal

pub fill_front-answer-requires : goal.fill_front-answer-requires
fill_front-answer-requires c = omega (arith, (few c.args.kind).cells)

pub returns-in_default : goal.returns-in_default
unfolding filled_beside
returns-in_default c =
    let answer = c.fill_front-answer.ensures.value in
    record {
      value = answer;
      all_after = kept _ _ (sym answer ∙ c.in_default.is);
    }

pub put_front-requires : goal.put_front-requires
put_front-requires c =
    let small = few c.args.kind in
    let good = sym c.fill_front-answer.ensures.value ∙ c.in-Accepted.is in
    record {
      entries_value = (good, rw good at c.fill_front-answer.ensures.area_after);
      kind_in_bounds = (omega (arith, small.cells), omega (arith, small.cells, small.beside));
    }

pub returns : goal.returns
unfolding filled_beside
returns c =
    let k = c.args.kind in
    let e = c.args.entries.now in
    let good = sym c.fill_front-answer.ensures.value ∙ c.in-Accepted.is in
    record {
      value = sym good;
      all_after = c.put_front.ensures ∙ renewed (over c.args.all.now 0 (sheet_for k e ++ beside k e)) _ good;
    }
