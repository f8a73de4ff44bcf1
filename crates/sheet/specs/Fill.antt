-- What `fill` answers and leaves: demand 2's first half.
use Rattle.std.specs.Prelude.{List, ℕ}
use Rattle.answers.specs.Answers.{◌then◌, left_by}
use Rattle.answers.specs.declared.Answer.{Answer}
use Rattle.layout.specs.declared.Worksheet.{Worksheet}
use Rattle.entries.specs.Judging.{judged_for}
use Rattle.sheet_cells.specs.Cells.{sheet_answer}
use Rattle.procedure.specs.Sheet.{sheet_for}

-- the answer to filling the sheet d, of kind k, from the entries e
unfoldable pub fill_answer : Worksheet → List ℕ → List ℕ → Answer
fill_answer k e d = sheet_answer k d then judged_for k e

-- the sheet afterwards: the procedure's, or as it was
unfoldable pub filled : Worksheet → List ℕ → List ℕ → List ℕ
filled k e d = left_by (fill_answer k e d) (sheet_for k e) d
