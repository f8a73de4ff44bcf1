-- Filling a sheet of the right size answers as the entries are judged.
use Prim.Native.Nat.{ℕ}
use mathlib.Core.Path.{◌≡◌}
use mathlib.Core.List.{List}
use lib.ListN.{length}
use borrow.Author.Tests.{eq-eqb}
use Rattle.answers.specs.Answers.{left_by}
use Rattle.layout.specs.declared.Worksheet.{Worksheet}
use Rattle.layout.specs.Sheet.{sheet_count}
use Rattle.entries.specs.Judging.{judged_for}
use Rattle.procedure.specs.Sheet.{sheet_for}
use Rattle.sheet_cells.specs.Cells.{sheet_answer}
use Rattle.sheet.specs.Fill.{fill_answer, filled}

module _ (k : Worksheet) (e d : List ℕ) (sized : length d ≡ sheet_count k) where
  pub fill_answers : fill_answer k e d ≡ judged_for k e
  unfolding fill_answer sheet_answer
  fill_answers = rw (eq-eqb (length d) (sheet_count k) sized)

  pub fill_leaves : filled k e d ≡ left_by (judged_for k e) (sheet_for k e) d
  unfolding filled
  fill_leaves = rw fill_answers
