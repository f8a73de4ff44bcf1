-- The loop's invariant: the bytes passed are those of the sheet, the others are as they were.
use mathlib.Core.Path.{◌≡◌}
use Rattle.lists.specs.Lists.{table, over}
use Rattle.page.specs.Worksheet.{sheet_byte}
use Rattle.page.proofs.print.Given as goal

abbrev pub invariant-loop-i : goal.invariant-loop-i
invariant-loop-i l = l.out ≡ over l.initial.out 0 (table (sheet_byte l.kind l.cells) l.i)
