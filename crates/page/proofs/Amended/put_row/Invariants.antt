-- The loop's invariant: the row's bytes passed stand from the place on.
use mathlib.Core.Path.{◌≡◌}
use Rattle.lists.specs.Lists.{table, over}
use Rattle.page.specs.Worksheet.{change_byte}
use Rattle.page.proofs.Amended.put_row.Given as goal

abbrev pub invariant-loop-i : goal.invariant-loop-i
invariant-loop-i l = l.out ≡ over l.initial.out l.at (table (change_byte l.self.kind l.self.before.now l.self.after.now l.cell) l.i)
