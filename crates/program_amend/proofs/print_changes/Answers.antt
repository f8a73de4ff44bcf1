-- The lent cells are as many as a sheet of the kind has.
use Rattle.layout.specs.Sheet.{sheet_count}
use mathlib.Core.Path.{sym, ap}
use Rattle.program_amend.proofs.print_changes.Goals as goal

pub print_sheets-requires : goal.print_sheets-requires
print_sheets-requires c = (sym (ap sheet_count c.in-Junction.is), c.requires)

pub print_sheets-requires-in-Point : goal.print_sheets-requires-in-Point
print_sheets-requires-in-Point c = (sym (ap sheet_count c.in-Point.is), c.requires)
