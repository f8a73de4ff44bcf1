-- Bounds that only inner contracts and proofs lean on.
use Rattle.std.specs.Prelude.{ℕ, ◌+◌, ◌*◌}
use Rattle.layout.specs.declared.Worksheet.TheVariants.{Junction}
use Rattle.layout.specs.Sheet.{sheet_count}
use Rattle.page.specs.Worksheet.{row_width}

-- room for the heading and a row for each cell of the larger sheet, a junction's
abbrev pub change_bytes : ℕ
change_bytes = row_width * (sheet_count Junction + 1)
