-- Bounds that only inner contracts and proofs lean on.
use Rattle.std.specs.Prelude.{ℕ, ◌≤◌, ◌<◌}
use Rattle.layout.specs.Entries.{approach_count}
use Rattle.layout.specs.declared.Worksheet.TheVariants.{Junction}
use Rattle.page_form.specs.declared.Counted.TheVariants.{Rows, Cells}
use Rattle.page_form.specs.declared.Section.{Section}
use Rattle.page_form.specs.Form.{end_of, row_count, shown_count}

-- the larger page is a junction's
abbrev pub most_rows : ℕ
most_rows = row_count Junction

abbrev pub most_cells : ℕ
most_cells = shown_count Junction

-- a section is within the larger page, and none steps by nothing
pub record Small (s : Section) : Type 0 where
  pub rows : end_of Rows s ≤ most_rows
  pub cells : end_of Cells s ≤ most_cells
  pub wide : s.columns ≤ approach_count
  pub steps : 0 < s.step
