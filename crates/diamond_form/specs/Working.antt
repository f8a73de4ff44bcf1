-- Bounds that only inner contracts and proofs lean on.
use Rattle.std.specs.Prelude.{ℕ, ◌+◌, ◌≤◌}
use Rattle.layout.specs.Diamond.{diamond_page_count}
use Rattle.diamond_form.specs.Form.{side_lines, whole_lines}

-- a row counts from a place of the list, or from a number that is less
abbrev pub Near : ℕ → Type 0
Near from = from ≤ diamond_page_count

-- the rows of a side and those of the whole, one after the other
abbrev pub form_count : ℕ
form_count = side_lines + whole_lines
