-- Every cell of a sheet, and every number beside it, stands on the page, in its row and its column.
use mathlib.Core.Path.{◌≡◌, refl}
use mathlib.Core.Bool.{Bool, true}
use Prim.Native.Nat.{ℕ, ◌<◌}
use lib.Dec.{eqb, ltb}
use borrow.Author.Tests.{eqb-true, ltb-true}
use Rattle.lists.proofs.Tests.{holds_below, at_each}
use Rattle.layout.specs.declared.Worksheet.{Worksheet}
use Rattle.layout.specs.declared.Worksheet.TheVariants.{Junction, Point}
use Rattle.page_form.specs.Form.{row_count, shown_count, section_by, section_of, cell_in, row_of, column_of}

pub record OnPage (k : Worksheet) (cell : ℕ) : Type 0 where
  pub there : cell_in k (row_of k cell) (column_of k cell) ≡ cell
  pub row : row_of k cell < row_count k
  pub column : column_of k cell < (section_of k cell).columns

-- what is computed of each cell
abbrev is_there : Worksheet → ℕ → Bool
is_there k cell = eqb (cell_in k (row_of k cell) (column_of k cell)) cell

abbrev in_rows : Worksheet → ℕ → Bool
in_rows k cell = ltb (row_of k cell) (row_count k)

abbrev in_columns : Worksheet → ℕ → Bool
in_columns k cell = ltb (column_of k cell) (section_of k cell).columns

by_tests : (k : Worksheet) → holds_below (is_there k) (shown_count k) ≡ true → holds_below (in_rows k) (shown_count k) ≡ true
    → holds_below (in_columns k) (shown_count k) ≡ true
    → (cell : ℕ) → cell < shown_count k → OnPage k cell
by_tests k there rows columns cell h =
    record {
      there = eqb-true _ _ (at_each (is_there k) (shown_count k) there cell h);
      row = ltb-true _ _ (at_each (in_rows k) (shown_count k) rows cell h);
      column = ltb-true _ _ (at_each (in_columns k) (shown_count k) columns cell h);
    }

pub on_page : (k : Worksheet) (cell : ℕ) → cell < shown_count k → OnPage k cell
unfolding section_by
on_page Junction = by_tests Junction refl refl refl
on_page Point = by_tests Point refl refl refl
