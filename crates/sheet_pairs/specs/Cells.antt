-- Working definition: a pair's values as its cells, "protected .. permitted .. split .. picked", and those that a sheet of kind k has.
use Rattle.std.specs.Prelude.{List, [], ◌∷◌, ℕ, take}
use Rattle.layout.specs.declared.Worksheet.{Worksheet}
use Rattle.layout.specs.Sheet.{pair_cells as pair_cell_count}
use Rattle.sheet_pairs.specs.declared.Pair.{Pair}

abbrev pub pair_cells : Pair → List ℕ
pair_cells x = x.protected.0 ∷ x.permitted.0 ∷ x.split.0 ∷ x.picked ∷ []

abbrev pub pair_in : Worksheet → Pair → List ℕ
pair_in k x = take (pair_cell_count k) (pair_cells x)
