-- Working definition: what the filling knows of a street, the lines of two opposite approaches and the cells of their pair.
use Rattle.std.specs.Prelude.{◌≡◌, List, ℕ}
use Rattle.layout.specs.declared.Worksheet.{Worksheet}
use Rattle.entries.specs.Layout.{cycle}
use Rattle.procedure.specs.Approach.{read_approach}
use Rattle.procedure.specs.Pairs.{pick_of}
use Rattle.procedure.specs.Sheet.{lines_at, pair_at}
use Rattle.line_stages.specs.declared.Lines.{Lines}
use Rattle.line_stages.specs.Stages.{lines_of}
use Rattle.line_stages.specs.Cells.{cells_for}
use Rattle.sheet_pairs.specs.Cells.{pair_in}
use Rattle.sheet_street.specs.declared.Street.{Street}

-- the lines of approach a, with o opposite it, on a sheet of kind k
abbrev pub LinesAt : Worksheet → List ℕ → ℕ → ℕ → Lines → Type 0
LinesAt k e a o r = r ≡ lines_of k (read_approach e a) (read_approach e o) (cycle e)

-- a single point's pair has no cell for its pick, and goes by it all the same
pub record StreetAt (k : Worksheet) (e : List ℕ) (a o : ℕ) (r : Street) : Type 0 where
  pub first : cells_for k r.one ≡ lines_at k e a o
  pub second : cells_for k r.other ≡ lines_at k e o a
  pub pair : pair_in k r.pair ≡ pair_at k e a o
  pub picked : r.pair.picked ≡ pick_of (pair_in k r.pair)
