-- Working definitions: the stages' values as the cells of an approach, in the lines' order.
use Rattle.std.specs.Prelude.{List, [], ◌∷◌, ◌++◌, ℕ, take}
use Rattle.layout.specs.declared.Worksheet.{Worksheet}
use Rattle.layout.specs.Sheet.{line_count}
use Rattle.line_stages.specs.declared.First.{First}
use Rattle.line_stages.specs.declared.Later.{Later}
use Rattle.line_stages.specs.declared.Lines.{Lines}

abbrev pub first_cells : First → List ℕ
first_cells x =
    x.volumes.left.0 ∷ x.volumes.through.0 ∷ x.volumes.right.0
    ∷ x.flows.turning ∷ x.flows.left.0 ∷ x.flows.through.0 ∷ x.flows.right.0 ∷ x.flows.straight.0 ∷ x.flows.lefts.0
    ∷ x.walking.right.0 ∷ x.walking.through.0 ∷ x.walking.frequency
    ∷ x.times.left.0 ∷ x.times.through.0 ∷ x.times.right.0
    ∷ x.times.adjustedleft.0 ∷ x.times.adjustedthrough.0 ∷ x.times.adjustedright.0
    ∷ []

abbrev pub later_cells : Later → List ℕ
later_cells x =
    x.lane.heaviest.0 ∷ x.lane.share ∷ x.lane.equivalent ∷ x.lane.flow.0
    ∷ x.permitted.a.0 ∷ x.permitted.b.0 ∷ x.permitted.lesser.0 ∷ x.permitted.weighted.0
    ∷ x.split.largest.0 ∷ x.split.weighted.0
    ∷ []

abbrev pub cells_of : Lines → List ℕ
cells_of x = first_cells x.first ++ later_cells x.later

-- those that a sheet of kind k has
abbrev pub cells_for : Worksheet → Lines → List ℕ
cells_for k x = take (line_count k) (cells_of x)
