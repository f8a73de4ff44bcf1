-- Working definitions: the time of an option that is allowed; as its cell holds it, BLANK where there is none; and lines 25 and 26 of such.
use Rattle.std.specs.Prelude.{Option, None, Some, ℕ, min}
use Rattle.units.specs.declared.Ms.{Ms}
use Rattle.layout.specs.Sheet.{BLANK}
use Rattle.procedure.specs.declared.Approach.{Approach}
use Rattle.line_formulas.specs.Working.{weighed_by}
use Rattle.line_stages.specs.Stages.{ms}

abbrev pub cell : Option Ms → ℕ
cell None = BLANK
cell (Some time) = time.0

abbrev pub lesser_time : Option Ms → Option Ms → Option Ms
lesser_time None b = b
lesser_time (Some a) None = Some a
lesser_time (Some a) (Some b) = Some (ms (min a.0 b.0))

abbrev pub weighed_time : Approach → ℕ → Option Ms → Option Ms
weighed_time s F None = None
weighed_time s F (Some time) = Some (ms (weighed_by s F time.0))
