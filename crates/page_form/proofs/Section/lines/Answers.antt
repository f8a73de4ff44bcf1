use mathlib.Core.Path.{refl}
use Rattle.page_form.proofs.Sections.{small_lines}
use Rattle.page_form.proofs.Section.lines.Goals as goal

pub returns : goal.returns
returns c = rw c.lines.ensures (refl, small_lines c.args.kind)
