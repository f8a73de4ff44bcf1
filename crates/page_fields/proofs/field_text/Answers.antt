use mathlib.Core.Path.{refl}
use Rattle.text.specs.Text.{ascii, joined}
use Rattle.page_fields.specs.Fields.{fields}
use Rattle.page_fields.proofs.field_text.Goals as goal

pub returns : goal.returns
unfolding fields joined ascii
returns c = refl
