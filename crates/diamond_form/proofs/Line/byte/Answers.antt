use mathlib.Core.Path.{refl}
use Rattle.text.specs.Text.{ascii, joined}
use Rattle.diamond_form.specs.Form.{form_bytes}
use Rattle.diamond_form.proofs.Line.byte.Goals as goal

pub returns : goal.returns
unfolding form_bytes joined ascii
returns c = refl
