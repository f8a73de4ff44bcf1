use mathlib.Core.Path.{refl}
use Rattle.text.specs.Text.{ascii, joined}
use Rattle.diamond_form.specs.Form.{heading_bytes}
use Rattle.diamond_form.proofs.heading_byte.Goals as goal

pub returns : goal.returns
unfolding heading_bytes joined ascii
returns c = refl
