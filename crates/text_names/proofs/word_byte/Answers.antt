-- `text_names::word_byte`. The table in the code is the text of the definition, byte for byte.
use Rattle.text_names.specs.Names.{word_table}
use Rattle.text.specs.Text.{joined, ascii}
use mathlib.Core.Path.{refl}
use Rattle.text_names.proofs.word_byte.Goals as goal

pub returns : goal.returns
unfolding word_table joined ascii
returns c = refl
