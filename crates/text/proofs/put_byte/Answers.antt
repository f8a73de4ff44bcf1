-- `text::put_byte`. One store puts the byte over the list.
use Rattle.text.proofs.Laws.{placed_one}
use Rattle.text.proofs.put_byte.Goals as goal

pub returns : goal.returns
returns c = placed_one _ _ _ c.requires
