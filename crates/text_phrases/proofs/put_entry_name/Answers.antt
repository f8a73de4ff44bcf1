-- `text_phrases::put_entry_name`. The group's name, a blank, the kind's name.
use Rattle.text.proofs.Laws.{placed_three}
use native.Mathlib.Omega.{arith}
use Rattle.text_phrases.proofs.put_entry_name.Goals as goal

pub returns : goal.returns
returns c =
    let group = rw c.title_of-title.ensures at c.put_name-titled.ensures.0 in
    let kind = rw c.kind_of-kind.ensures.0 at c.put_name.ensures.0 in
    (placed_three group c.put_byte-parted.ensures kind (omega arith), omega arith)
