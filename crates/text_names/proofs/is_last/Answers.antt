use Rattle.text_names.proofs.is_last.Goals as goal

pub returns : goal.returns
returns c = rw (← c.of_entry-class.ensures.is, c.number.ensures.0)

pub number-requires : goal.number-requires
number-requires c = c.of_entry-class.ensures
