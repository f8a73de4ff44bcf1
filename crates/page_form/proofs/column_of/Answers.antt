use Rattle.page_form.proofs.column_of.Goals as goal

pub returns : goal.returns
returns c = rw (c.saturating_sub.ensures, c.of-section.ensures.0)
