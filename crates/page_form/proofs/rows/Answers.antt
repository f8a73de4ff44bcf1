use Rattle.page_form.proofs.rows.Goals as goal

pub returns : goal.returns
returns c = rw (c.end.ensures, c.beside.ensures.0)
