use Rattle.program_open_amend.proofs.print_changes.Goals as goal

pub returns : goal.returns
returns c =
    rw (c.read_site.ensures.sheet_after, c.read_site-filled.ensures.sheet_after, c.read_site-filled.ensures.value) at c.list_changes.ensures
