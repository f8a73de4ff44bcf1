use Rattle.program_open_read.proofs.print_sheet.Goals as goal

pub returns : goal.returns
returns c =
    rw (c.word.ensures, c.site_in.ensures, c.take_entries.ensures) at c.print_site.ensures
