use Rattle.program_open.proofs.read_site.Goals as goal

pub returns : goal.returns
returns c =
    rw (c.site_in.ensures, c.office_in.ensures) at c.read.ensures
