use Rattle.sheet_beside.proofs.Laws.{within}
use Rattle.sheet_beside.proofs.line_in.Goals as goal

pub cell_in-requires : goal.cell_in-requires
cell_in-requires c =
    rw (c.lines.ensures, c.lines_of.ensures, c.requires.0) (within c.args.kind c.args.a c.requires.1).lines

pub returns : goal.returns
returns c = rw (c.cell_in.ensures, c.lines.ensures, c.lines_of.ensures)
