use Rattle.sheet_beside.proofs.Laws.{within}
use Rattle.sheet_beside.proofs.pick_in.Goals as goal

pub cell_in-requires : goal.cell_in-requires
cell_in-requires c =
    rw (c.pair_cells.ensures, c.pair_of.ensures, c.requires.0) (within c.args.kind c.args.a c.requires.1).pair

pub returns : goal.returns
returns c = rw (c.at.ensures, c.cell_in.ensures, c.pair_cells.ensures, c.pair_of.ensures)
