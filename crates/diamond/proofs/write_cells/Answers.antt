-- The front and the rest are put one after the other; together they are the worksheet's cells.
use Rattle.diamond_rules.specs.Lines.{west_side, east_side}
use Rattle.diamond.proofs.Bounds.{west_small, east_small}
use Rattle.diamond.proofs.Laws.{cells_assembled}
use lib.Dec.{lit<}
use Rattle.diamond.proofs.write_cells.Goals as goal

pub side_at-w-requires : goal.side_at-w-requires
side_at-w-requires c = (c.west.ensures.1, lit< tt, lit< tt, lit< tt)

pub side_at-e-requires : goal.side_at-e-requires
side_at-e-requires c = (c.east.ensures.1, lit< tt, lit< tt, lit< tt)

pub put_front-requires : goal.put_front-requires
unfolding west_side east_side
put_front-requires c =
    let ok = c.args.given.accepted in
    let w = rw c.west.ensures.0 at c.side_at-w.ensures in
    let e = rw c.east.ensures.0 at c.side_at-e.ensures in
    (c.requires, rw w (west_small _ ok), rw e (east_small _ ok))

pub best_at-requires : goal.best_at-requires
unfolding west_side east_side
best_at-requires c =
    let ok = c.args.given.accepted in
    let w = rw c.west.ensures.0 at c.side_at-w.ensures in
    let e = rw c.east.ensures.0 at c.side_at-e.ensures in
    (rw w (west_small _ ok), rw e (east_small _ ok))

pub returns : goal.returns
unfolding west_side east_side
returns c =
    let w = rw c.west.ensures.0 at c.side_at-w.ensures in
    let e = rw c.east.ensures.0 at c.side_at-e.ensures in
    let second = rw c.best_at.ensures at c.put.ensures in
    cells_assembled c.args.given.numbers.now c.args.cells.now c.requires w e c.travel.ensures.0 c.put_front.ensures second
