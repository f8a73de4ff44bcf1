-- The parts are put one after the other, each where the one before it ends.
use Rattle.diamond_rules.specs.Lines.{times_of, sides_of}
use Rattle.lists.proofs.Laws.{over_then}
use mathlib.Core.List.{◌++◌}
use native.Mathlib.Omega.{arith}
use Rattle.diamond.proofs.put_front.Goals as goal

pub returns : goal.returns
unfolding sides_of
returns c =
    let a = c.args in
    let d = a.cells.now in
    let w = times_of a.w in
    let e = times_of a.e in
    let one = rw c.times_of.ensures at c.put.ensures in
    let two = rw c.times_of-2.ensures at c.put-2.ensures in
    let three = rw c.sides_of.ensures at c.put-3.ensures in
    let times = over_then d 0 w e one two (omega arith) (omega (arith, c.requires.0)) in
    over_then d 0 (w ++ e) (sides_of a.travel.0.0 a.w a.e) times three (omega arith)
    (omega (arith, c.requires.0))
