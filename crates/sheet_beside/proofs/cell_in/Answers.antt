use lib.ListN.{drop, length-take, get_or-eq_default, take}
use lib.Seq.{get_or-take, get_or-drop}
use mathlib.Core.Path.{sym, ◌∙◌}
use native.Mathlib.Omega.{arith}
use Rattle.sheet_beside.proofs.cell_in.Goals as goal

pub returns-then-count-i : goal.returns-then-count-i
returns-then-count-i c =
    let a = c.args in
    let rest = drop a.from a.cells.now in
    sym (get_or-eq_default (take a.count rest) 0 (omega (arith, length-take a.count rest)))

pub returns : goal.returns
returns c =
    let a = c.args in
    sym (get_or-take a.count (drop a.from a.cells.now) a.i 0 (omega arith) ∙ get_or-drop a.from a.cells.now a.i 0)
