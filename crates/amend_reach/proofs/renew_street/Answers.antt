-- Four copies in turn are one copy of the cells of any of them. What is to fit: a block of lines, or a pair's cells, end before the last cells.
use Rattle.layout.specs.Sheet.{line_count, lines_of}
use Rattle.sheet_cells.specs.Cells.{opposite}
use Rattle.amend_reach.specs.Working.{street_cells}
use Rattle.amend_reach.proofs.Merging.{merged_in_turn}
use Rattle.amend_reach.proofs.Blocks.{ends}
use Rattle.amend_reach.proofs.Copies.{facing_lines}
use native.Mathlib.Omega.{arith}
use Rattle.amend_reach.proofs.renew_street.Goals as goal

pub copy_named-requires : goal.copy_named-requires
copy_named-requires c =
    omega (arith, ends c.args.kind c.args.approach c.requires.2)

pub overflow_add-across : goal.overflow_add-across
overflow_add-across c =
    let across = c.opposite_of in
    omega (arith, ends c.args.kind across.result across.ensures.1)

pub overflow_sub-across : goal.overflow_sub-across
overflow_sub-across c =
    let across = c.opposite_of in
    omega (arith, ends c.args.kind across.result across.ensures.1)

pub overflow_add-across-2 : goal.overflow_add-across-2
overflow_add-across-2 c =
    let across = c.opposite_of in
    omega (arith, ends c.args.kind across.result across.ensures.1)

pub copy_if-requires : goal.copy_if-requires
copy_if-requires c =
    let across = c.opposite_of in
    omega (arith, ends c.args.kind across.result across.ensures.1)

pub overflow_add-pair : goal.overflow_add-pair
overflow_add-pair c =
    omega (arith, ends c.args.kind c.args.approach c.requires.2)

pub copy_if-requires-2 : goal.copy_if-requires-2
copy_if-requires-2 c =
    omega (arith, ends c.args.kind c.args.approach c.requires.2)

pub returns : goal.returns
unfolding street_cells
returns c =
    let a = c.args in
    let across = c.opposite_of.ensures.0 in
    let lines = c.lines_of-across.ensures in
    let faced =
    rw (lines, across, c.facing_to.ensures, ← facing_lines (line_count a.kind) (lines_of a.kind (opposite a.approach)) a.reach.facing)
    at c.copy_if.ensures in
    let paired = rw (c.pair_of-pair.ensures, c.pair_cells.ensures) at c.copy_if-2.ensures in
    let ended = rw (c.last_from-last.ensures, c.cells.ensures) at c.copy_run.ensures in
    merged_in_turn _ _ _ _ _ _ (rw c.lines_of.ensures at c.copy_named.ensures) faced paired ended
