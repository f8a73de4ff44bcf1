-- The entry first, then all of the sheet past the entries or the street of its approach, as the row of its kind says.
use Rattle.amend_reach.proofs.Whole.{all_written, street_written, all_renewed, same_row, not_cycle}
use Rattle.amend_reach.specs.Reach.{reach_of}
use mathlib.Core.Path.{◌∙◌, ap}
use native.Mathlib.Omega.{arith}
use lib.ListN.{get_or, length-set}
use borrow.Author.Rules.{rules}
use Rattle.amend_reach.proofs.renew.Goals as goal

pub copy_run-requires : goal.copy_run-requires
copy_run-requires c = simp length-set (search rules)

pub shape_of-sheet-then-reach : goal.shape_of-sheet-then-reach
shape_of-sheet-then-reach c =
    let a = c.args in
    omega (arith, length-set a.sheet.now a.entry (get_or a.fresh.now a.entry 0))

pub returns-then-reach : goal.returns-then-reach
returns-then-reach c =
    let row = same_row c.of-reach.ensures ∙ ap reach_of c.at.ensures in
    rw c.cells.ensures at c.copy_run.ensures
    ∙ all_renewed c.args.kind c.args.fresh.now c.args.sheet.now (omega arith) c.requires.0 c.args.entry (omega arith)
    (rw (← row) (all_written c.args.kind _ c.if-reach.true))

pub approach_at-requires : goal.approach_at-requires
approach_at-requires c =
    let row = same_row c.of-reach.ensures ∙ ap reach_of c.at.ensures in
    not_cycle _ (omega arith) (rw row at c.if-reach.false)

pub shape_of-sheet : goal.shape_of-sheet
shape_of-sheet c =
    let a = c.args in
    omega (arith, length-set a.sheet.now a.entry (get_or a.fresh.now a.entry 0))

pub returns : goal.returns
returns c =
    let approach = c.approach_at.ensures in
    let row = same_row c.of-reach.ensures ∙ ap reach_of c.at.ensures in
    c.renew_street.ensures
    ∙ all_renewed c.args.kind c.args.fresh.now c.args.sheet.now (omega arith) c.requires.0 c.args.entry (omega arith)
    (rw (← row, ← approach.0) (street_written c.args.kind _ _ approach.1 c.if-reach.false))
