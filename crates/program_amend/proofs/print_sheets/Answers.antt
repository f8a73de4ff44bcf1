-- Both sheets are filled; that of refused entries is not listed.
use Rattle.program_amend.proofs.Laws.{left_twice}
use Rattle.sheet.proofs.Sized.{fill_answers, fill_leaves}
use Rattle.entries.specs.Judging.{judged_for}
use Rattle.procedure.specs.Sheet.{sheet_for}
use Prim.Native.Nat.{ℕ}
use lib.ListN.{replicate, length-replicate}
use mathlib.Core.Path.{◌∙◌}
use mathlib.Core.List.{List, []}
use Rattle.program_amend.proofs.print_sheets.Goals as goal

pub returns : goal.returns
returns g c =
    let k = c.args.kind in
    let e = c.args.entries.now in
    let blank : List ℕ = replicate g.row.N 0 in
    let sized = length-replicate g.row.N 0 ∙ c.requires.0 in
    let answer = c.fill-filled.ensures.value ∙ fill_answers k e blank sized in
    let before = c.fill-filled.ensures.sheet_after ∙ fill_leaves k e blank sized in
    let after = rw c.requires.1 at (c.fill.ensures.sheet_after ∙ fill_leaves k c.args.changed.now blank sized) in
    rw (answer, before, after, left_twice (judged_for k e) (sheet_for k e) blank []) at c.list_changes.ensures
