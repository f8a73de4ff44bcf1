-- The front has a sheet's size, so it is filled as the entries are judged.
use Rattle.layout.specs.Sheet.{sheet_count}
use Rattle.sheet.proofs.Sized.{fill_answers, fill_leaves}
use lib.ListN.{length, take, drop}
use lib.Seq.{length-take-le, take_at}
use mathlib.Core.Path.{◌≡◌, sym, ◌∙◌}
use Rattle.sheet_beside.proofs.fill_front.Goals.{Start}
use Rattle.sheet_beside.proofs.fill_front.Goals as goal

-- as many cells as a sheet has
sized : (s : Start) → length (take (sheet_count s.args.kind) s.args.area.now) ≡ sheet_count s.args.kind
sized s = length-take-le (sheet_count s.args.kind) s.args.area.now s.requires

pub slice_bounds-fill-end-2 : goal.slice_bounds-fill-end-2
slice_bounds-fill-end-2 c = rw c.cells.ensures (sym (sized (goal.at.slice_bounds-fill-end-2 c).Start))

pub returns : goal.returns
returns c =
    let k = c.args.kind in
    let e = c.args.entries.now in
    let d = take (sheet_count k) c.args.area.now in
    let long = c.fill.auto.sheet in
    rw c.cells.ensures record {
      value = rw c.cells.ensures at c.fill.ensures.value ∙ fill_answers k e d (sized (goal.at.returns c).Start);
      area_after = take_at _ (drop (sheet_count k) c.args.area.now) (sheet_count k) (rw c.cells.ensures at long ∙ sized (goal.at.returns c).Start)
          ∙ rw c.cells.ensures at c.fill.ensures.sheet_after ∙ fill_leaves k e d (sized (goal.at.returns c).Start);
    }
