use Rattle.layout.specs.Sheet.{sheet_count}
use lib.Seq.{length-take-le}
use mathlib.Core.Path.{sym}
use Rattle.sheet_beside.proofs.put_front.Goals as goal

pub slice_bounds-put_all-end : goal.slice_bounds-put_all-end
slice_bounds-put_all-end c =
    rw c.cells.ensures (sym (length-take-le (sheet_count c.args.kind) c.args.area.now c.requires.kind_in_bounds.0))

pub put_all-requires : goal.put_all-requires
put_all-requires c =
    (c.requires.entries_value.0, rw c.cells.ensures c.requires.entries_value.1, c.requires.kind_in_bounds.1)

pub returns : goal.returns
returns c = c.put_all.ensures
