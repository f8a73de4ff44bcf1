-- `program_open_read::take_entries`. The front of the sheet takes the place of the whole lent list.
use Rattle.lists.proofs.Laws.{over_whole}
use Rattle.layout.specs.Entries.{entry_count}
use lib.ListN.{length, take}
use lib.Seq.{length-take-le}
use mathlib.Core.Path.{◌≡◌, sym}
use native.Mathlib.Omega.{arith}
use Rattle.program_open_read.proofs.take_entries.Goals.{Start}
use Rattle.program_open_read.proofs.take_entries.Goals as goal

size : (s : Start) → length (take entry_count s.args.sheet.now) ≡ entry_count
size s = length-take-le entry_count s.args.sheet.now s.requires

pub slice_bounds-put-end-2 : goal.slice_bounds-put-end-2
slice_bounds-put-end-2 c = sym (size (goal.at.slice_bounds-put-end-2 c).Start)

pub put-requires : goal.put-requires
put-requires c = omega (arith, size (goal.at.put-requires c).Start)

pub returns : goal.returns
returns c =
    rw c.put.ensures (over_whole c.args.entries.now (take entry_count c.args.sheet.now) (omega (arith, size (goal.at.returns c).Start)))
