-- The sheet's entries take the place of the whole lent list, and the changes are made in it.
use Rattle.layout.specs.Entries.{entry_count}
use Rattle.amend_sets.specs.Amend.{entries_with}
use Rattle.lists.proofs.Laws.{over_whole}
use lib.Seq.{length-take-le}
use lib.ListN.{length, take}
use native.Mathlib.Omega.{arith}
use mathlib.Core.Path.{◌≡◌}
use Rattle.amend_sets.proofs.entries_with.Goals.{Start}
use Rattle.amend_sets.proofs.entries_with.Goals as goal

part : (s : Start) → length (take entry_count s.args.sheet.now) ≡ entry_count
part s = length-take-le entry_count s.args.sheet.now (omega (arith, s.requires))

pub slice_bounds-put-end-2 : goal.slice_bounds-put-end-2
slice_bounds-put-end-2 c = omega (arith, part (goal.at.slice_bounds-put-end-2 c).Start)

pub put-requires : goal.put-requires
put-requires c = omega (arith, part (goal.at.put-requires c).Start)

pub returns : goal.returns
unfolding entries_with
returns c =
    rw (
      c.change.ensures,
      c.put.ensures,
      over_whole c.args.entries.now (take entry_count c.args.sheet.now) (omega (arith, part (goal.at.returns c).Start)),
    )
