-- `program_make::write_first`. More sites than fit are all there are; else the front of the entries is written.
use mathlib.Core.Path.{sym}
use lib.Seq.{length-take-le, take_all}
use Prim.Native.Nat.{◌*◌}
use Rattle.layout.specs.Entries.{entry_count}
use native.Mathlib.Omega.{arith}
use Rattle.program_make.proofs.write_first.Goals as goal

pub returns-then-sites-gt-MOST_SITES : goal.returns-then-sites-gt-MOST_SITES
returns-then-sites-gt-MOST_SITES c =
    let args = c.args in
    rw (take_all (entry_count * args.sites) args.all.now (omega arith)) c.write_entries.ensures

pub slice_bounds-write_entries-end : goal.slice_bounds-write_entries-end
slice_bounds-write_entries-end c =
    let args = c.args in
    sym (length-take-le (entry_count * args.sites) args.all.now (omega arith))

pub write_entries-requires-2 : goal.write_entries-requires-2
write_entries-requires-2 c =
    let args = c.args in
    (omega arith, length-take-le (entry_count * args.sites) args.all.now (omega arith))

pub returns : goal.returns
returns c = c.write_entries-2.ensures
