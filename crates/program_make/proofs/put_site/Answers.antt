-- `program_make::put_site`. No room in two ways, and room: one test of the definition.
use Rattle.program_make.specs.Make.{with_site}
use Rattle.layout.specs.Entries.{entry_count}
use Prim.Native.Nat.{◌+◌, ◌*◌}
use lib.ListN.{length}
use borrow.Author.Tests.{le-leb, lt-leb}
use native.Mathlib.Omega.{arith}
use Rattle.program_make.proofs.put_site.Goals as goal

pub returns-then-all-at : goal.returns-then-all-at
unfolding with_site
returns-then-all-at c =
    let args = c.args in
    rw (lt-leb (entry_count * args.site + length args.entries.now) (length args.all.now) (omega arith))

pub returns-then-all-at-2 : goal.returns-then-all-at-2
unfolding with_site
returns-then-all-at-2 c =
    let args = c.args in
    rw (lt-leb (entry_count * args.site + length args.entries.now) (length args.all.now) (omega arith))

pub returns : goal.returns
unfolding with_site
returns c =
    let args = c.args in
    rw (le-leb (entry_count * args.site + length args.entries.now) (length args.all.now) (omega arith)) c.put.ensures
