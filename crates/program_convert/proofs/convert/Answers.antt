-- The sites' entries at the front of all, and the file of those.
use Rattle.program_convert.proofs.Laws.{front_sites}
use Prim.Native.Nat.{ℕ, ◌*◌}
use mathlib.Core.List.{List}
use lib.ListN.{replicate}
use Rattle.layout.specs.Entries.{entry_count}
use Rattle.study.specs.Study.{site_limit}
use Rattle.program_convert.proofs.convert.Goals as goal

pub returns : goal.returns
returns c =
    let file = c.args.file.now in
    let noughts : List ℕ = replicate (entry_count * site_limit) 0 in
    let front = front_sites file noughts c.args.sites in
    let made = rw (c.put_sites.ensures, front) at c.make.ensures in
    rw (← c.requires.1) made
