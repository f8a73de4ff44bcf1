use Rattle.program_list.proofs.Laws.{listing_placed}
use native.Mathlib.Omega.{arith}
use Rattle.program_list.proofs.print_listing.Goals as goal

pub returns : goal.returns
returns c =
    let list = c.list.ensures in
    listing_placed c.args.file.now 0 (omega arith) list.out_after list.written_after
