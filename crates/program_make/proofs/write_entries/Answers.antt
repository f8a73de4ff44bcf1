use Rattle.program_make.proofs.Laws.{file_placed}
use native.Mathlib.Omega.{arith}
use Rattle.program_make.proofs.write_entries.Goals as goal

pub returns : goal.returns
returns c =
    file_placed c.args.entries.now c.args.sites c.requires.0 c.requires.1 (omega arith) c.write.ensures.out_after
    c.file_bytes.ensures
