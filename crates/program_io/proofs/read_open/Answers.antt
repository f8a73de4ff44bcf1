-- `program_io::read_open`. A read more: both are one.
use Rattle.std.proofs.Common.{rules}
use Rattle.std.proofs.lemmas.Slice.{overwrites}
use Rattle.program_io.proofs.Parts.{Consumes-twice, take-put_mid}
use Rattle.program_io.proofs.read_open.Goals as goal

pub loop-done-preserved : goal.loop-done-preserved
loop-done-preserved g c = search (rules, overwrites, Consumes-twice, take-put_mid)
