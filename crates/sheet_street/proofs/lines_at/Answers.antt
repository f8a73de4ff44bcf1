-- Acceptable entries make fair approaches and a fair cycle; the lines of those are the promise.
use Rattle.procedure.proofs.Fair.{fair, fair_cycle}
use Rattle.sheet_street.proofs.lines_at.Goals as goal

pub lines_of-requires : goal.lines_of-requires
lines_of-requires c =
    let e = c.args.entries.now in
    rw (c.read_approach-s.ensures, c.read_approach-t.ensures, c.read_cycle.ensures)
    (fair e c.requires.0 c.args.a c.requires.1, fair e c.requires.0 c.args.o c.requires.2, fair_cycle e c.requires.0)

pub returns : goal.returns
returns c =
    rw (c.read_approach-s.ensures, c.read_approach-t.ensures, c.read_cycle.ensures) at c.lines_of.ensures
