-- Acceptable entries make fair approaches and a fair cycle; the rest is what each call promises.
use Rattle.procedure.proofs.Fair.{fair, fair_cycle}
use Rattle.sheet_beside.proofs.lane_at.Goals as goal

pub own_lane-requires : goal.own_lane-requires
own_lane-requires c =
    let e = c.args.entries.now in
    rw (c.read_approach-s.ensures, c.read_approach-t.ensures, c.read_cycle.ensures)
    (fair e c.requires.0 c.args.a c.requires.1, fair e c.requires.0 c.args.o c.requires.2, fair_cycle e c.requires.0)

pub returns : goal.returns
returns c =
    rw (c.own_lane.ensures, c.read_approach-s.ensures, c.read_approach-t.ensures, c.read_cycle.ensures)
