-- The walkers' part is no more than what they take beyond the cars, so that every sum has room.
use Rattle.kinds.specs.declared.Group.TheVariants.{Through}
use Rattle.kinds.specs.declared.Kind.TheVariants.{PedestrianTime}
use Rattle.kinds.specs.Working.{most_of}
use Rattle.units.specs.Unit.{whole}
use Rattle.line_bounds.proofs.Order.{larger}
use Rattle.line_bounds.proofs.Times.{walkers_share, walkers_room}
use Rattle.procedure.specs.Lines.{weighted_of}
use native.Mathlib.Omega.{arith}
use Prim.Native.Nat.{◌*◌, ◌-◌, ◌≤◌}
use Rattle.line_formulas.proofs.weigh.Goals.{After-divide_up-walking, After-max-b}
use Rattle.line_formulas.proofs.weigh.Goals as goal

-- what the walkers take beyond the cars
room :
    (d : After-max-b)
    → (d.max-b.result.0 - d.max-a.result.0) * d.args.frequency ≤ most_of PedestrianTime * whole
room d =
    let crossing = d.requires.0.crossing.most in
    walkers_room (d.max-b.result.0 - d.max-a.result.0) d.args.frequency (omega (arith, crossing, larger d.max-a.result d.args.s.crossing.0 d.max-b.ensures)) d.requires.1

share : (d : After-divide_up-walking) → d.divide_up-walking.result ≤ d.max-b.result.0 - d.max-a.result.0
share d =
    rw d.divide_up-walking.ensures (walkers_share (d.max-b.result.0 - d.max-a.result.0) d.args.frequency d.requires.1)

pub overflow_mul-b : goal.overflow_mul-b
overflow_mul-b c = omega (arith, room (goal.at.overflow_mul-b c).After-max-b)

pub divide_up-walking-requires : goal.divide_up-walking-requires
divide_up-walking-requires c = omega (arith, room (goal.at.divide_up-walking-requires c).After-max-b)

pub overflow_add-result : goal.overflow_add-result
overflow_add-result c =
    let through = c.requires.0.group Through in
    omega (arith, larger c.args.s.through.green.0 c.args.reference c.max-a.ensures, through.lost.most, through.green.most, c.requires.2)

pub overflow_cast-result : goal.overflow_cast-result
overflow_cast-result c = omega (arith, share (goal.at.overflow_cast-result c).After-divide_up-walking)

pub overflow_add-result-2 : goal.overflow_add-result-2
overflow_add-result-2 c =
    let through = c.requires.0.group Through in
    let crossing = c.requires.0.crossing.most in
    omega (arith, share (goal.at.overflow_add-result-2 c).After-divide_up-walking, larger c.max-a.result c.args.s.crossing.0 c.max-b.ensures, larger c.args.s.through.green.0 c.args.reference c.max-a.ensures, through.lost.most, through.green.most, crossing, c.requires.2)

pub returns : goal.returns
unfolding weighted_of
returns c =
    rw (← larger c.args.s.through.green.0 c.args.reference c.max-a.ensures, ← larger c.max-a.result c.args.s.crossing.0 c.max-b.ensures, ← c.divide_up-walking.ensures)
