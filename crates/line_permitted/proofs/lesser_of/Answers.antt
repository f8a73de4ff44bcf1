use mathlib.Core.Path.{ap}
use Rattle.std.specs.Prelude.{Some}
use Rattle.line_bounds.proofs.Order.{smaller}
use Rattle.line_permitted.proofs.Laws.{time_is}
use Rattle.line_permitted.proofs.lesser_of.Goals as goal

pub returns-in-Some-Some : goal.returns-in-Some-Some
returns-in-Some-Some c =
    let both = c.in-Some-Some in
    rw (both.is-0, both.is-1) (ap Some (time_is (smaller both.a both.b c.min.ensures)))
